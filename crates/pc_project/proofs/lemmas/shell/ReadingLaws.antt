-- What reading a deck says of its bytes, if the source reports them.
use Rattle.std.proofs.Common.{◌≡◌, ◌≤◌, ℕ, ◌<◌, ◌↔◌, List, length, Option, Some, None, Result, Ok, Err, Vec, inl, inr, refl, ap, arith, length-append}
use Rattle.std.proofs.lemmas.Bool.{cases_lt}
use Rattle.std.specs.Prelude.{IfSome, IfOk, IfErr, IsErrOf}
use Rattle.std.specs.Io.KnownBytes.{Consumes}
use Rattle.pc_deck.specs.Limits.{longest_deck}
use Rattle.pc_edges.specs.declared.loading.LoadError.{LoadError}
use Rattle.pc_edges.specs.declared.loading.LoadError.TheVariants as load
use Rattle.pc_edges.specs.inside.Loading.{HasLoaded}
use Rattle.pc_faults.specs.inside.FaultText.{IsTold}
use Rattle.pc_faults.specs.Faults.{too_long as fault_too_long}
use Rattle.pc_faults.specs.inside.First.{Refuses}
use Rattle.pc_faults.specs.declared.fault.DeckError.{DeckError}
use Rattle.pc_faults.specs.declared.fault.DeckError.TheVariants as error
use Rattle.pc_faults.specs.declared.fault.Fault.{Fault}
use Rattle.pc_project.specs.Project.{Project}
use Rattle.pc_project.specs.declared.shell.reading.NoProject.{NoProject}
use Rattle.pc_project.specs.declared.shell.reading.NoProject.TheVariants.{Refused, ReadFault, OutOfMemory}
use Rattle.pc_project.specs.shell.Sides.{Side, side, IsReadToEnd, OfBytes}
use Rattle.pc_project.specs.shell.Reading.{HasProjectBy, HasRefusal, HasRefusalBy, too_long as took_too_much, faulty}
use Rattle.pc_project.specs.inside.shell.Reading.{HasNoDeck, HasNoProjectBy, IsNoProjectBy, IsWholeDeck, lacking, unread}
use Rattle.pc_project.specs.shell.Verdict.{IsFault, too_long}
use Rattle.pc_project.proofs.lemmas.shell.SideLaws.{of_one, of_the_deck}

-- if more bytes than allowed were taken from a deck, it is too long
of_a_long_deck : (left left_after : Option (List ℕ)) (bytes : List ℕ) → Consumes left left_after bytes → longest_deck < length bytes → IfSome left (λ deck. longest_deck < length deck)
of_a_long_deck None left_after bytes consumed long = tt
of_a_long_deck (Some deck) None bytes consumed long = absurd consumed
of_a_long_deck (Some deck) (Some rest) bytes consumed long = omega (arith, ap length consumed, length-append bytes rest, long)

-- a source that was not read to its end has no deck
pub unread_deck : {S A : Type 0} (left : S → Option (List ℕ)) (faults : S → ℕ) (old new : S) (error : LoadError) → HasLoaded {A = A} (Err error) longest_deck left faults old new
    → (bytes : List ℕ) → Consumes (left old) (left new) bytes → IsErrOf {T = Vec ℕ A} (Err error) load.TooLong ↔ (longest_deck < length bytes)
    → HasNoDeck (side left faults old new) (unread error)
unread_deck left faults old new load.ReadFault loaded bytes took long =
    (loaded.fault refl, (bytes, took, elim (cases_lt longest_deck (length bytes)) [ inl above ↦ absurd (let never = long.1 above in cc) | inr within ↦ within ]))
unread_deck left faults old new load.TooLong loaded bytes took long = (refl, took_too_much refl (bytes, took, long.0 refl))
unread_deck left faults old new load.OutOfMemory loaded bytes took long = tt

-- the project that a complete deck makes is that of the source
pub whole_has : {S : Type 0} (Makes : List ℕ → Project → Type 0) (source : Side S) (bytes : List ℕ) → IsWholeDeck source bytes
    → (result : Result Project NoProject) → IfOk result (Makes bytes) → IfOk result (HasProjectBy Makes source)
whole_has Makes source bytes whole (Ok project) is = record {
  read = whole.end;
  is = of_the_deck (λ deck. Makes deck project) _ _ bytes whole.all whole.end is;
}
whole_has Makes source bytes whole (Err why) is = tt

module _ (Has : List ℕ → Fault → Type 0) where
  -- a fault that has a line is a reason why bytes give no project
  pub lacks_by : (bytes : List ℕ) (error : DeckError) → ((fault : Fault) → Has bytes fault → IsTold fault) → Refuses (Has bytes) error → IsNoProjectBy Has bytes (lacking error)
  lacks_by bytes (error.Fault fault) can is = (can fault is, is)
  lacks_by bytes error.OutOfMemory can is = tt

  module _ {S : Type 0} (source : Side S) where
    -- without a deck there is no project
    pub unread_lacks : (why : NoProject) → HasNoDeck source why → HasNoProjectBy Has source why
    unread_lacks (Refused fault) (can, took_too_much is took) = (can, took_too_much is took)
    unread_lacks (Refused fault) (can, faulty read has) = (can, faulty read (of_one (source.bytes source.old) _ _ (λ bytes never. absurd never.1) has))
    unread_lacks ReadFault why = why
    unread_lacks OutOfMemory why = why

    -- the reason why a complete deck gives no project is that of the source
    pub whole_lacks : (bytes : List ℕ) → IsWholeDeck source bytes → (result : Result Project NoProject) → IfErr result (IsNoProjectBy Has bytes) → IfErr result (HasNoProjectBy Has source)
    whole_lacks bytes whole (Ok project) why = tt
    whole_lacks bytes whole (Err (Refused fault)) why =
        (why.0, faulty whole.end (of_the_deck (λ deck. (length deck ≤ longest_deck) × Has deck fault) _ _ bytes whole.all whole.end (whole.short, why.1)))
    whole_lacks bytes whole (Err ReadFault) never = absurd never
    whole_lacks bytes whole (Err OutOfMemory) why = tt

    -- a deck that is refused has the fault, where F1 is the fault of one that is too long
    pub refusal_has : ((bytes : List ℕ) (fault : Fault) → longest_deck < length bytes → fault ≡ fault_too_long → Has bytes fault)
        → (fault : Fault) → HasRefusalBy Has source fault → OfBytes source (λ bytes. Has bytes fault)
    refusal_has long fault (took_too_much is took) =
        of_one (source.bytes source.old) _ _ (λ bytes above. long bytes fault above is) (of_a_long_deck _ _ took.0 took.1 took.2)
    refusal_has long fault (faulty read has) = of_one (source.bytes source.old) _ _ (λ bytes both. both.1) has

    -- a deck that is refused and not too long was read to its end
    pub refusal_reads : (fault : Fault) → HasRefusalBy Has source fault → OfBytes source (λ bytes. length bytes ≤ longest_deck → IsReadToEnd source)
    refusal_reads fault (took_too_much is took) =
        of_one (source.bytes source.old) _ _ (λ bytes long short. absurd (omega (arith, long, short))) (of_a_long_deck _ _ took.0 took.1 took.2)
    refusal_reads fault (faulty read has) = of_one (source.bytes source.old) _ _ (λ bytes both short. read) has

-- the same of a plan
pub refusal_is_fault : {S : Type 0} (source : Side S) (fault : Fault) → HasRefusal source fault → OfBytes source (λ bytes. IsFault bytes fault)
refusal_is_fault source fault refusal = refusal_has IsFault source (λ bytes other long is. too_long long is) fault refusal
