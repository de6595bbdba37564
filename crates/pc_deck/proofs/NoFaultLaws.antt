-- A deck has none of the faults of cards exactly if its cards are faultless.
use Rattle.std.proofs.Common.{
  ◌≡◌,
  ◌≢◌,
  ℕ,
  ◌+◌,
  ◌==◌,
  Bool,
  true,
  false,
  not,
  ◌&&◌,
  nat_lt,
  List,
  [],
  ◌∷◌,
  ◌++◌,
  length,
  Option,
  Some,
  None,
  Result,
  Ok,
  Err,
  inl,
  inr,
  refl,
  sym,
  ap,
  ◌∙◌,
  subst,
  arith,
}
use Rattle.std.proofs.lemmas.Bool.Decides.{nat_tests}
use Rattle.std.specs.Str.{is_utf8}
use Rattle.std.specs.Bool.{then_some}
use Rattle.pc_records.specs.Deck.{deck_records}
use Rattle.pc_model.specs.Codes.{text_at}
use Rattle.pc_faults.specs.Faults as faults
use Rattle.pc_faults.specs.declared.kind.Kind.{Kind}
use Rattle.pc_faults.specs.declared.kind.Kind.TheVariants.{Project}
use Rattle.pc_faults.specs.declared.fault.Fault.{Fault}
use Rattle.pc_cards.specs.Cards.{Numbered, deck_cards}
use Rattle.pc_cards.specs.inside.Findings.{one_too_many}
use Rattle.pc_cards.specs.Named.{is_among}
use Rattle.pc_cards.specs.declared.sort.Sort.{Sort}
use Rattle.pc_cards.proofs.FindLemmas.{no_flaw, none_then}
use Rattle.pc_deck.specs.Faultless.{AreFaultless, IsFaultless as IsFaultlessDeck, IsFaultlessAs}
use Rattle.pc_deck.specs.Judged.{Seen}
use Rattle.pc_deck.specs.Kinds.{limit_of, slots_of, stands_once}
use Rattle.pc_deck.specs.Refusal.{HasFault, HasFaultFrom, HasFaultWhere, is_whole_as, seen_among}
use Rattle.pc_deck.specs.inside.Judged.{fault_of_kind, judge, judge_of, unless}
use Rattle.pc_deck.specs.inside.Kinds.{is_project}
use Rattle.pc_deck.proofs.CardFaultLemmas.{found_of-card, not_faultless}
use Rattle.pc_deck.proofs.JudgeLemmas.{IsFaultless, faultless, fits}
use Rattle.pc_deck.proofs.KindLemmas.{project_is}

-- ---- one card

not_found : {A : Type 0} (test : Bool) (found : A) → test ≡ false → then_some test found ≡ None
not_found true found isnt = absurd (let isnt_ = isnt in cc)
not_found false found isnt = refl

-- a test of two parts that holds in neither case
either : (one other : Bool) → (one ≡ true → other ≡ false) → (one && other) ≡ false
either true other isnt = isnt refl
either false other isnt = refl

first_is : (seen : Seen) (card : Numbered) (kind : Kind) → (seen.is_first ≡ true → kind ≡ Project) → (seen.is_first && not (is_project kind)) ≡ false
first_is seen card kind begins = either seen.is_first (not (is_project kind)) (λ first. ap (λ (k : Kind). not (is_project k)) (begins first))

with_room : (kind : Kind) (row count : ℕ) (limit : Option ℕ) → limit ≢ Some count → one_too_many kind row count limit ≡ None
with_room kind row count None differs = refl
with_room kind row count (Some most) differs = not_found (count == most) (faults.too_many row kind most) (by (count == most) refl)
  where
    by : (test : Bool) → (count == most) ≡ test → (count == most) ≡ false
    by true is = absurd (differs (ap Some (let same : count ≡ most = grind (arith, nat_tests) in sym same)))
    by false is = is

-- a faultless card is judged to have no fault
judged : (seen : Seen) (card : Numbered) (kind : Kind) → IsFaultlessAs seen card kind → judge seen card.0 card.1 ≡ Ok kind
judged seen card kind well = ap (judge_of seen card.0 card.1) well.named ∙ ap (unless kind) none
  where
    none : fault_of_kind seen kind card.0 card.1 ≡ None
    none =
        none_then _ _ None (not_found (seen.is_first && not (is_project kind)) _ (first_is seen card kind well.begins))
        (none_then _ _ None (not_found (stands_once kind && nat_lt 0 (seen.count kind)) _
        (either (stands_once kind) (nat_lt 0 (seen.count kind)) (λ once. ap (nat_lt 0) (well.alone once))))
        (none_then _ _ None (not_found (not (is_whole_as kind card.1)) _ (ap not well.whole))
        (none_then _ _ None (no_flaw card.0 (slots_of seen.sort kind) card.1 well.fit)
        (none_then _ _ None (not_found (is_among (text_at card.1 1) (seen.codes kind)) _ well.differs)
        (none_then _ _ None (with_room kind card.0 (seen.count kind) (limit_of seen.sort seen.version kind) well.has_room)
        (not_found seen.has_ended _ well.before_end))))))

true≢false : true ≡ false → ⊥
true≢false h = cc

no_project : (test : Bool) (other : Bool) → (test && not other) ≡ false → test ≡ true → other ≡ true
no_project true true isnt is = refl
no_project true false isnt is = absurd (let isnt_ = isnt in cc)
no_project false other isnt is = absurd (let is' = is in cc)

none_before : (once : Bool) (count : ℕ) → (once && nat_lt 0 count) ≡ false → once ≡ true → count ≡ 0
none_before true count isnt is = grind (arith, nat_tests)
none_before false count isnt is = absurd (let is' = is in cc)

room_there : (kind : Kind) (row count : ℕ) (limit : Option ℕ) → one_too_many kind row count limit ≡ None → limit ≢ Some count
room_there kind row count None none same = let same' = same in cc
room_there kind row count (Some most) none same = by (count == most) refl none
  where
    equal : (count == most) ≡ true
    equal = let is : most ≡ count = cc in grind (arith, nat_tests)

    by : (test : Bool) → (count == most) ≡ test → then_some test (faults.too_many row kind most) ≡ None → ⊥
    by true is h = let h' = h in cc
    by false is h = true≢false (sym equal ∙ is)

-- a card that is judged to have no fault is faultless
judged_well : (seen : Seen) (card : Numbered) (kind : Kind) → judge seen card.0 card.1 ≡ Ok kind → IsFaultlessAs seen card kind
judged_well seen card kind h =
    let known : IsFaultless seen card.0 card.1 kind = faultless seen card.0 card.1 kind h in
    record {
      named = known.named;
      begins = λ first. project_is kind (no_project seen.is_first (is_project kind) known.placed first);
      alone = λ once. none_before (stands_once kind) (seen.count kind) known.once once;
      whole = known.whole;
      fit = fits seen card.0 card.1 kind known;
      differs = known.differs;
      has_room = room_there kind card.0 (seen.count kind) (limit_of seen.sort seen.version kind) known.room;
      before_end = known.before_end;
    }

-- ---- all cards

no_fault_from : (sort : Sort) (before : List Numbered) (end : ℕ) (cards : List Numbered) → AreFaultless sort before cards → (fault : Fault) → HasFaultFrom sort before end cards fault → ⊥
no_fault_from sort before end [] well fault has = true≢false (sym well ∙ has.0)
no_fault_from sort before end (card ∷ cards) well fault (inl here) =
    not_faultless (seen_among sort before) card fault well.0.0 (judged (seen_among sort before) card well.0.0 well.0.1) here
no_fault_from sort before end (card ∷ cards) well fault (inr later) = no_fault_from sort (before ++ card ∷ []) end cards well.1 fault later

pub faultless_from : (sort : Sort) (before : List Numbered) (end : ℕ) (cards : List Numbered) → ((fault : Fault) → HasFaultFrom sort before end cards fault → ⊥) → AreFaultless sort before cards
faultless_from sort before end [] none = by (seen_among sort before).has_ended refl
  where
    by : (ended : Bool) → (seen_among sort before).has_ended ≡ ended → (seen_among sort before).has_ended ≡ true
    by true is = is
    by false is = absurd (none (faults.no_end end) (is, refl))
faultless_from sort before end (card ∷ cards) none =
    (by (judge seen card.0 card.1) refl, faultless_from sort (before ++ card ∷ []) end cards (λ fault has. none fault (inr has)))
  where
    seen : Seen
    seen = seen_among sort before

    by : (result : Result Kind Fault) → judge seen card.0 card.1 ≡ result → (kind : Kind) × IsFaultlessAs seen card kind
    by (Ok kind) is = (kind, judged_well seen card kind is)
    by (Err found) is = absurd (none found (inl (found_of-card seen card.0 card.1 found is)))

-- a faultless deck has no fault
pub no_fault : (sort : Sort) (bytes : List ℕ) → IsFaultlessDeck sort bytes → (fault : Fault) → HasFault sort bytes fault → ⊥
no_fault sort bytes well fault has =
    no_fault_from sort [] (length (deck_records bytes) + 1) (deck_cards bytes) well.1 fault (subst (λ (b : Bool). HasFaultWhere sort b bytes fault) well.0 has)

-- a deck without a fault is faultless
pub is_faultless : (sort : Sort) (bytes : List ℕ) → ((fault : Fault) → HasFault sort bytes fault → ⊥) → IsFaultlessDeck sort bytes
is_faultless sort bytes none = by (is_utf8 bytes) refl
  where
    by : (utf8 : Bool) → is_utf8 bytes ≡ utf8 → IsFaultlessDeck sort bytes
    by true is = (
      is,
      faultless_from sort [] (length (deck_records bytes) + 1) (deck_cards bytes)
          (λ fault has. none fault (subst (λ (b : Bool). HasFaultWhere sort b bytes fault) (sym is) has)),
    )
    by false is = absurd (none faults.not_utf8 (subst (λ (b : Bool). HasFaultWhere sort b bytes faults.not_utf8) (sym is) refl))
