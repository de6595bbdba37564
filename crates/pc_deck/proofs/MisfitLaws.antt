-- The faults of single cards, from the table of kinds: what cards without faults name is there, and the first fault of some kinds.
use Rattle.std.proofs.Common.{◌≡◌, ℕ, zero, suc, ◌+◌, ◌<◌, ◌≤◌, ◌∙◌, List, [], ◌∷◌, length, get_or, Option, Some, None, IsSome, refl, sym, ap, subst, inl, inr, ⊎_elim, ◌⊎◌, arith}
use Rattle.std.specs.Prelude.{All}
use Rattle.std.specs.List.{Any}
use Rattle.std.proofs.lemmas.Bool.{false≢true}
use Rattle.std.proofs.lemmas.List.{get_or_default}
use Rattle.pc_cards.specs.Entry.{Reference}
use Rattle.pc_cards.specs.declared.sort.Sort.{Sort}
use Rattle.pc_deck.specs.Deck.{Deck, list_of, named_among}
use Rattle.pc_deck.specs.Kinds.{CardOf, entry_of, further_kinds, kinds_of}
use Rattle.pc_deck.specs.Misfit.{AreKnownNames, HasCardMisfit, HasNoMisfit, HasUnknown}
use Rattle.pc_deck.specs.inside.Misfit.{HasFaultAmong, HasFaultOf, names_of}
use Rattle.pc_deck.specs.Target.{IsUnknown, target_codes}
use Rattle.pc_faults.specs.Faults.{unknown_name}
use Rattle.pc_faults.specs.First.{IsFirstFault, IsNoLater}
use Rattle.pc_faults.specs.declared.fault.Fault.{Fault}
use Rattle.pc_faults.specs.declared.kind.Kind.{Kind}
use Rattle.pc_faults.specs.declared.kind.Kind.TheVariants.{AsOf, Terms, Event, Piece, Acct, Charge, ToGo, Status, Res, Load, End}
use Rattle.pc_faults.specs.inside.First.{IsFirstIn, earliest}
use Rattle.pc_faults.proofs.FirstLaws.{earliest-alone, earliest-first}

-- ---- what is named

-- what is not missing is there
pub known_unless : (o : Option ℕ) → (o ≡ None → ⊥) → IsSome o
known_unless None never = absurd (never refl)
known_unless (Some i) never = refl

-- what is there is not missing
pub not_missing : (o : Option ℕ) → IsSome o → o ≡ None → ⊥
not_missing None known none = false≢true known
not_missing (Some i) known none = absurd cc

module _ (deck : Deck) (row : ℕ) where
  -- what is named without a fault is there
  pub there_unless : (names : List Reference) → ((fault : Fault) → HasUnknown deck row names fault → ⊥) → AreKnownNames deck names
  there_unless [] none = tt
  there_unless (named ∷ more) none = (here, there_unless more (λ fault h. none fault (inr (here, h))))
    where
      here : IsSome (named_among (target_codes deck named.target) named.code)
      here =
          known_unless (named_among (target_codes deck named.target) named.code)
          (λ lacks. none (unknown_name named.target row named.code) (inl (record { missing = lacks; told = refl })))

  -- where all are there, none is unknown
  pub none_unknown : (names : List Reference) → AreKnownNames deck names → (fault : Fault) → HasUnknown deck row names fault → ⊥
  none_unknown [] there fault h = h
  none_unknown (named ∷ more) there fault (inl is) = not_missing _ there.0 is.missing
  none_unknown (named ∷ more) there fault (inr h) = none_unknown more there.1 fault h.1

  -- the first fault of names is that of the first one if it is missing, or else that of the others
  pub first_missing : (named : Reference) (more : List Reference) (fault : Fault) → IsFirstFault (IsUnknown deck named.target row named.code) fault →
      IsFirstFault (HasUnknown deck row (named ∷ more)) fault
  first_missing named more fault first = record {
    holds = inl first.holds;
    least = λ other h. ⊎_elim (first.least other) (λ later. absurd (not_missing _ later.0 first.holds.missing)) h;
  }

  pub first_later : (named : Reference) (more : List Reference) (fault : Fault) → IsSome (named_among (target_codes deck named.target) named.code) →
      IsFirstFault (HasUnknown deck row more) fault → IsFirstFault (HasUnknown deck row (named ∷ more)) fault
  first_later named more fault there first = record {
    holds = inr (there, first.holds);
    least = λ other h. ⊎_elim (λ is. absurd (not_missing _ there is.missing)) (λ later. first.least other later.1) h;
  }

  -- an unknown name is told at the record
  pub unknown_row : (names : List Reference) (fault : Fault) → HasUnknown deck row names fault → fault.row ≡ row
  unknown_row [] fault h = absurd h
  unknown_row (named ∷ more) fault (inl is) = ap (λ (f : Fault). f.row) is.told
  unknown_row (named ∷ more) fault (inr h) = unknown_row more fault h.1

-- ---- a card that names something and may be wrong by itself

module _ (deck : Deck) (row : ℕ) (names : List Reference) (Flaw : Fault → Type 0) where
  abbrev Either : Fault → Type 0
  Either fault = HasUnknown deck row names fault ⊎ Flaw fault

  -- an unknown name comes before what is wrong by itself, if that has no less a number
  pub first_of_names : ((other : Fault) → Flaw other → (other.row ≡ row) × (17 ≤ other.number)) → (fault : Fault) → fault.number ≤ 17 →
      IsFirstFault (HasUnknown deck row names) fault → IsFirstFault Either fault
  first_of_names later fault number first = record { holds = inl first.holds; least = λ other h. ⊎_elim (first.least other) (by other) h }
    where
      by : (other : Fault) → Flaw other → IsNoLater fault other
      by other flaw = inr (unknown_row deck row names fault first.holds ∙ sym (later other flaw).0, omega (arith, number, (later other flaw).1))

  -- where all names are there
  module _ (there : AreKnownNames deck names) where
    pub first_of_flaws : (fault : Fault) → IsFirstFault Flaw fault → IsFirstFault Either fault
    first_of_flaws fault first = record {
      holds = inr first.holds;
      least = λ other h. ⊎_elim (λ unknown. absurd (none_unknown deck row names there other unknown)) (first.least other) h;
    }

    pub none_of_either : ((fault : Fault) → Flaw fault → ⊥) → (fault : Fault) → Either fault → ⊥
    none_of_either none fault h = ⊎_elim (none_unknown deck row names there fault) (none fault) h

-- what is found is there
pub found_there : (o : Option ℕ) (i : ℕ) → o ≡ Some i → IsSome o
found_there None i is = absurd cc
found_there (Some j) i is = refl

-- ---- an element of a list

-- an element of a list is one of them
pub Any-at : {X : Type 0} (P : X → Type 0) (xs : List X) (i : ℕ) (d : X) → i < length xs → P (get_or xs i d) → Any P xs
Any-at P xs i d within holds = (i, get_or xs i d, within, get_or_default xs i (get_or xs i d) d within, holds)

-- what all elements are, one that is there is
pub at_each : {X : Type 0} (P : X → Type 0) (xs : List X) → All P xs → (i : ℕ) (x : X) → i < length xs → get_or xs i x ≡ x → P x
at_each P xs all i x within at = subst P at (all i x within)

module _ {X : Type 0} (P : X → Type 0) where
  Any-head : (x : X) (xs : List X) → P x → Any P (x ∷ xs)
  Any-head x xs holds = (0, x, omega arith, refl, holds)

  Any-tail : (x : X) (xs : List X) → Any P xs → Any P (x ∷ xs)
  Any-tail x xs (k, y, within, at, holds) = (suc k, y, omega (arith, within), at, holds)

  Any-cons_cases : (x : X) (xs : List X) → Any P (x ∷ xs) → P x ⊎ Any P xs
  Any-cons_cases x xs (zero, y, within, at, holds) = inl (subst P (sym at) holds)
  Any-cons_cases x xs (suc k, y, within, at, holds) = inr (k, y, omega (arith, within), at, holds)

-- ---- the places of kinds among those of a sort; a plan has activities and a deck of tasks has AFTER cards at one place

abbrev pub at_project : ℕ
at_project = 0

abbrev pub at_items : ℕ
at_items = 3

abbrev pub at_tasks : ℕ
at_tasks = 4

abbrev pub at_acts : ℕ
at_acts = 5

abbrev pub at_afters : ℕ
at_afters = 5

abbrev pub at_pieces : ℕ
at_pieces = 6

abbrev pub at_accounts : ℕ
at_accounts = 7

abbrev pub at_charges : ℕ
at_charges = 8

abbrev pub at_togos : ℕ
at_togos = 9

abbrev pub at_statuses : ℕ
at_statuses = 10

abbrev pub at_loads : ℕ
at_loads = 12

-- ---- a deck without faults of single cards

module _ (sort : Sort) (deck : Deck) (none : HasNoMisfit sort deck) where
  -- no card of a kind at its place has a fault
  pub no_fault_of : (n : ℕ) (d : Kind) → n < length (kinds_of sort) → (fault : Fault) → HasFaultOf sort deck (get_or (kinds_of sort) n d) fault → ⊥
  no_fault_of n d within fault any = none fault (Any-at (λ kind. HasFaultOf sort deck kind fault) (kinds_of sort) n d within any)

  -- and what it names is there
  pub all_named : (n : ℕ) (d : Kind) → n < length (kinds_of sort) →
      All (λ card. AreKnownNames deck (names_of sort (get_or (kinds_of sort) n d) card)) (list_of deck (get_or (kinds_of sort) n d))
  all_named n d within i e inside =
      let kind = get_or (kinds_of sort) n d in
      let card = get_or (list_of deck kind) i e in
      there_unless deck ((entry_of kind).row card) (names_of sort kind card)
      (λ fault h. no_fault_of n d within fault (Any-at (λ card. HasCardMisfit sort deck kind card fault) (list_of deck kind) i e inside (inl h)))

-- ---- the first fault of some kinds

-- that of one card
pub first_of_one : {C : Type 0} (Has : C → Fault → Type 0) (card : C) (found : Option Fault) → IsFirstIn (Has card) found → IsFirstIn (λ fault. Any (λ c. Has c fault) (card ∷ [])) found
first_of_one Has card None none = λ fault any. ⊎_elim (none fault) (λ (k, c, within, at, h). absurd (omega (arith, within))) (Any-cons_cases (λ c. Has c fault) card [] any)
first_of_one Has card (Some fault) first = record {
  holds = Any-head (λ c. Has c fault) card [] first.holds;
  least = λ other any. ⊎_elim (first.least other) (λ (k, c, within, at, h). absurd (omega (arith, within))) (Any-cons_cases (λ c. Has c other) card [] any);
}

module _ (sort : Sort) (deck : Deck) where
  abbrev Of : Kind → Fault → Type 0
  Of = HasFaultOf sort deck

  abbrev Among : List Kind → Fault → Type 0
  Among = HasFaultAmong sort deck

  pub first_cons : (kind : Kind) (kinds : List Kind) (one more : Option Fault) → IsFirstIn (Of kind) one → IsFirstIn (Among kinds) more → IsFirstIn (Among (kind ∷ kinds)) (earliest one more)
  first_cons kind kinds one more =
      earliest-first (Of kind) (Among kinds) (Among (kind ∷ kinds))
      (λ fault h. Any-head (λ kind. Of kind fault) kind kinds h) (λ fault h. Any-tail (λ kind. Of kind fault) kind kinds h)
      (λ fault h. Any-cons_cases (λ kind. Of kind fault) kind kinds h) one more

  -- cards that name nothing and cannot be wrong by themselves
  nothing_of : {C : Type 0} (cards : List C) (fault : Fault) → Any (λ card. ⊥ ⊎ ⊥) cards → ⊥
  nothing_of cards fault (k, card, within, at, h) = ⊎_elim (λ x. x) (λ x. x) h

  none_among : IsFirstIn (Among []) None
  none_among = λ fault (k, kind, within, at, h). absurd (omega (arith, within))

  -- the first fault of the kinds that come last in decks of both sorts
  pub first_of_further : (piece account charge togo status load : Option Fault) →
      IsFirstIn (Of Piece) piece → IsFirstIn (Of Acct) account → IsFirstIn (Of Charge) charge → IsFirstIn (Of ToGo) togo → IsFirstIn (Of Status) status → IsFirstIn (Of Load) load →
      IsFirstIn (Among further_kinds) (earliest piece (earliest account (earliest charge (earliest togo (earliest status load)))))
  first_of_further piece account charge togo status load p a c t s l =
      first_cons Piece (Acct ∷ Charge ∷ ToGo ∷ Status ∷ Res ∷ Load ∷ End ∷ []) piece _ p
      (first_cons Acct (Charge ∷ ToGo ∷ Status ∷ Res ∷ Load ∷ End ∷ []) account _ a
      (first_cons Charge (ToGo ∷ Status ∷ Res ∷ Load ∷ End ∷ []) charge _ c
      (first_cons ToGo (Status ∷ Res ∷ Load ∷ End ∷ []) togo _ t
      (first_cons Status (Res ∷ Load ∷ End ∷ []) status _ s
      (first_cons Res (Load ∷ End ∷ []) None load (nothing_of deck.resources)
      (subst (IsFirstIn (Among (Load ∷ End ∷ []))) (earliest-alone load)
      (first_cons Load (End ∷ []) load None l (first_cons End [] None None (nothing_of (list_of deck End)) none_among))))))))

  -- the first fault of all kinds but PROJECT, of which ASOF, TERMS and EVENT have none
  pub first_after_terms : (kinds : List Kind) (found : Option Fault) → IsFirstIn (Among kinds) found → IsFirstIn (Among (AsOf ∷ Terms ∷ kinds)) found
  first_after_terms kinds found first =
      first_cons AsOf (Terms ∷ kinds) None found (nothing_of (list_of deck AsOf)) (first_cons Terms kinds None found (nothing_of (list_of deck Terms)) first)

  pub first_after_events : (kinds : List Kind) (found : Option Fault) → IsFirstIn (Among kinds) found → IsFirstIn (Among (Event ∷ kinds)) found
  first_after_events kinds found first = first_cons Event kinds None found (nothing_of deck.events) first
