-- The deck that a deck's text is read as says the same: the version, the records, an ASOF card of the first day and a TERMS card
-- of nothing are what may be other.
use Rattle.std.proofs.Common.{◌≡◌, ℕ, ◌+◌, ◌==◌, Bool, true, false, List, [], ◌∷◌, map, Option, Some, None, if◌then◌else◌, refl, ℤ}
use Rattle.std.specs.Prelude.{option_map}
use Rattle.std.proofs.lemmas.Bool.{and_parts, eqb-true}
use Rattle.pc_faults.specs.declared.kind.Kind.TheVariants.{AsOf, Terms}
use Rattle.pc_cards.specs.Named.{numbered_from}
use Rattle.pc_deck.specs.Deck.{Deck}
use Rattle.pc_deck.specs.Text.{renumbered, says_nothing, settled, settled_as_of, settled_terms}
use Rattle.pc_deck.specs.inside.Text.{first_record}
use Rattle.pc_deck.specs.WrittenKinds.{written_of}
use Rattle.pc_deck.specs.declared.kinds.as_of.AsOfCard.{AsOfCard}
use Rattle.pc_deck.specs.declared.kinds.terms.TermsCard.{TermsCard}
use Rattle.pc_project.specs.Project.{as_of_day, time_terms_of}
use Rattle.pc_project.specs.deck_text.Same.{SayTheSame, account_said, act_said, item_said, load_said, money_said, piece_said, status_said, titled_said}

-- what a card says is the same in another record
said-numbered : {C : Type 0} (said : C → C) (at_row : ℕ → C → C) (row : ℕ) (cards : List C) → ((n : ℕ) (card : C) → said card ≡ said (at_row n card))
    → map said cards ≡ map said (numbered_from at_row row cards)
said-numbered said at_row row [] same = refl
said-numbered said at_row row (card ∷ cards) same = λ i. same row card i ∷ said-numbered said at_row (row + 1) cards same i

-- the day of the figures
same_as_of : (card : Option AsOfCard) (start : ℤ) (row : ℕ) → as_of_day start card ≡ as_of_day start (Some ((written_of AsOf).at_row row (settled_as_of card start)))
same_as_of None start row = refl
same_as_of (Some card) start row = refl

-- what time costs, where a card of four zeros is left out
nothing_said : (terms : TermsCard) → says_nothing terms ≡ true → time_terms_of (Some terms) ≡ time_terms_of None
nothing_said terms nothing =
    let overhead = and_parts (terms.overhead == 0) _ nothing in
    let target = and_parts (terms.target == 0) _ overhead.1 in
    let bonus = and_parts (terms.bonus == 0) _ target.1 in
    λ i. record {
      overhead = eqb-true terms.overhead 0 overhead.0 i;
      target = eqb-true terms.target 0 target.0 i;
      bonus = eqb-true terms.bonus 0 bonus.0 i;
      penalty = eqb-true terms.penalty 0 bonus.1 i;
    }

same_terms : (terms : Option TermsCard) (row : ℕ) → time_terms_of terms ≡ time_terms_of (option_map ((written_of Terms).at_row row) (settled_terms terms))
same_terms None row = refl
same_terms (Some terms) row = by (says_nothing terms) refl
  where
    by : (test : Bool) → says_nothing terms ≡ test → time_terms_of (Some terms) ≡ time_terms_of (option_map ((written_of Terms).at_row row) (if test then None else Some terms))
    by true nothing = nothing_said terms nothing
    by false something = refl

pub settled_same : (deck : Deck) → SayTheSame deck (renumbered (settled deck))
settled_same deck = record {
  project = refl;
  as_of = same_as_of deck.as_of deck.project.start_day (first_record (settled deck) AsOf);
  terms = same_terms deck.terms (first_record (settled deck) Terms);
  items = said-numbered item_said _ _ deck.items (λ n card. refl);
  events = said-numbered titled_said _ _ deck.events (λ n card. refl);
  acts = said-numbered act_said _ _ deck.acts (λ n card. refl);
  pieces = said-numbered piece_said _ _ deck.pieces (λ n card. refl);
  accounts = said-numbered account_said _ _ deck.accounts (λ n card. refl);
  charges = said-numbered money_said _ _ deck.charges (λ n card. refl);
  togos = said-numbered money_said _ _ deck.togos (λ n card. refl);
  statuses = said-numbered status_said _ _ deck.statuses (λ n card. refl);
  resources = said-numbered titled_said _ _ deck.resources (λ n card. refl);
  loads = said-numbered load_said _ _ deck.loads (λ n card. refl);
}
