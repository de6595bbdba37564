-- A deck that was read from its own text has the same text: what is written of a card does not depend on its record.
use Rattle.std.proofs.Common.{◌≡◌, ℕ, ◌+◌, Bool, true, false, List, [], ◌∷◌, ◌++◌, map, flat_map, Option, Some, None, if◌then◌else◌, refl, ap, ◌∙◌}
use Rattle.std.specs.Prelude.{option_map, option_to_list}
use Rattle.pc_records.specs.Text.{records_text}
use Rattle.pc_faults.specs.declared.kind.Kind.{Kind}
use Rattle.pc_faults.specs.declared.kind.Kind.TheVariants.{Project, AsOf, Terms}
use Rattle.pc_cards.specs.Named.{numbered_from}
use Rattle.pc_deck.specs.Deck.{Deck, list_of}
use Rattle.pc_deck.specs.WrittenKinds.{written_of}
use Rattle.pc_deck.specs.Kinds.{CardOf, kinds}
use Rattle.pc_deck.specs.Text.{deck_text, record_of, records_of, renumbered, says_nothing, settled, settled_terms}
use Rattle.pc_deck.specs.inside.Text.{first_record}
use Rattle.pc_deck.specs.declared.kinds.terms.TermsCard.{TermsCard}
use Rattle.pc_deck.proofs.RowsLemmas.{list-renumbered}

record-at_row : (kind : Kind) (row : ℕ) (card : CardOf kind) → record_of kind ((written_of kind).at_row row card) ≡ record_of kind card
record-at_row Project row card = refl
record-at_row kind row card = refl

records-numbered : (kind : Kind) (row : ℕ) (cards : List (CardOf kind)) → map (record_of kind) (numbered_from (written_of kind).at_row row cards) ≡ map (record_of kind) cards
records-numbered kind row [] = refl
records-numbered kind row (card ∷ cards) = λ i. record-at_row kind row card i ∷ records-numbered kind (row + 1) cards i

-- the TERMS card is settled once
terms-again : (row : ℕ) (terms : Option TermsCard)
    → map (record_of Terms) (option_to_list (settled_terms (option_map ((written_of Terms).at_row row) (settled_terms terms)))) ≡ map (record_of Terms) (option_to_list (settled_terms terms))
terms-again row None = refl
terms-again row (Some terms) = by (says_nothing terms) refl
  where
    by : (test : Bool) → says_nothing terms ≡ test
        → map (record_of Terms) (option_to_list (settled_terms (option_map ((written_of Terms).at_row row) (if test then None else Some terms)))) ≡ map
        (record_of Terms) (option_to_list (if test then None else Some terms))
    by true is = refl
    by false is = ap (λ (b : Bool). map (record_of Terms) (option_to_list (if b then None else Some ((written_of Terms).at_row row terms)))) is

records-again : (deck : Deck) (kind : Kind) → records_of (settled (renumbered (settled deck))) kind ≡ records_of (settled deck) kind
records-again deck Project = refl
records-again deck AsOf = refl
records-again deck Terms = terms-again (first_record (settled deck) Terms) deck.terms
records-again deck kind =
    ap (map (record_of kind)) (list-renumbered (settled deck) kind) ∙ records-numbered kind (first_record (settled deck) kind) (list_of (settled deck) kind)

rows-again : (deck : Deck) (some : List Kind) → flat_map (records_of (settled (renumbered (settled deck)))) some ≡ flat_map (records_of (settled deck)) some
rows-again deck [] = refl
rows-again deck (kind ∷ rest) = λ i. records-again deck kind i ++ rows-again deck rest i

-- so its text is the same
pub text-again : (deck : Deck) → deck_text (renumbered (settled deck)) ≡ deck_text deck
text-again deck = ap records_text (rows-again deck kinds)
