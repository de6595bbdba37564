-- The text of a deck within the limits is that deck: its records are those that were written, it is text, and it has no fault.
use Rattle.std.proofs.Common.{◌≡◌, ℕ, true, false, nat_eq, List, [], ◌∷◌, map, flat_map, All, refl, sym, ap, ◌∙◌, subst, arith}
use Rattle.std.specs.List.{enumerate_from, starts_with}
use Rattle.std.specs.Str.{IsUtf8, is_utf8}
use Rattle.std.proofs.lemmas.Str.{is_utf8-from_IsUtf8}
use Rattle.std.proofs.lemmas.List.Elements.{All-append, All-cons, All-head, All-nil, All-tail}
use Rattle.pc_records.specs.Deck.{deck_records, mark}
use Rattle.pc_records.specs.Text.{record_text}
use Rattle.pc_records.proofs.TextFacts.{HasField, deck_records-records_text}
use Rattle.pc_records.proofs.Utf8Facts.{records_text-text}
use Rattle.pc_faults.specs.declared.kind.Kind.{Kind}
use Rattle.pc_cards.specs.declared.sort.Sort.TheVariants.{Plan}
use Rattle.pc_cards.specs.Cards.{cards_from, deck_cards}
use Rattle.pc_deck.specs.Deck.{Deck, list_of}
use Rattle.pc_deck.specs.Kinds.{CardOf, kinds}
use Rattle.pc_deck.specs.Read.{IsDeckOf}
use Rattle.pc_deck.specs.Faultless.{AreFaultless}
use Rattle.pc_deck.specs.Says.{Says}
use Rattle.pc_deck.specs.Text.{deck_rows, deck_text, record_of, records_of, renumbered, settled}
use Rattle.pc_deck.specs.Within.{IsWithinLimits}
use Rattle.pc_deck.proofs.FaultlessLemmas.{faultless}
use Rattle.pc_deck.proofs.NoFaultLaws.{faultless_from}
use Rattle.pc_deck.proofs.OrderLemmas.{rows-in_order}
use Rattle.pc_deck.proofs.RowsLemmas.{rows-cards, rows-say}
use Rattle.pc_deck.proofs.WrittenLemmas.{IsWritten, written-settled}

-- each record has a field
some_fields : (kind : Kind) (cards : List (CardOf kind)) → All HasField (map (record_of kind) cards)
some_fields kind [] = All-nil HasField
some_fields kind (card ∷ cards) = All-cons HasField (record_of kind card) (map (record_of kind) cards) (omega arith) (some_fields kind cards)

rows-fields : (deck : Deck) (some : List Kind) → All HasField (flat_map (records_of deck) some)
rows-fields deck [] = All-nil HasField
rows-fields deck (kind ∷ rest) = All-append HasField (records_of deck kind) (flat_map (records_of deck) rest) (some_fields kind (list_of deck kind)) (rows-fields deck rest)

-- and its fields are text
text_cards : (kind : Kind) (cards : List (CardOf kind)) → All (IsWritten kind) cards → All (All IsUtf8) (map (record_of kind) cards)
text_cards kind [] all = All-nil (All IsUtf8)
text_cards kind (card ∷ cards) all =
    let written = All-head (IsWritten kind) card cards all in
    All-cons (All IsUtf8) (record_of kind card) (map (record_of kind) cards) written.text (text_cards kind cards (All-tail (IsWritten kind) card cards all))

rows-text : (deck : Deck) → ((kind : Kind) → All (IsWritten kind) (list_of deck kind)) → (some : List Kind) → All (All IsUtf8) (flat_map (records_of deck) some)
rows-text deck written [] = All-nil (All IsUtf8)
rows-text deck written (kind ∷ rest) =
    All-append (All IsUtf8) (records_of deck kind) (flat_map (records_of deck) rest) (text_cards kind (list_of deck kind) (written kind)) (rows-text deck written rest)

-- the text begins with PROJECT, and not with a byte order mark
no_mark : (deck : Deck) → starts_with nat_eq (deck_text deck) mark ≡ false
unfolding record_text
no_mark deck = refl

-- the records of the text are those that were written
pub read-rows : (deck : Deck) → deck_records (deck_text deck) ≡ deck_rows deck
read-rows deck = deck_records-records_text (deck_rows deck) (rows-fields (settled deck) kinds) (no_mark deck)

-- the text is UTF-8
pub utf8-text : (deck : Deck) → IsWithinLimits deck → is_utf8 (deck_text deck) ≡ true
utf8-text deck limits = is_utf8-from_IsUtf8 (deck_text deck) (records_text-text (deck_rows deck) (rows-text (settled deck) (written-settled deck limits) kinds))

read-cards : (deck : Deck) → deck_cards (deck_text deck) ≡ enumerate_from 1 (deck_rows deck)
read-cards deck = ap (cards_from 1) (read-rows deck) ∙ rows-cards deck

-- it is the deck
pub deck_text-read : (deck : Deck) → IsWithinLimits deck → IsDeckOf (deck_text deck) (renumbered (settled deck))
deck_text-read deck limits = record {
  says = subst (λ (rows : List (List (List ℕ))). Says (cards_from 1 rows) (renumbered (settled deck))) (sym (read-rows deck)) (rows-say deck limits);
  faultless = (
    utf8-text deck limits,
    subst (AreFaultless Plan []) (sym (read-cards deck))
        (faultless_from Plan [] 0 (enumerate_from 1 (deck_rows deck)) (λ fault has. faultless (enumerate_from 1 (deck_rows deck)) 0 fault (rows-in_order deck limits) has)),
  );
}
