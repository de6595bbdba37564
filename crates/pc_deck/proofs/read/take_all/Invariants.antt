use Rattle.std.proofs.Common.{◌≡◌, ◌+◌, All, length}
use Rattle.pc_records.specs.Deck.{deck_records}
use Rattle.pc_cards.specs.Cards.{deck_cards}
use Rattle.pc_deck.specs.inside.Reading.{read_from}
use Rattle.pc_deck.specs.inside.Within.{IsDraftWithin}
use Rattle.pc_deck.proofs.ReadLemmas.{IsTextCard}
use Rattle.pc_deck.proofs.read.take_all.Given as goal

-- what is left to read gives with the draft what the complete deck gives, the draft is within the limits, the fields that
-- are left are text, and the sort stays the same
abbrev pub invariant-cards : goal.invariant-cards
invariant-cards l = record {
  says : read_from l.draft l.rows.end l.rows.cards ≡ read_from l.fn.draft (length (deck_records l.bytes) + 1) (deck_cards l.bytes);
  within : IsDraftWithin l.draft;
  text : All IsTextCard l.rows.cards;
  sort : l.draft.sort ≡ l.fn.draft.sort;
}

abbrev pub decreases-cards : goal.decreases-cards
decreases-cards l = length l.rows.cards
