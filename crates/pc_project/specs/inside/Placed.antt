-- What cards of work say in a deck of either sort, with numbers for codes.
use Rattle.pc_accounts.specs.declared.status.StatusRow.{StatusRow}
use Rattle.pc_cards.specs.Entry.{work_target}
use Rattle.pc_cards.specs.declared.sort.Sort.{Sort}
use Rattle.pc_deck.specs.Deck.{Deck, number_among, resource_codes}
use Rattle.pc_deck.specs.Target.{target_codes}
use Rattle.pc_deck.specs.declared.kinds.load.LoadCard.{LoadCard}
use Rattle.pc_deck.specs.declared.kinds.piece.PieceCard.{PieceCard}
use Rattle.pc_deck.specs.declared.kinds.status.StatusCard.{StatusCard}
use Rattle.pc_model.specs.declared.PieceRow.{PieceRow}
use Rattle.pc_project.specs.declared.placed.LoadItem.{LoadItem}

-- the piece of a card
abbrev pub piece_in : Sort → Deck → PieceCard → PieceRow
piece_in sort deck piece = record { activity = number_among (target_codes deck (work_target sort)) piece.activity; units = piece.units; slope = piece.slope }

-- what a STATUS card says
abbrev pub status_in : Sort → Deck → StatusCard → StatusRow
status_in sort deck card = record { activity = number_among (target_codes deck (work_target sort)) card.activity; finished = card.finished; day = card.day }

-- the load of a card
abbrev pub load_in : Sort → Deck → LoadCard → LoadItem
load_in sort deck load = record {
  activity = number_among (target_codes deck (work_target sort)) load.activity;
  resource = number_among (resource_codes deck) load.resource;
  quantity = load.quantity;
}
