-- When two decks say the same: their records may have other numbers and their versions may differ, and what one says by leaving
-- a card out the other may say by a card.
use Rattle.std.specs.Prelude.{◌≡◌, map}
use Rattle.pc_deck.specs.Deck.{Deck}
use Rattle.pc_deck.specs.declared.kinds.acct.AcctCard.{AcctCard}
use Rattle.pc_deck.specs.declared.kinds.act.ActCard.{ActCard}
use Rattle.pc_deck.specs.declared.kinds.load.LoadCard.{LoadCard}
use Rattle.pc_deck.specs.declared.kinds.money.MoneyCard.{MoneyCard}
use Rattle.pc_deck.specs.declared.kinds.piece.PieceCard.{PieceCard}
use Rattle.pc_deck.specs.declared.kinds.project.ProjectCard.{ProjectCard}
use Rattle.pc_deck.specs.declared.kinds.status.StatusCard.{StatusCard}
use Rattle.pc_deck.specs.declared.kinds.titled.TitledCard.{TitledCard}
use Rattle.pc_deck.specs.declared.kinds.wbs.ItemCard.{ItemCard}
use Rattle.pc_project.specs.DisorderFaults.{as_of_in}
use Rattle.pc_project.specs.Project.{time_terms_of}

-- the cards without the numbers of their records, and the PROJECT card without its version
abbrev pub project_said : ProjectCard → ProjectCard
project_said card = record card { row = 0; version = 0 }

abbrev pub item_said : ItemCard → ItemCard
item_said card = record card { row = 0 }

abbrev pub titled_said : TitledCard → TitledCard
titled_said card = record card { row = 0 }

abbrev pub act_said : ActCard → ActCard
act_said card = record card { row = 0 }

abbrev pub piece_said : PieceCard → PieceCard
piece_said card = record card { row = 0 }

abbrev pub account_said : AcctCard → AcctCard
account_said card = record card { row = 0 }

abbrev pub money_said : MoneyCard → MoneyCard
money_said card = record card { row = 0 }

abbrev pub status_said : StatusCard → StatusCard
status_said card = record card { row = 0 }

abbrev pub load_said : LoadCard → LoadCard
load_said card = record card { row = 0 }

-- the two decks say the same of the project, of the day that its figures are of and of what time costs, and have the same
-- cards of each other kind in the same order
pub record SayTheSame (deck other : Deck) : Type 0 where
  pub project : project_said deck.project ≡ project_said other.project
  pub as_of : as_of_in deck ≡ as_of_in other
  pub terms : time_terms_of deck.terms ≡ time_terms_of other.terms
  pub items : map item_said deck.items ≡ map item_said other.items
  pub events : map titled_said deck.events ≡ map titled_said other.events
  pub acts : map act_said deck.acts ≡ map act_said other.acts
  pub pieces : map piece_said deck.pieces ≡ map piece_said other.pieces
  pub accounts : map account_said deck.accounts ≡ map account_said other.accounts
  pub charges : map money_said deck.charges ≡ map money_said other.charges
  pub togos : map money_said deck.togos ≡ map money_said other.togos
  pub statuses : map status_said deck.statuses ≡ map status_said other.statuses
  pub resources : map titled_said deck.resources ≡ map titled_said other.resources
  pub loads : map load_said deck.loads ≡ map load_said other.loads
