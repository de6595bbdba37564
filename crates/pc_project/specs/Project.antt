-- The project of a deck: its lists in card order, with numbers for codes.
use Rattle.std.specs.Prelude.{ℕ, ℤ, List, length, map, Option, Some, None, option_and_then}
use Rattle.pc_accounts.specs.declared.book.Entry.{Entry}
use Rattle.pc_accounts.specs.declared.book.AcctRow.{AcctRow}
use Rattle.pc_accounts.specs.declared.book.MoneyRow.{MoneyRow}
use Rattle.pc_accounts.specs.declared.packages.WorkRow.{WorkRow}
use Rattle.pc_model.specs.declared.Arc.{Arc}
use Rattle.pc_model.specs.declared.PieceRow.{PieceRow}
use Rattle.pc_model.specs.declared.Term.{Term}
use Rattle.pc_model.specs.Network.{Network}
use Rattle.pc_accounts.specs.declared.status.StatusRow.{StatusRow}
use Rattle.pc_times.specs.Estimates.{expected_time, variance_of}
use Rattle.pc_times.specs.declared.forecasts.ActState.{ActState}
use Rattle.pc_wbs.specs.declared.tree.ItemRow.{ItemRow}
use Rattle.pc_deck.specs.declared.kinds.acct.AcctCard.{AcctCard}
use Rattle.pc_deck.specs.declared.kinds.act.ActCard.{ActCard}
use Rattle.pc_deck.specs.declared.kinds.as_of.AsOfCard.{AsOfCard}
use Rattle.pc_deck.specs.declared.kinds.load.LoadCard.{LoadCard}
use Rattle.pc_deck.specs.declared.kinds.money.MoneyCard.{MoneyCard}
use Rattle.pc_deck.specs.declared.kinds.piece.PieceCard.{PieceCard}
use Rattle.pc_deck.specs.declared.kinds.status.StatusCard.{StatusCard}
use Rattle.pc_deck.specs.declared.kinds.terms.TermsCard.{TermsCard}
use Rattle.pc_deck.specs.declared.kinds.wbs.ItemCard.{ItemCard}
use Rattle.pc_deck.specs.Deck.{Deck, account_codes, act_codes, event_codes, item_codes, number_among, resource_codes}
use Rattle.pc_project.specs.declared.project.Counts.{Counts}
use Rattle.pc_model.specs.declared.TimeTerms.{TimeTerms}
use Rattle.pc_project.specs.declared.placed.LoadItem.{LoadItem}

-- what a project is called, when it starts and the day that its figures are of, how many days a unit is, and the end to be
-- met, in days from the start, where one is given
pub record Heading : Type 0 where
  pub code : List ℕ
  pub start_day : ℤ
  pub as_of : ℤ
  pub unit_days : ℕ
  pub directed : Option ℕ

-- what a project is: what it is called and when, the network of its activities, the tree of its items, and the lists
-- of its events (codes), its activities (codes, items, what each may last and cost, expected times in sixths of a day
-- and their variances in thirty-sixths of a square day), the further pieces of their costs, its items (codes, titles),
-- its resources (codes) and the loads on them, its accounts with their charges and amounts to go and the sums of these,
-- and the statuses of its activities and how far each is, all in card order; and what time costs.
-- It also has the deck of its cards, for what is no number: titles, codes of accounts, estimates
pub record Project : Type 0 where
  pub deck : Deck
  pub heading : Heading
  pub network : Network
  pub tree : List ItemRow
  pub events : List (List ℕ)
  pub activities : List (List ℕ)
  pub places : List ℕ
  pub terms : List Term
  pub expected : List ℕ
  pub variances : List ℕ
  pub items : List (List ℕ)
  pub titles : List (List ℕ)
  pub pieces : List PieceRow
  pub resources : List (List ℕ)
  pub loads : List LoadItem
  pub accounts : List AcctRow
  pub charges : List MoneyRow
  pub togos : List MoneyRow
  pub entries : List Entry
  pub statuses : List StatusRow
  pub states : List ActState
  pub time_terms : TimeTerms
  pub counts : Counts

-- the events where the activity of a card begins and ends
abbrev pub arc_of : Deck → ActCard → Arc
arc_of deck act = record { from = number_among (event_codes deck) act.from; to = number_among (event_codes deck) act.to }

-- the item of the activity of a card
abbrev pub item_of_act : Deck → ActCard → ℕ
item_of_act deck act = number_among (item_codes deck) act.item

-- what the activity of a card may last and costs
abbrev pub term_of : ActCard → Term
term_of act = record { normal = act.normal; crash = act.crash; cost = act.cost; slope = act.slope }

-- what the activities may last and cost
abbrev pub terms_in : Deck → List Term
terms_in deck = map term_of deck.acts

-- the piece of a card
abbrev pub piece_of : Deck → PieceCard → PieceRow
piece_of deck piece = record { activity = number_among (act_codes deck) piece.activity; units = piece.units; slope = piece.slope }

-- the pieces
abbrev pub pieces_in : Deck → List PieceRow
pieces_in deck = map (piece_of deck) deck.pieces

-- the load of a card
abbrev pub load_of : Deck → LoadCard → LoadItem
load_of deck load = record {
  activity = number_among (act_codes deck) load.activity;
  resource = number_among (resource_codes deck) load.resource;
  quantity = load.quantity;
}

-- the account of a card: the item that it is on, and its budget
abbrev pub account_of : Deck → AcctCard → AcctRow
account_of deck card = record { item = number_among (item_codes deck) card.item; budget = card.budget }

-- the accounts
abbrev pub accounts_in : Deck → List AcctRow
accounts_in deck = map (account_of deck) deck.accounts

-- the amount of a CHARGE or a TOGO card
abbrev pub money_of : Deck → MoneyCard → MoneyRow
money_of deck card = record { account = number_among (account_codes deck) card.account; day = card.day; amount = card.amount }

-- the charges
abbrev pub charges_in : Deck → List MoneyRow
charges_in deck = map (money_of deck) deck.charges

-- the amounts to go
abbrev pub togos_in : Deck → List MoneyRow
togos_in deck = map (money_of deck) deck.togos

-- what the activity of a card costs at its normal duration, and at which item
abbrev pub work_of : Deck → ActCard → WorkRow
work_of deck act = record { item = item_of_act deck act; cost = act.cost }

-- what all activities cost, and at which items
abbrev pub work_in : Deck → List WorkRow
work_in deck = map (work_of deck) deck.acts

-- what a STATUS card says
abbrev pub status_of : Deck → StatusCard → StatusRow
status_of deck card = record { activity = number_among (act_codes deck) card.activity; finished = card.finished; day = card.day }

-- the statuses
abbrev pub statuses_in : Deck → List StatusRow
statuses_in deck = map (status_of deck) deck.statuses

-- what time costs, by the TERMS card; nothing without one
abbrev pub time_terms_of : Option TermsCard → TimeTerms
time_terms_of None = record { overhead = 0; target = 0; bonus = 0; penalty = 0 }
time_terms_of (Some card) = record { overhead = card.overhead; target = card.target; bonus = card.bonus; penalty = card.penalty }

-- the expected time of the activity of a card
abbrev pub expected_of : Deck → ActCard → ℕ
expected_of deck act = expected_time act.opt act.likely act.pess deck.project.unit_days

-- the variance of the activity of a card
abbrev pub variance_in : Deck → ActCard → ℕ
variance_in deck act = variance_of act.opt act.pess deck.project.unit_days

-- the network of a deck: an event for each EVENT card, an activity for each ACT card
abbrev pub network_of : Deck → Network
network_of deck = record {
  events = length deck.events;
  start = number_among (event_codes deck) deck.project.start;
  end = number_among (event_codes deck) deck.project.end;
  arcs = map (arc_of deck) deck.acts;
}

-- the item of a WBS card by the number of its parent; none at a card without a parent
abbrev pub row_of : Deck → ItemCard → ItemRow
row_of deck item = record { parent = option_and_then (λ code. Some (number_among (item_codes deck) code)) item.parent }

-- the items of a deck by their parents
abbrev pub rows_of : Deck → List ItemRow
rows_of deck = map (row_of deck) deck.items

-- the day that the figures are of: the ASOF card's, or the start
abbrev pub as_of_day : ℤ → Option AsOfCard → ℤ
as_of_day start None = start
as_of_day start (Some card) = card.day

-- what a deck says of the project itself
abbrev pub heading_of : Deck → Heading
heading_of deck = record {
  code = deck.project.code;
  start_day = deck.project.start_day;
  as_of = as_of_day deck.project.start_day deck.as_of;
  unit_days = deck.project.unit_days;
  directed = deck.project.directed;
}

-- how many cards of each kind a deck has
abbrev pub counts_of : Deck → Counts
counts_of deck = record {
  events = length deck.events;
  activities = length deck.acts;
  items = length deck.items;
  accounts = length deck.accounts;
  charges = length deck.charges;
  togos = length deck.togos;
  statuses = length deck.statuses;
}

-- the project of a deck, with these entries of its accounts and these states of its activities
abbrev pub project_in : Deck → List Entry → List ActState → Project
project_in deck entries states = record {
  deck = deck;
  heading = heading_of deck;
  network = network_of deck;
  tree = rows_of deck;
  events = event_codes deck;
  activities = act_codes deck;
  places = map (item_of_act deck) deck.acts;
  terms = terms_in deck;
  expected = map (expected_of deck) deck.acts;
  variances = map (variance_in deck) deck.acts;
  items = item_codes deck;
  titles = map (λ item. item.title) deck.items;
  pieces = pieces_in deck;
  resources = resource_codes deck;
  loads = map (load_of deck) deck.loads;
  accounts = accounts_in deck;
  charges = charges_in deck;
  togos = togos_in deck;
  entries = entries;
  statuses = statuses_in deck;
  states = states;
  time_terms = time_terms_of deck.terms;
  counts = counts_of deck;
}
