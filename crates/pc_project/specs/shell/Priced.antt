-- The network of a deck or of its project with what its activities may last and cost.
use Rattle.pc_crash.specs.Priced.{PricedNetwork}
use Rattle.pc_deck.specs.Deck.{Deck, act_codes, event_codes}
use Rattle.pc_project.specs.Project.{Project, network_of, pieces_in, terms_in}

-- the network whose time-cost curve is that of the deck
abbrev pub priced_of : Deck → PricedNetwork
priced_of deck = record {
  network = network_of deck;
  terms = terms_in deck;
  pieces = pieces_in deck;
  project = deck.project.code;
  events = event_codes deck;
  activities = act_codes deck;
}

-- the network whose time-cost curve is that of the project
abbrev pub priced_in : Project → PricedNetwork
priced_in project = record {
  network = project.network;
  terms = project.terms;
  pieces = project.pieces;
  project = project.heading.code;
  events = project.events;
  activities = project.activities;
}
