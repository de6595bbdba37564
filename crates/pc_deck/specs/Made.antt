-- The plan that is generated from a deck of tasks.
use Rattle.std.specs.Prelude.{List, []}
use Rattle.pc_deck.specs.Deck.{Deck}
use Rattle.pc_deck.specs.declared.kinds.act.ActCard.{ActCard}
use Rattle.pc_deck.specs.declared.kinds.titled.TitledCard.{TitledCard}
use Rattle.pc_deck.specs.declared.kinds.wbs.ItemCard.{ItemCard}

-- the plan that has these items, events and activities, and the other cards of a deck of tasks but those of tasks
abbrev pub drawn_with : Deck → List ItemCard → List TitledCard → List ActCard → Deck
drawn_with deck items events acts = record {
  project = deck.project;
  lists = record deck.lists { items = items; events = events; acts = acts; tasks = []; afters = [] };
}
