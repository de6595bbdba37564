-- The project of a deck: its lists in card order, with numbers for codes.
-- Here is what no clause of a top call and no law reaches.
use Rattle.std.specs.Prelude.{ℕ, [], slice_index, slice_index_or}
use Rattle.pc_model.specs.Schedule.{term_at}
use Rattle.pc_model.specs.Walk.{from_of, to_of}
use Rattle.pc_deck.specs.declared.kinds.act.ActCard.{ActCard}
use Rattle.pc_deck.specs.Deck.{Deck}
use Rattle.pc_project.specs.declared.activity.Activity.{Activity}
use Rattle.pc_project.specs.declared.placed.Placement.{Placement}
use Rattle.pc_project.specs.Project.{Project, arc_of, item_of_act}

-- the events and the item of the activity of a card
abbrev pub placement_of : Deck → ActCard → Placement
placement_of deck act = record { arc = arc_of deck act; item = item_of_act deck act }

-- what a project says of activity a
abbrev pub activity_at : Project → ℕ → Activity
activity_at project a = record {
  code = slice_index_or project.activities a [];
  from = from_of project.network.arcs a;
  to = to_of project.network.arcs a;
  item = slice_index project.places a;
  expected = slice_index project.expected a;
  variance = slice_index project.variances a;
  normal = (term_at project.terms a).normal;
  crash = (term_at project.terms a).crash;
  cost = (term_at project.terms a).cost;
  slope = (term_at project.terms a).slope;
}
