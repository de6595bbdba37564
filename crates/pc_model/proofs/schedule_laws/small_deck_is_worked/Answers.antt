use Rattle.pc_model.proofs.Worked.SmallDeck.{small_are_pieces, small_priced, small_order, small_all_normal, small_all_crash, small_least_cost, small_least_cost_at_8}
use Rattle.pc_model.proofs.schedule_laws.small_deck_is_worked.Goals as goal

pub returns : goal.returns
returns c = record {
  pieces = small_are_pieces;
  priced = small_priced;
  order = small_order;
  longest = small_all_normal;
  shortest = small_all_crash;
  nine = small_least_cost;
  eight = small_least_cost_at_8;
}
