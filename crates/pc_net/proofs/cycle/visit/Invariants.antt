use Rattle.std.proofs.Common.{◌≡◌, slice_index, vec_len}
use Rattle.pc_model.specs.Walk.{from_of}
use Rattle.pc_net.proofs.SearchLaws.{IsVisit}
use Rattle.pc_net.proofs.cycle.visit.Given as goal

abbrev pub invariant-loop-step : goal.invariant-loop-step
invariant-loop-step l =
    (vec_len l.ranks ≡ vec_len l.initial.ranks) × IsVisit l.graph l.a l.steps.items l.ranks.items l.at (from_of l.graph.arcs (slice_index l.initial.steps.items l.at)) l.step-items l.step-index
