use Rattle.std.proofs.Common.{◌≡◌, slice_index}
use Rattle.pc_model.specs.inside.Greatest.{IsListed}
use Rattle.pc_net.proofs.ordering.free_events.Given as goal

abbrev pub invariant-loop-event : goal.invariant-loop-event
invariant-loop-event l = IsListed (λ v. slice_index l.missing v ≡ 0) l.event l.order.items
