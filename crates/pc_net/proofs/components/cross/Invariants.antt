use Rattle.std.proofs.Common.{slice_index}
use Rattle.pc_net.proofs.LabelLaws.{IsSpreading}
use Rattle.pc_net.proofs.components.cross.Given as goal

abbrev pub invariant-loop-a : goal.invariant-loop-a
invariant-loop-a l =
    IsSpreading l.graph l.label l.reached.items l.labels.items l.at (slice_index l.initial.reached.items l.at) l.a-items l.a-index
