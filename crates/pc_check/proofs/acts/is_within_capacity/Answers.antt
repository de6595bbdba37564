use Rattle.std.proofs.Common.{sym}
use Rattle.std.proofs.lemmas.Bool.{lt-leb}
use Rattle.pc_check.proofs.BelowLaws.{each_below-fails}
use Rattle.pc_check.proofs.acts.is_within_capacity.Goals as goal

pub returns-then-flows-k : goal.returns-then-flows-k
returns-then-flows-k c = sym (each_below-fails _ _ c.loop-k.k c.loop-k-test.true (lt-leb _ _ c.if-flows-k.true))
