use Rattle.std.proofs.Common.{sym}
use Rattle.std.proofs.lemmas.Bool.{ne_eqb}
use Rattle.pc_check.proofs.BelowLaws.{each_below-fails}
use Rattle.pc_check.proofs.acts.is_still.Goals as goal

pub returns-then-flows-k-ne0 : goal.returns-then-flows-k-ne0
returns-then-flows-k-ne0 c = sym (each_below-fails _ _ c.loop-k.k c.loop-k-test.true (ne_eqb _ _ c.if-flows-k-ne0.true))
