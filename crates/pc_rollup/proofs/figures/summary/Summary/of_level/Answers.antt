use Rattle.std.proofs.Common.{length, ap, arith}
use Rattle.std.proofs.lemmas.List.{length-replicate}
use Rattle.pc_rollup.specs.figures.Summary.{Summary}
use Rattle.pc_rollup.proofs.figures.summary.Summary.of_level.Goals as goal

pub returns-clause-counted : goal.returns-clause-counted
returns-clause-counted c =
    let levels = ap (λ (s : Summary). length s.budget.levels) c.self.view_is in
    let deep = length-replicate c.self.inside.depth c.self.inside.whole.budget in
    omega (arith, c.requires, c.self.invariant)
