use Rattle.pc_wbs.proofs.BuildLaws.{IsDepth-within}
use Rattle.pc_wbs.proofs.tree.Tree.depth.Goals as goal

pub returns-clause-within : goal.returns-clause-within
returns-clause-within c =
    IsDepth-within c.self.inside.rows.items c.self.inside.levels.items c.self.inside.depth c.self.invariant.levels c.self.invariant.depth
