use Rattle.std.proofs.Common.{arith}
use Rattle.pc_cells.proofs.RegionLaws.{region-mark, region-used, region-length}
use Rattle.pc_cells.proofs.region.Region.mark.Goals as goal

pub returns-clause-mark : goal.returns-clause-mark
returns-clause-mark c =
    region-mark c.self.inside c.args.self.now c.self.view_is c.self.invariant _ (omega arith)
    (omega (arith, region-used c.self.inside c.args.self.now c.self.view_is c.self.invariant, c.used.ensures.used))

pub returns-clause-of_all : goal.returns-clause-of_all
returns-clause-of_all c = region-length c.self.inside c.args.self.now c.self.view_is c.self.invariant
