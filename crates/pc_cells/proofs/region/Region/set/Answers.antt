use Rattle.std.proofs.Common.{arith}
use Rattle.pc_cells.proofs.RegionLaws.{region-within, region-set}
use Rattle.pc_cells.proofs.region.Region.set.Goals as goal

pub overflow_add-s : goal.overflow_add-s
overflow_add-s c =
    omega (arith, region-within c.self.inside c.args.self.now c.self.view_is c.self.invariant c.args.s c.requires.live, c.self.invariant.few, c.requires.within)

pub index_mut-requires : goal.index_mut-requires
index_mut-requires c =
    omega (arith, region-within c.self.inside c.args.self.now c.self.view_is c.self.invariant c.args.s c.requires.live, c.self.inside.cells.ok.0, c.requires.within)

pub returns : goal.returns
returns c k is = region-set c.self.inside c.args.self.now c.self.view_is c.self.invariant k c.args.s c.args.i c.args.v is c.requires.within
