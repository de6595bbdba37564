use Rattle.pc_cells.proofs.RegionLaws.{region-released, laid-released}
use Rattle.pc_cells.proofs.region.Region.release_to.Goals as goal

pub invariant_of-self : goal.invariant_of-self
invariant_of-self c = laid-released c.self.inside c.args.self.now c.self.view_is c.self.invariant c.args.m.spans c.requires.known

pub returns : goal.returns
returns c = region-released c.self.inside c.args.self.now c.self.view_is c.self.invariant c.args.m.spans c.requires.known
