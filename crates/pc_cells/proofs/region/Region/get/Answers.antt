use Rattle.std.proofs.Common.{arith, ◌∙◌}
use Rattle.std.proofs.lemmas.List.{get_or_read}
use Rattle.pc_cells.proofs.RegionLaws.{region-within, region-get}
use Rattle.pc_cells.proofs.region.Region.get.Goals as goal

pub overflow_add-s : goal.overflow_add-s
overflow_add-s c =
    omega (arith, region-within c.self.inside c.args.self.now c.self.view_is c.self.invariant c.args.s c.requires.live, c.self.invariant.few, c.requires.within)

pub index-requires : goal.index-requires
index-requires c =
    omega (arith, region-within c.self.inside c.args.self.now c.self.view_is c.self.invariant c.args.s c.requires.live, c.self.inside.cells.ok.0, c.requires.within)

pub returns : goal.returns
returns c k is =
    get_or_read c.self.inside.cells.items _ _
    (omega (arith, region-within c.self.inside c.args.self.now c.self.view_is c.self.invariant c.args.s c.requires.live, c.requires.within))
    c.index.ensures 0
    ∙ region-get c.self.inside c.args.self.now c.self.view_is c.self.invariant k c.args.s c.args.i is c.requires.within
