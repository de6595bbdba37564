use Rattle.std.proofs.Common.{◌+◌, arith}
use Rattle.std.specs.Vec.{with_items}
use Rattle.pc_cells.proofs.RegionLaws.{region-within, region-fill, vector-filled}
use Rattle.pc_cells.proofs.region.Region.fill.Goals as goal

pub overflow_add-s : goal.overflow_add-s
overflow_add-s c =
    omega (arith, region-within c.self.inside c.args.self.now c.self.view_is c.self.invariant c.args.s c.requires, c.self.invariant.few)

pub fill_range-requires-clause-within : goal.fill_range-requires-clause-within
fill_range-requires-clause-within c =
    omega (arith, region-within c.self.inside c.args.self.now c.self.view_is c.self.invariant c.args.s c.requires, c.deref_mut.ensures.len, c.self.inside.cells.ok.0)

pub returns : goal.returns
returns c k is =
    region-fill c.self.inside c.args.self.now c.self.view_is c.self.invariant (with_items c.self.inside.cells c.fill_range.new.cells).items k c.args.s c.args.v is
    (
    vector-filled c.self.inside.cells c.deref_mut.result.now c.fill_range.new.cells c.args.s.place (c.args.s.place + c.args.s.len) c.args.v
    c.deref_mut.ensures.value c.deref_mut.ensures.len c.fill_range.ensures
    )
