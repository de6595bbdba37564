use Rattle.std.proofs.Common.{◌+◌, length, arith, subst}
use Rattle.std.specs.Vec.{with_items}
use Rattle.pc_cells.specs.inside.Layout.{IsRangeWritten}
use Rattle.pc_cells.proofs.RegionLaws.{region-within, region-written, vector-written}
use Rattle.pc_cells.proofs.region.Region.write.Goals as goal

pub write_range-requires : goal.write_range-requires
write_range-requires c =
    omega (arith, region-within c.self.inside c.args.self.now c.self.view_is c.self.invariant c.args.s c.requires.live, c.requires.one_each, c.deref_mut.ensures.len, c.self.inside.cells.ok.0)

pub returns : goal.returns
returns c k is =
    let written =
    vector-written c.self.inside.cells c.deref_mut.result.now c.write_range.new.cells c.args.s.place (c.args.s.place + length c.args.numbers.now) c.args.numbers.now
    c.deref_mut.ensures.value c.deref_mut.ensures.len c.write_range.ensures in
    region-written c.self.inside c.args.self.now c.self.view_is c.self.invariant (with_items c.self.inside.cells c.write_range.new.cells).items k c.args.s c.args.numbers.now is
    (subst (λ n. IsRangeWritten c.self.inside.cells.items (with_items c.self.inside.cells c.write_range.new.cells).items c.args.s.place
    (c.args.s.place + n) c.args.numbers.now) c.requires.one_each written)
