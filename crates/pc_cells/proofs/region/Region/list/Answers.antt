use Rattle.std.proofs.Common.{◌+◌, arith, ap, ◌∙◌}
use Rattle.std.specs.Prelude.{slice_range}
use Rattle.pc_cells.proofs.RegionLaws.{region-within, region-list}
use Rattle.pc_cells.proofs.region.Region.list.Goals as goal

pub overflow_add-result : goal.overflow_add-result
overflow_add-result c =
    omega (arith, region-within c.self.inside c.args.self.now c.self.view_is c.self.invariant c.args.s c.requires, c.self.invariant.few)

pub offset_bounds-deref-s : goal.offset_bounds-deref-s
offset_bounds-deref-s c =
    omega (arith, region-within c.self.inside c.args.self.now c.self.view_is c.self.invariant c.args.s c.requires, c.deref.type_inv.1, c.deref.ensures.len, c.self.inside.cells.ok.0)

pub slice_bounds-result-end : goal.slice_bounds-result-end
slice_bounds-result-end c =
    omega (arith, region-within c.self.inside c.args.self.now c.self.view_is c.self.invariant c.args.s c.requires, c.deref.ensures.len, c.self.inside.cells.ok.0)

pub returns : goal.returns
returns c k is =
    ap (λ xs. slice_range xs c.args.s.place (c.args.s.place + c.args.s.len)) c.deref.ensures.value
    ∙ region-list c.self.inside c.args.self.now c.self.view_is c.self.invariant k c.args.s is
