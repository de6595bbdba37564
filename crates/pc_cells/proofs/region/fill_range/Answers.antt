use Rattle.std.proofs.Common.{◌-◌, replicate, arith, subst, sym, ap, ◌∙◌}
use Rattle.std.proofs.lemmas.List.{length-take, length-drop}
use borrow.Rule.Slice.PartMut.{put_mid}
use Rattle.pc_cells.specs.inside.Layout.{IsRangeFilled}
use Rattle.pc_cells.proofs.SpanLaws.{range-filled}
use Rattle.pc_cells.proofs.region.fill_range.Goals as goal

pub returns : goal.returns
returns c =
    subst (λ ys. IsRangeFilled c.args.cells.now (put_mid c.args.from (c.args.to - c.args.from) c.args.cells.now ys) c.args.from c.args.to c.args.v)
    (sym (c.fill.ensures.after (λ y is. is) ∙ ap (λ n. replicate n c.args.v) (simp (length-take, length-drop) (omega arith))))
    (range-filled c.args.cells.now c.args.from c.args.to c.args.v c.requires.ordered c.requires.within)
