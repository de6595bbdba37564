use Rattle.std.proofs.Common.{◌+◌, ◌-◌, length, arith, subst, sym}
use borrow.Rule.Slice.PartMut.{put_mid}
use Rattle.pc_cells.specs.inside.Layout.{IsRangeWritten}
use Rattle.pc_cells.proofs.SpanLaws.{range-written}
use Rattle.pc_cells.proofs.region.write_range.Goals as goal

pub returns : goal.returns
returns c =
    let to = c.args.from + length c.args.numbers.now in
    subst (λ ys. IsRangeWritten c.args.cells.now (put_mid c.args.from (to - c.args.from) c.args.cells.now ys) c.args.from to c.args.numbers.now)
    (sym c.copy_from_slice.ensures.after)
    (range-written c.args.cells.now c.args.from to c.args.numbers.now (omega arith) c.requires (omega arith))
