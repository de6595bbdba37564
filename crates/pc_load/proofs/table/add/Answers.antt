use Rattle.std.proofs.Common.{◌+◌, ◌-◌, ◌*◌, ◌<◌, sym, arith}
use Rattle.pc_rollup.specs.Totals.{amount_at}
use Rattle.pc_load.proofs.AddLaws.{added_none, begun_none, added_more, added_all, grown, grown_fits, still_small}
use Rattle.pc_load.proofs.ColumnLaws.{place_within}
use Rattle.pc_load.proofs.ShareLaws.{share_grows}
use Rattle.pc_load.proofs.table.add.Goals as goal

pub loop-k-init : goal.loop-k-init
loop-k-init c = record {
  cells = added_none c.args.rows c.args.periods c.args.entry.now c.args.width c.args.cells.now;
  so_far = sym (begun_none c.args.entry.now.spread c.args.width);
}

pub overflow_sub-cells : goal.overflow_sub-cells
overflow_sub-cells c =
    let grows = share_grows c.args.entry.now.spread (c.args.width * c.loop-k.k) (c.args.width * (c.loop-k.k + 1)) (omega arith) in
    omega (arith, c.loop-k.invariant.so_far, c.share-by.ensures.share)

pub slice_copy_out-cells : goal.slice_copy_out-cells
slice_copy_out-cells c =
    let within : c.loop-k.k < c.args.periods = omega (arith, c.min-end.ensures, c.from.ensures) in
    let place = place_within c.args.rows c.args.periods c.loop-k.k c.args.entry.now.row within c.requires.known in
    let one_each = c.loop-k.invariant.cells.one_each in
    let whole = c.requires.whole in
    omega arith

pub bounds-cells-k : goal.bounds-cells-k
bounds-cells-k c =
    let within : c.loop-k.k < c.args.periods = omega (arith, c.min-end.ensures, c.from.ensures) in
    let place = place_within c.args.rows c.args.periods c.loop-k.k c.args.entry.now.row within c.requires.known in
    let one_each = c.loop-k.invariant.cells.one_each in
    let whole = c.requires.whole in
    omega arith

pub overflow_add-cells-in-loop-k : goal.overflow_add-cells-in-loop-k
overflow_add-cells-in-loop-k c =
    let within : c.loop-k.k < c.args.periods = omega (arith, c.min-end.ensures, c.from.ensures) in
    grown_fits (amount_at c.loop-k.cells (c.loop-k.k * c.args.rows + c.args.entry.now.row)) (c.share-by.result - c.loop-k.so_far)
    (still_small c.args.rows c.args.periods c.args.entry.now c.args.width c.loop-k.k c.args.cells.now c.loop-k.cells c.loop-k.invariant.cells c.requires.known c.requires.room within)
    (omega (arith, c.share-by.ensures.most, c.requires.spread.amount))

pub loop-k-preserved : goal.loop-k-preserved
loop-k-preserved c =
    let within : c.loop-k.k < c.args.periods = omega (arith, c.min-end.ensures, c.from.ensures) in
    let small = still_small c.args.rows c.args.periods c.args.entry.now c.args.width c.loop-k.k c.args.cells.now c.loop-k.cells c.loop-k.invariant.cells c.requires.known c.requires.room within in
    record {
      cells = added_more c.args.rows c.args.periods c.args.entry.now c.args.width c.loop-k.k c.args.cells.now c.loop-k.cells
          c.share-by.result c.loop-k.so_far _ c.loop-k.invariant.cells c.requires.known c.loop-k.invariant.so_far c.share-by.ensures.share
          (grown (amount_at c.loop-k.cells (c.loop-k.k * c.args.rows + c.args.entry.now.row)) (c.share-by.result - c.loop-k.so_far) small
          (omega (arith, c.share-by.ensures.most, c.requires.spread.amount)));
      so_far = c.share-by.ensures.share;
    }

pub returns : goal.returns
returns c =
    added_all c.args.rows c.args.periods c.args.entry.now c.args.width c.loop-k.k c.args.cells.now c.loop-k.cells c.loop-k.invariant.cells (omega (arith, c.requires.least_width))
    (λ k le within. omega (arith, c.min-end.ensures, c.from.ensures))
