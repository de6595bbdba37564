use Rattle.std.proofs.Common.{arith, sym, length-drop}
use Rattle.std.proofs.lemmas.List.{take_rest}
use Rattle.pc_edges.proofs.Copying.{take-at_add}
use Rattle.pc_edges.proofs.Writing.{Wrote-as, Wrote-then}
use Rattle.pc_edges.proofs.sink.push_all.Goals as goal

pub loop-at-preserved : goal.loop-at-preserved
loop-at-preserved g c =
    let h = c.in_ok-at.ensures in
    let fits = rw take_rest at h.fits in
    record {
      within = omega (arith, fits, length-drop c.loop-at.at c.args.piece.now);
      wrote = Wrote-as _ (sym (take-at_add c.args.piece.now c.loop-at.at c.in_ok-at.field-0))
          (Wrote-then c.loop-at.invariant.wrote (record { whole = h.bytes; no_fault = h.no_fault }));
    }
