use Rattle.std.proofs.Common.{◌≡◌, ◌∙◌, ◌<◌, None, slice_index, refl, arith}
use Rattle.std.proofs.lemmas.List.{get_or_default}
use Rattle.pc_rollup.specs.inside.figures.Packages.{progress_at}
use Rattle.pc_rollup.proofs.lemmas.figures.ValueLaws.{progress_more}
use Rattle.pc_rollup.proofs.figures.worth.progress_of.Goals as goal

pub loop-a-preserved : goal.loop-a-preserved
loop-a-preserved c =
    let x = slice_index c.args.places.now c.loop-a.a in
    let known : x < c.args.items = c.requires.known c.loop-a.a c.loop-a-test.true in
    let read : c.index.result.now ≡ progress_at c.loop-a.progress.items x = c.index.ensures
    ∙ get_or_default c.loop-a.progress.items x c.index.result.now None (omega (arith, c.loop-a.invariant.one_each, known)) in
    rw c.all_finished.ensures (progress_more c.args.items c.args.places.now c.args.states.now c.loop-a.a x c.loop-a.progress.items
    c.index.result.now c.is_finished-finished.result c.loop-a.invariant refl known read c.is_finished-finished.ensures)
