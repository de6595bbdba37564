use Rattle.std.proofs.Common.{◌∙◌, ap, false, length, subst}
use Rattle.std.specs.Prelude.{filter, not, slice_index_or}
use Rattle.std.specs.List.{range_with_len}
use Rattle.std.proofs.lemmas.List.{take_all}
use Rattle.std.proofs.lemmas.Result.{IfOk-weaker}
use Rattle.pc_tasks.specs.network.Arrows.{comes_before}
use Rattle.pc_tasks.specs.inside.Marks.{AreMarks}
use Rattle.pc_tasks.proofs.MarkLemmas.{before_more, unmarked-fail}
use Rattle.pc_tasks.proofs.links.lasts.Goals as goal

pub loop-after-preserved : goal.loop-after-preserved
loop-after-preserved c =
    before_more c.args.tasks c.args.afters.now c.loop-after.after-index (record { task = 0; before = 0 }) c.loop-after.come.items c.loop-after-test.true
    (c.requires.before c.loop-after.after-index c.loop-after-test.true) c.loop-after.invariant

pub returns : goal.returns
returns c =
    let marked = subst (λ rows. AreMarks c.args.tasks (comes_before rows) c.loop-after.come.items)
    (take_all c.loop-after.after-index c.args.afters.now c.loop-after-test.false) c.loop-after.invariant in
    IfOk-weaker c.unmarked.result _ _
    (λ found is.
    is
    ∙ (ap (λ marks. filter (λ i. not (slice_index_or marks i false)) (range_with_len 0 (length marks))) c.deref.ensures.value
    ∙ unmarked-fail c.args.tasks (comes_before c.args.afters.now) c.loop-after.come.items marked))
    c.unmarked.ensures
