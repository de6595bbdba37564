use Rattle.std.proofs.Common.{false, ap, ◌∙◌, arith}
use Rattle.std.specs.Prelude.{filter, not, slice_index_or}
use Rattle.std.specs.List.{range_with_len}
use Rattle.pc_tasks.proofs.MarkLemmas.{kept-more, left-more}
use Rattle.pc_tasks.proofs.links.unmarked.Goals.{then-not-marks-i+in_ok-push, else-not-marks-i}
use Rattle.pc_tasks.proofs.links.unmarked.Goals as goal

pub loop-i-preserved : goal.loop-i-preserved
loop-i-preserved c =
    elim c.if-not-marks-i.branch [
      | then-not-marks-i+in_ok-push w ↦
          ap (λ v. v.items) w.found-is
          ∙ (w.in_ok-push.ensures.items ∙ kept-more (λ i. not (slice_index_or c.args.marks.now i false)) c.loop-i.i c.loop-i.found.items c.loop-i.invariant (ap not w.if-not-marks-i.true))
      | else-not-marks-i w ↦
          ap (λ v. v.items) w.found-is
          ∙ left-more (λ i. not (slice_index_or c.args.marks.now i false)) c.loop-i.i c.loop-i.found.items c.loop-i.invariant (ap not w.if-not-marks-i.false)
    ]

pub overflow_cast-i-end : goal.overflow_cast-i-end
overflow_cast-i-end c = omega (arith, c.requires)

pub overflow_cast-i : goal.overflow_cast-i
overflow_cast-i c = omega (arith, c.requires, c.loop-i-test.true)

pub returns : goal.returns
returns c = c.loop-i.invariant ∙ ap (λ n. filter (λ i. not (slice_index_or c.args.marks.now i false)) (range_with_len 0 n)) (omega (arith, c.loop-i-test.false))
