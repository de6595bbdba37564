use Rattle.std.proofs.Common.{◌≡◌, Bool, false, IsTrue, refl, ◌∙◌, w64, rules, arith}
use Rattle.std.specs.Prelude.{slice_index}
use Rattle.std.proofs.lemmas.Int.{to_z-of_z}
use mir.Val.{SFits}
use Rattle.pc_rollup.proofs.LineLaws.{lines_more, lines_skip, lines_all}
use Rattle.pc_rollup.proofs.WholeLaws.{whole_sum}
use Rattle.pc_rollup.proofs.levels.level_lines.Goals as goal
use Rattle.pc_rollup.proofs.levels.level_lines.Goals.{then-has_line+in_ok-push, else-has_line}

-- a test that failed did not pass
no_line : (b : Bool) → b ≡ false → IsTrue b → ⊥
no_line b failed passed = cc

pub loop-item-preserved : goal.loop-item-preserved
loop-item-preserved c =
    let item = slice_index c.preorder-item-items.result.now c.loop-item.item-index in
    elim c.if-has_line.branch [
      | then-has_line+in_ok-push w ↦ rw (w.lines-is, w.in_ok-push.ensures.items)
          (lines_more c.args.tree.now _ c.loop-item.item-index c.args.level c.args.totals.now c.loop-item.lines.items _
          c.loop-item-test.true refl (let fits : SFits w64 w.total-amount.result = search rules in
          to_z-of_z w64 w.total-amount.result fits ∙ w.total-amount.ensures)
          (c.has_line.ensures.0 w.if-has_line.true) c.loop-item.invariant)
      | else-has_line w ↦ rw w.lines-is
          (lines_skip c.args.tree.now _ c.loop-item.item-index c.args.level c.args.totals.now c.loop-item.lines.items
          (λ line. no_line _ w.if-has_line.false (c.has_line.ensures.1 line)) c.loop-item.invariant)
    ]

pub returns-clause-lines : goal.returns-clause-lines
returns-clause-lines c =
    let order = c.preorder-item-items.ensures.order in
    (c.preorder-item-items.result.now, (order, lines_all _ _ _ _ _ _ order (omega arith) c.loop-item.invariant))

pub returns-clause-whole : goal.returns-clause-whole
returns-clause-whole c = λ amounts top rolled is_top.
    let order = c.preorder-item-items.ensures in
    whole_sum c.args.tree.now c.preorder-item-items.result.now c.args.level top amounts c.args.totals.now c.loop-item.lines.items
    order.in_range order.tree order.order c.requires.level (lines_all _ _ _ _ _ _ order.order (omega arith) c.loop-item.invariant) rolled is_top
