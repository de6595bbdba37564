use Rattle.std.proofs.Common.{arith, ◌≡◌, Some, sym, ap, ◌∙◌}
use Rattle.pc_wbs.specs.Climb.{parent_of}
use Rattle.pc_wbs.proofs.LoopLaws.{IsOnTheWay-more, IsLoopFrom-walked, not_for_ever, loop-parent}
use Rattle.pc_wbs.proofs.loops.loop_from.Goals as goal
use Rattle.pc_wbs.proofs.loops.loop_from.Goals.{in_default-via-in-Some+else-parent-start, in_default-via-in_default}

pub loop-step-preserved : goal.loop-step-preserved
loop-step-preserved c =
    let e : parent_of c.args.rows.now c.loop-step.at ≡ Some c.in-Some.parent = sym c.parent_of.ensures ∙ c.in-Some.is in
    rw c.in_ok-push.ensures.items (IsOnTheWay-more c.args.rows.now c.args.start c.loop-step._step c.loop-step.found.items
    c.loop-step.at c.in-Some.parent c.requires.in_range c.loop-step.invariant e c.if-parent-start.true)

back : (c : goal.After-new) → parent_of c.args.rows.now c.loop-step.at ≡ Some c.args.start
back c =
    let z = loop-parent c.args.rows.now c.args.start c.loop-step._step c.loop-step.found.items c.loop-step.at c.requires.looped c.loop-step.invariant in
    elim c.in_default.branch [
      | in_default-via-in-Some+else-parent-start w ↦ sym c.parent_of.ensures ∙ w.in-Some.is
          ∙ ap Some w.if-parent-start.false
      | in_default-via-in_default w ↦ absurd (w.in_default.not-Some z.0 (c.parent_of.ensures ∙ z.1))
    ]

pub returns-in_default : goal.returns-in_default
returns-in_default c =
    rw (c.new.ensures, c.in_ok-push.ensures.items) (IsLoopFrom-walked c.args.rows.now c.args.start c.loop-step._step c.loop-step.found.items c.loop-step.at c.loop-step.invariant (back c))

pub unreachable-requires : goal.unreachable-requires
unreachable-requires c =
    not_for_ever c.args.rows.now c.args.start c.loop-step._step c.loop-step.found.items c.loop-step.at c.requires.in_range c.requires.looped (omega arith) c.loop-step.invariant
