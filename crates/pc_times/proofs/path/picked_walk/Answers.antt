use Rattle.std.proofs.Common.{ℕ, length, slice_index, subst, ap, ◌∙◌, arith}
use Rattle.std.proofs.lemmas.List.{length_push}
use Rattle.pc_model.specs.Walk.{IsWalk}
use Rattle.pc_times.proofs.PickedLaws.{picked_to_start, picked_to_next, end_when_none_without_slack, picked_at_end}
use Rattle.pc_times.proofs.path.picked_walk.Goals as goal

pub loop-a-init : goal.loop-a-init
loop-a-init c =
    rw (c.in_ok-path.ensures.items, c.start-event.ensures.start) (picked_to_start _ _ _ _ c.requires.walks.ranged c.requires.times c.requires.tails c.requires.walks.sound)

pub loop-a-preserved : goal.loop-a-preserved
loop-a-preserved c =
    rw (c.in_ok-push.ensures.items, c.to-event.ensures.event) (picked_to_next _ _ _ _ c.requires.walks.ranged c.requires.times c.requires.tails _ _ _ c.loop-a.invariant c.in-Some.ensures.found)

pub loop-a-smaller : goal.loop-a-smaller
loop-a-smaller c =
    omega (
      arith,
      c.requires.walks.short _ _ c.loop-a.path.items c.loop-a.invariant.in_range c.loop-a.invariant.walked,
      ap length c.in_ok-push.ensures.items,
      length_push c.loop-a.path.items c.in-Some.a,
    )

pub returns-clause-picked : goal.returns-clause-picked
returns-clause-picked c =
    let at_end = end_when_none_without_slack _ _ _ _ c.requires.walks.ranged c.requires.times c.requires.tails _ _ c.loop-a.invariant c.in_default.ensures.none in
    picked_at_end _ _ _ _ c.requires.walks.ranged c.requires.times c.requires.tails _ _ c.loop-a.invariant at_end

pub returns-clause-through : goal.returns-clause-through
returns-clause-through c =
    let at_end = end_when_none_without_slack _ _ _ _ c.requires.walks.ranged c.requires.times c.requires.tails _ _ c.loop-a.invariant c.in_default.ensures.none in
    subst (λ (e : ℕ). IsWalk c.args.net.now.arcs c.args.net.now.start c.loop-a.path.items e) at_end c.loop-a.invariant.walked

pub returns-clause-sum : goal.returns-clause-sum
returns-clause-sum c =
    let at_end = end_when_none_without_slack _ _ _ _ c.requires.walks.ranged c.requires.times c.requires.tails _ _ c.loop-a.invariant c.in_default.ensures.none in
    c.loop-a.invariant.sums ∙ ap (slice_index c.args.times.now) at_end

pub returns-clause-short : goal.returns-clause-short
returns-clause-short c =
    c.requires.walks.short _ _ _ c.loop-a.invariant.in_range c.loop-a.invariant.walked
