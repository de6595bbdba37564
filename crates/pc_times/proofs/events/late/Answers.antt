use Rattle.std.proofs.Common.{◌≡◌, ℤ, pos, ◌-ℤ◌, List, map, arith, subst, sym}
use Rattle.std.proofs.lemmas.Int.{ints, to_z-of_z}
use Rattle.std.specs.List.{All}
use Rattle.pc_times.specs.Late.{AreLate}
use Rattle.pc_times.specs.inside.Late.{IsInTimeFor}
use Rattle.pc_times.proofs.LateLaws.{late_from_tails, late_limit, late_more, late_all}
use Rattle.pc_times.proofs.events.late.Goals as goal

pub so_long_before-requires-clause-tail : goal.so_long_before-requires-clause-tail
so_long_before-requires-clause-tail c =
    rw c.deref-tail-items.ensures.value (c.in_ok-tails.ensures.limit c.loop-tail.tail-index 0 (omega arith))

pub loop-tail-preserved : goal.loop-tail-preserved
loop-tail-preserved c = late_more _ _ _ _ _ _ c.loop-tail-test.true c.loop-tail.invariant c.in_ok-push.ensures.items (omega (arith, ints))

pub returns-clause-times : goal.returns-clause-times
returns-clause-times c =
    let whole : c.loop-tail.times.items
    ≡ map (λ n. c.args.by -ℤ pos n) c.in_ok-tails.tails.items =
    late_all _ _ _ _ _ _ (to_z-of_z _ _ c.ranges.by) c.deref-tail-items.ensures.value (omega arith) c.loop-tail.invariant in
    subst (λ (times : List ℤ). AreLate c.args.net.now c.args.lengths.now c.args.by times) (sym whole) (late_from_tails _ _ _ _ c.in_ok-tails.ensures.tails)

pub returns-clause-limit : goal.returns-clause-limit
returns-clause-limit c =
    let whole : c.loop-tail.times.items
    ≡ map (λ n. c.args.by -ℤ pos n) c.in_ok-tails.tails.items =
    late_all _ _ _ _ _ _ (to_z-of_z _ _ c.ranges.by) c.deref-tail-items.ensures.value (omega arith) c.loop-tail.invariant in
    subst (λ (times : List ℤ). All (IsInTimeFor c.args.by) times) (sym whole) (late_limit _ _ c.in_ok-tails.ensures.limit)
