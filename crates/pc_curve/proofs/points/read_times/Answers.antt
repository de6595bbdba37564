use Rattle.std.proofs.Common.{◌≡◌, ◌<◌, ◌-◌, ◌∙◌, ap, arith}
use Rattle.pc_laws.specs.Segment.{times_for}
use Rattle.pc_flow.specs.inside.Courses.{present}
use Rattle.pc_curve.proofs.ReadLaws.{time-more, fall-within, time-falls, time-stays}
use Rattle.pc_curve.proofs.points.read_times.Goals.{then-moves, else-moves}
use Rattle.pc_curve.proofs.points.read_times.Goals as goal

pub overflow_sub-times : goal.overflow_sub-times
overflow_sub-times c =
    let known : c.loop-e.e < c.args.net.now.network.events = omega (arith, c.loop-e-test.true, c.events-e-end.ensures.events, ap (λ n. n.events) c.net.ensures.network) in
    omega (
      arith,
      c.upper.ensures,
      c.time-time.ensures,
      fall-within c.args.net.now c.facts.ensures.priced c.args.solver.now c.requires.net c.args.limit c.requires.there c.loop-e.e known c.moves.result
          c.moves.ensures c.if-moves.true,
    )

pub loop-e-preserved : goal.loop-e-preserved
loop-e-preserved c =
    let known : c.loop-e.e < c.args.net.now.network.events = omega (arith, c.loop-e-test.true, c.events-e-end.ensures.events, ap (λ n. n.events) c.net.ensures.network) in
    let is : c.if-moves.times ≡ times_for (present c.args.solver.now) c.args.limit c.loop-e.e =
    elim c.if-moves.branch [
      | then-moves w ↦
          w.times-is
          ∙ ap (λ n. c.time-time.result - (n - c.args.limit)) c.upper.ensures
          ∙ ap (λ n. n - ((present c.args.solver.now).upper - c.args.limit)) c.time-time.ensures
          ∙ time-falls c.args.net.now c.facts.ensures.priced c.args.solver.now c.requires.net c.args.limit c.requires.there c.loop-e.e c.moves.result
          c.moves.ensures w.if-moves.true
      | else-moves w ↦
          w.times-is
          ∙ c.time-time.ensures
          ∙ time-stays c.args.net.now c.facts.ensures.priced c.args.solver.now c.requires.net c.args.limit c.requires.there c.loop-e.e c.moves.result
          c.moves.ensures w.if-moves.false
    ] in
    time-more (present c.args.solver.now) c.args.limit c.loop-e.e c.loop-e.times c.if-moves.times c.loop-e.invariant
    (omega (arith, known, c.requires.places, c.loop-e.auto.times)) is
