use Rattle.std.proofs.Common.{true≢false, sym, inl, inr, arith}
use Rattle.pc_flow.proofs.LookLaws.{looks-most}
use Rattle.pc_curve.specs.Range.{IsRange}
use Rattle.pc_curve.proofs.RangeLaws.{outside_range}
use Rattle.pc_whatif.proofs.trials.trial.cost_within.Goals.{then-limit-shortest-via-then-limit-shortest, then-limit-shortest-via-else-limit-shortest+then-longest-limit}
use Rattle.pc_whatif.proofs.trials.trial.cost_within.Goals as goal

pub returns-then-limit-shortest-clause-within : goal.returns-then-limit-shortest-clause-within
returns-then-limit-shortest-clause-within g c =
    let net = c.args.solver.now.net in
    let range : IsRange net c.shortest-shortest.result c.longest-longest.result = record { all_crash = c.shortest-shortest.ensures.all_crash; all_normal = c.longest-longest.ensures.all_normal } in
    let none = outside_range net c.shortest-shortest.result c.longest-longest.result c.args.limit range
    (elim c.then-limit-shortest.branch [
      | then-limit-shortest-via-then-limit-shortest w ↦ inl w.if-limit-shortest.true
      | then-limit-shortest-via-else-limit-shortest+then-longest-limit w ↦ inr w.if-longest-limit.true
    ]) in
    (λ e. absurd (true≢false (sym e)), λ inside. absurd (none inside))

pub returns-clause-counted : goal.returns-clause-counted
returns-clause-counted g c =
    let from = c.args.solver.now in
    let to = c.cost_at-cost.new.solver in
    omega (
      arith,
      c.cost_at-cost.ensures.counted,
      looks-most from to (c.facts.ensures.level c.requires) c.cost_at-cost.ensures.same
          c.facts-2.ensures.gentle c.facts-2.ensures.range,
    )
