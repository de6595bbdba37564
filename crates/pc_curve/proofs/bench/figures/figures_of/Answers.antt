use Rattle.std.proofs.Common.{◌≡◌, ◌∙◌, inl, inr, true, true≢false, refl, sym, subst, arith}
use Rattle.std.proofs.lemmas.Bool.{cases_lt}
use Rattle.pc_flow.specs.Courses.{Course}
use Rattle.pc_flow.specs.inside.Courses.{HasEnded, present}
use Rattle.pc_flow.proofs.LookLaws.{same-joins, further-joins, looks-join}
use Rattle.pc_curve.specs.Points.{curve_in}
use Rattle.pc_curve.specs.inside.bench.Tallies.{IsSmallSegment}
use Rattle.pc_curve.proofs.lemmas.bench.TallyLaws.{IsAlong, IsTallied, cost-at-top, tally-begins, tally-lower, tally-numbers, tally-grows, sum-of-all, cost-at-end, breaks-of-all}
use Rattle.pc_curve.proofs.bench.figures.figures_of.Goals as goal

pub loop-solver-init : goal.loop-solver-init
loop-solver-init g c =
    let net = c.args.solver.now.net in
    let from = c.args.solver.now in
    let longest = c.longest-longest.result in
    let shortest = c.shortest-shortest.result in
    let along : IsAlong net longest shortest from =
    record { same_net = refl; same_longest = sym c.longest-longest.ensures.longest; same_shortest = sym c.shortest-shortest.ensures.shortest } in
    let all_normal = c.longest-longest.ensures.all_normal in
    record {
      tallied = subst (IsTallied net longest shortest c.first_segment.new.solver) (sym c.first_tally-tally.ensures)
          (tally-begins net c.facts.ensures.priced longest shortest c.longest-longest.ensures.limit from c.first_segment.new.solver along
          c.first_segment.ensures.same c.first_segment.ensures.next c.requires all_normal);
      same = c.first_segment.ensures.same;
      further = c.first_segment.ensures.further;
      counted = c.first_segment.ensures.counted;
    }

pub next_tally-tally-requires-clause-small : goal.next_tally-tally-requires-clause-small
next_tally-tally-requires-clause-small g c =
    let so_far = c.loop-solver.invariant.tallied in
    let going : HasEnded c.loop-solver.solver → ⊥ = λ ended. true≢false (sym c.loop-solver-test.true ∙ c.next_segment.ensures.ended.1 ended) in
    tally-numbers c.args.solver.now.net c.facts.ensures.priced c.longest-longest.result c.shortest-shortest.result c.longest-longest.ensures.limit
    c.loop-solver.solver c.next_segment.new.self so_far.along c.next_segment.ensures.same (c.next_segment.ensures.next c.loop-solver-test.true)
    c.loop-solver.tally so_far going

pub loop-solver-smaller : goal.loop-solver-smaller
loop-solver-smaller g c =
    let so_far = c.loop-solver.invariant.tallied in
    let going : HasEnded c.loop-solver.solver → ⊥ = λ ended. true≢false (sym c.loop-solver-test.true ∙ c.next_segment.ensures.ended.1 ended) in
    tally-lower c.args.solver.now.net c.facts.ensures.priced c.longest-longest.result c.shortest-shortest.result c.longest-longest.ensures.limit
    c.loop-solver.solver c.next_segment.new.self so_far.along c.next_segment.ensures.same (c.next_segment.ensures.next c.loop-solver-test.true)
    c.loop-solver.tally so_far going

pub loop-solver-preserved : goal.loop-solver-preserved
loop-solver-preserved g c =
    let so_far = c.loop-solver.invariant.tallied in
    let going : HasEnded c.loop-solver.solver → ⊥ = λ ended. true≢false (sym c.loop-solver-test.true ∙ c.next_segment.ensures.ended.1 ended) in
    let from = c.args.solver.now in
    let stop = c.loop-solver.solver in
    let next = c.next_segment.new.self in
    let before = c.loop-solver.invariant in
    record {
      tallied = subst (IsTallied c.args.solver.now.net c.longest-longest.result c.shortest-shortest.result c.next_segment.new.self) (sym c.next_tally-tally.ensures)
          (tally-grows c.args.solver.now.net c.facts.ensures.priced c.longest-longest.result c.shortest-shortest.result c.longest-longest.ensures.limit
          c.loop-solver.solver c.next_segment.new.self so_far.along c.next_segment.ensures.same (c.next_segment.ensures.next c.loop-solver-test.true)
          c.loop-solver.tally so_far going);
      same = same-joins from stop next before.same c.next_segment.ensures.same;
      further = further-joins from stop next before.further c.next_segment.ensures.further;
      counted = looks-join from stop next before.same before.further c.next_segment.ensures.further _ _ _ before.counted c.next_segment.ensures.counted;
    }

pub cost_at_lower-requires-clause-small : goal.cost_at_lower-requires-clause-small
cost_at_lower-requires-clause-small g c =
    subst (λ s. IsSmallSegment (present s)) (sym (c.next_segment.ensures.unchanged c.loop-solver-test.false)) c.loop-solver.invariant.tallied.numbers

pub overflow_add-result : goal.overflow_add-result
overflow_add-result g c =
    let so_far = c.loop-solver.invariant.tallied in
    elim (cases_lt c.shortest-shortest.result c.longest-longest.result) [
      | inl some ↦ omega (arith, so_far.few, c.longest-longest.ensures.limit, c.lower_ends.ensures.some some)
      | inr none ↦ omega (arith, so_far.few, c.longest-longest.ensures.limit, c.lower_ends.ensures.none none)
    ]

pub returns-clause-figures : goal.returns-clause-figures
returns-clause-figures g c =
    let net = c.args.solver.now.net in
    let from = c.args.solver.now in
    let longest = c.longest-longest.result in
    let shortest = c.shortest-shortest.result in
    let priced = c.facts.ensures.priced in
    let limit = c.longest-longest.ensures.limit in
    let along : IsAlong net longest shortest from =
    record { same_net = refl; same_longest = sym c.longest-longest.ensures.longest; same_shortest = sym c.shortest-shortest.ensures.shortest } in
    let last = c.next_segment.new.self in
    let stays : last ≡ c.loop-solver.solver = c.next_segment.ensures.unchanged c.loop-solver-test.false in
    let tally = c.loop-solver.tally in
    let all = subst (λ s. IsTallied net longest shortest s tally) (sym stays) c.loop-solver.invariant.tallied in
    let ended = subst HasEnded (sym stays) (c.next_segment.ensures.ended.0 c.loop-solver-test.false) in
    let all_crash = c.shortest-shortest.ensures.all_crash in
    record {
      all_normal = c.longest-longest.ensures.all_normal;
      longest_cost = subst (curve_in net longest) (sym c.cost-longest_cost.ensures)
          (cost-at-top net priced longest shortest limit from c.first_segment.new.solver along c.first_segment.ensures.same c.first_segment.ensures.next
          c.requires);
      all_crash = all_crash;
      shortest_cost = subst (curve_in net shortest) (sym c.cost_at_lower.ensures) (cost-at-end net priced longest shortest limit last tally all ended);
      breaks = breaks-of-all net priced longest shortest limit last tally all ended all_crash _
          (λ some. omega (arith, c.lower_ends.ensures.some some))
          (λ none. omega (arith, c.lower_ends.ensures.none none));
      sum = sum-of-all net priced longest shortest limit last tally all ended;
    }

pub returns-clause-counted : goal.returns-clause-counted
returns-clause-counted g c =
    looks-join c.args.solver.now c.loop-solver.solver c.next_segment.new.self c.loop-solver.invariant.same c.loop-solver.invariant.further
    c.next_segment.ensures.further _ _ _ c.loop-solver.invariant.counted c.next_segment.ensures.counted

pub first_tally-tally-requires-clause-given : goal.first_tally-tally-requires-clause-given
first_tally-tally-requires-clause-given g c = c.first_segment.ensures.next.given

pub cost-longest_cost-requires : goal.cost-longest_cost-requires
cost-longest_cost-requires g c = c.first_segment.ensures.next.given

pub next_tally-tally-requires-clause-given : goal.next_tally-tally-requires-clause-given
next_tally-tally-requires-clause-given g c = (c.next_segment.ensures.next c.loop-solver-test.true).given

pub returns-clause-same : goal.returns-clause-same
returns-clause-same g c = same-joins c.args.solver.now c.loop-solver.solver c.next_segment.new.self c.loop-solver.invariant.same c.next_segment.ensures.same

pub returns-clause-further : goal.returns-clause-further
returns-clause-further g c =
    further-joins c.args.solver.now c.loop-solver.solver c.next_segment.new.self c.loop-solver.invariant.further c.next_segment.ensures.further

pub first_tally-tally-requires-clause-small : goal.first_tally-tally-requires-clause-small
first_tally-tally-requires-clause-small g c =
    let net = c.args.solver.now.net in
    let from = c.args.solver.now in
    let longest = c.longest-longest.result in
    let shortest = c.shortest-shortest.result in
    let along : IsAlong net longest shortest from =
    record { same_net = refl; same_longest = sym c.longest-longest.ensures.longest; same_shortest = sym c.shortest-shortest.ensures.shortest } in
    (tally-begins net c.facts.ensures.priced longest shortest c.longest-longest.ensures.limit from c.first_segment.new.solver along
    c.first_segment.ensures.same c.first_segment.ensures.next c.requires c.longest-longest.ensures.all_normal).numbers

pub cost_at_lower-requires-clause-given : goal.cost_at_lower-requires-clause-given
cost_at_lower-requires-clause-given g c =
    subst (λ (s : Course). s.given ≡ true) (sym (c.next_segment.ensures.unchanged c.loop-solver-test.false)) c.loop-solver.invariant.tallied.given
