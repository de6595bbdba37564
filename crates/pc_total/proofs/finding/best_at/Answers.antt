use Rattle.std.proofs.Common.{◌≤◌, arith}
use Rattle.std.proofs.lemmas.Int.{ints}
use Rattle.pc_flow.specs.declared.early.TheConstants.{MAX_LENGTH}
use Rattle.pc_curve.specs.Points.{curve_in}
use Rattle.pc_total.proofs.LeastLaws.{curve-convex, least-small}
use Rattle.pc_total.proofs.TotalLaws.{dear-small, earned-small, within-limits}
use Rattle.pc_total.proofs.SignLaws.{best-is}
use Rattle.pc_total.proofs.finding.best_at.Goals as goal

pub overflow_cast-result : goal.overflow_cast-result
overflow_cast-result g c =
    let known = c.facts.ensures in
    let small = least-small c.args.solver.now.net known.priced known.limits known.pieces known.piece_limits c.args.length c.cost_at-direct.result c.cost_at-direct.ensures.least in
    omega (arith, ints, small)

pub overflow_add-result : goal.overflow_add-result
overflow_add-result g c =
    let known = c.facts.ensures in
    let terms = c.args.terms.now in
    let limit : c.args.length ≤ MAX_LENGTH = omega (arith, c.requires.to_come.within, c.longest-longest.ensures.longest, c.longest-longest.ensures.limit) in
    omega (
      arith,
      ints,
      least-small c.args.solver.now.net known.priced known.limits known.pieces known.piece_limits c.args.length c.cost_at-direct.result c.cost_at-direct.ensures.least,
      c.time_cost-time.ensures,
      dear-small terms (within-limits c.requires.terms) c.args.length limit,
      earned-small terms (within-limits c.requires.terms) c.args.length limit,
    )

pub returns-clause-best : goal.returns-clause-best
returns-clause-best g c =
    let known = c.facts.ensures in
    let terms = c.args.terms.now in
    let from = c.args.solver.now in
    let limit : c.args.length ≤ MAX_LENGTH = omega (arith, c.requires.to_come.within, c.longest-longest.ensures.longest, c.longest-longest.ensures.limit) in
    let small = least-small from.net known.priced known.limits known.pieces known.piece_limits c.args.length c.cost_at-direct.result c.cost_at-direct.ensures.least in
    let dear = dear-small terms (within-limits c.requires.terms) c.args.length limit in
    let earned = earned-small terms (within-limits c.requires.terms) c.args.length limit in
    best-is terms (curve_in from.net) (curve-convex from.net known.priced) c.requires.terms.bonus from.shortest from.longest c.args.slope c.args.gain _
    c.requires.to_come.above c.requires.to_come.within c.requires.stop c.cost_at-direct.ensures.least
    (omega (arith, ints, c.time_cost-time.ensures, dear, earned))
    (omega (arith, ints, small, c.time_cost-time.ensures, dear, earned))
    (rw c.shortest-shortest.ensures.shortest at c.below_at.ensures.none) (rw c.shortest-shortest.ensures.shortest at c.below_at.ensures.above) c.below_at.ensures.differs
    (rw c.longest-longest.ensures.longest at c.above_at.ensures.none) (rw c.longest-longest.ensures.longest at c.above_at.ensures.below) c.above_at.ensures.differs

pub time_cost-time-requires-clause-terms : goal.time_cost-time-requires-clause-terms
time_cost-time-requires-clause-terms g c = within-limits c.requires.terms

pub time_cost-time-requires-clause-length : goal.time_cost-time-requires-clause-length
time_cost-time-requires-clause-length g c = omega (arith, c.requires.to_come.within, c.longest-longest.ensures.longest, c.longest-longest.ensures.limit)

pub below_at-requires-clause-terms : goal.below_at-requires-clause-terms
below_at-requires-clause-terms g c = c.requires.terms

pub below_at-requires-clause-small : goal.below_at-requires-clause-small
below_at-requires-clause-small g c = c.requires.small

pub above_at-requires-clause-terms : goal.above_at-requires-clause-terms
above_at-requires-clause-terms g c = c.requires.terms

pub above_at-requires-clause-length : goal.above_at-requires-clause-length
above_at-requires-clause-length g c = omega (arith, c.requires.to_come.within, c.longest-longest.ensures.longest, c.longest-longest.ensures.limit)

pub above_at-requires-clause-small : goal.above_at-requires-clause-small
above_at-requires-clause-small g c = c.requires.small_gain

pub returns-clause-range : goal.returns-clause-range
returns-clause-range g c = c.facts-2.ensures.range
