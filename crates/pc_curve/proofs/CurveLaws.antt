-- The segments of a solver are on the curve of its network, and show where it breaks.
use Rattle.std.proofs.Common.{◌≡◌, ◌≢◌, ℕ, ◌<◌, ◌≤◌, ◌⊎◌, true, false, Option, Some, None, inl, inr, sym, ◌∙◌, ap, subst, arith}
use Rattle.std.proofs.lemmas.Bool.{cases_lt}
use Rattle.pc_model.specs.Cost.{IsPriced}
use Rattle.pc_laws.specs.Segment.{cost_for, IsRight}
use Rattle.pc_laws.specs.Curve.{Breakpoint}
use Rattle.pc_laws.proofs.Curves.Turns.{IsCurve, LiesOn, is_curve, lies_on}
use Rattle.pc_laws.proofs.Segments.Readings.{right_at}
use Rattle.pc_crash.specs.Priced.{PricedNetwork, knees_in}
use Rattle.pc_flow.specs.Courses.{Course, upper_of, lower_of, IsSameCurve, IsFurther}
use Rattle.pc_flow.specs.inside.Courses.{present, IsOnCurve, HasEnded, IsNext}
use Rattle.pc_curve.specs.declared.breaks.Break.{Break}
use Rattle.pc_curve.specs.Points.{curve_in}
use Rattle.pc_curve.specs.inside.Points.{IsThere}
use Rattle.pc_curve.specs.Breaks.{IsNextBreakpoint}
use Rattle.pc_curve.specs.inside.Breaks.{IsNextBreak, StandsAt}
use Rattle.pc_flow.proofs.LookLaws.{same-stays, same-joins, further-stays, further-joins}
use Rattle.pc_curve.proofs.TurnLaws.{IsClear, clear-begins, clear-goes_on, next-upper, next-lower, first-upper, first-only}

-- the costs of the schedules of the solver's network
abbrev pub IsPricedThere : Course → Type 0
IsPricedThere c = IsPriced c.net.network c.net.terms (knees_in c.net)

-- what holds of a network holds of that of its solver
priced-there : (net : PricedNetwork) (c : Course) → c.net ≡ net → IsPriced net.network net.terms (knees_in net) → IsPricedThere c
priced-there net c same priced = subst (λ (n : PricedNetwork). IsPriced n.network n.terms (knees_in n)) (sym same) priced

-- the reading of the present segment for a length that it holds is right
pub right-there : (net : PricedNetwork) → IsPriced net.network net.terms (knees_in net) → (c : Course) → c.net ≡ net → (limit : ℕ) → IsThere c limit
    → IsRight net.network net.terms (knees_in net) (present c) limit
right-there net priced c same limit there =
    subst (λ (n : PricedNetwork). IsRight n.network n.terms (knees_in n) (present c) limit) same
    (right_at c.net.network c.net.terms (knees_in c.net) (priced-there net c same priced) (present c) there.whole.right limit
    there.holds.above there.holds.below)

-- a complete segment further down is on the same curve
lies-there : (from : Course) → IsPricedThere from → (c : Course) → c.net ≡ from.net → IsOnCurve c → LiesOn (curve_in from.net) (present c)
lies-there from priced c same whole =
    subst (λ (n : PricedNetwork). LiesOn (curve_in n) (present c)) same
    (lies_on c.net.network c.net.terms (knees_in c.net) (priced-there from.net c same priced) (present c) whole.right)

curve-there : (from : Course) → IsPricedThere from → IsCurve (curve_in from.net)
curve-there from priced = is_curve from.net.network from.net.terms (knees_in from.net) priced

-- Breaks as points

abbrev pointed : ℕ → ℕ → Option ℕ → Breakpoint
pointed limit cost slope = record { limit = limit; cost = cost; slope = slope }

same-point : (limit cost other price : ℕ) (slope rise : Option ℕ) → limit ≡ other → cost ≡ price → slope ≡ rise
    → pointed limit cost slope ≡ pointed other price rise
same-point limit cost other price slope rise limits costs slopes =
    ap (λ n. pointed n cost slope) limits ∙ ap (λ n. pointed other n slope) costs ∙ ap (λ s. pointed other price s) slopes

-- the break has these parts
pub record HasParts (b : Break) (at price : ℕ) (rise : Option ℕ) : Type 0 where
  pub limit : b.length ≡ at
  pub cost : b.cost ≡ price
  pub slope : b.slope ≡ rise

next-is : (c : Course) (last : Option ℕ) (b : Break) (limit cost : ℕ) (slope : Option ℕ) → HasParts b limit cost slope
    → IsNextBreakpoint (curve_in c.net) c.shortest c.longest last (pointed limit cost slope) → IsNextBreak c last b
next-is c last b limit cost slope parts next =
    subst (IsNextBreakpoint (curve_in c.net) c.shortest c.longest last)
    (sym (same-point b.length b.cost limit cost b.slope slope parts.limit parts.cost parts.slope)) next

-- The first breakpoint

-- the upper end of a segment as a break
pub record IsUpper (d : Course) (b : Break) : Type 0 where
  pub length : b.length ≡ (present d).upper
  pub cost : b.cost ≡ (present d).cost
  pub slope : d.shortest < (present d).upper → b.slope ≡ Some (present d).slope
  pub flat : (present d).upper ≤ d.shortest → b.slope ≡ None

pub first-break : (c d : Course) (b : Break) → IsPricedThere c → c.given ≡ false → IsSameCurve c d → IsNext c d → IsUpper d b → IsNextBreak c None b
first-break c d b priced none same next upper =
    let on = lies-there c priced d same.net next.whole in
    let is = curve-there c priced in
    let begins : (present d).upper ≡ c.longest = next.first none in
    let ordered : (present d).lower ≤ (present d).upper = next.whole.right.proper.ordered in
    let within : c.shortest ≤ (present d).lower = next.within in
    elim (cases_lt c.shortest (present d).upper) [
      | inl some ↦
          next-is c None b (present d).upper (present d).cost (Some (present d).slope)
          (record { limit = upper.length; cost = upper.cost; slope = upper.slope (omega (arith, some, same.shortest)) })
          (first-upper (curve_in c.net) is c.shortest c.longest (present d) on begins some (next.long some))
      | inr at ↦
          next-is c None b (present d).upper (present d).cost None
          (record { limit = upper.length; cost = upper.cost; slope = upper.flat (omega (arith, at, same.shortest)) })
          (first-only (curve_in c.net) is c.shortest c.longest (present d) on begins at (omega (arith, within, ordered, begins)) ordered)
    ]

pub first-place : (c d : Course) (b : Break) → c.given ≡ false → IsSameCurve c d → IsNext c d → IsUpper d b → StandsAt b.length d
first-place c d b none same next upper =
    let begins : (present d).upper ≡ c.longest = next.first none in
    let ordered : (present d).lower ≤ (present d).upper = next.whole.right.proper.ordered in
    record {
      given = next.given;
      above = omega (arith, upper.length, ordered);
      below = omega (arith, upper.length);
      within = omega (arith, upper.length, begins, same.longest);
    }

-- The way down from a length

-- the solver has advanced from there, and the curve has not broken since
pub record IsOnTheWay (from : Course) (last : ℕ) (c : Course) : Type 0 where
  pub same : IsSameCurve from c
  pub further : IsFurther from c
  pub given : c.given ≡ true
  pub whole : IsOnCurve c
  pub clear : IsClear (curve_in from.net) from.shortest from.longest last (present c)

pub way-begins : (c : Course) (last : ℕ) → IsPricedThere c → StandsAt last c → IsOnCurve c → c.shortest ≤ lower_of c → IsOnTheWay c last c
way-begins c last priced stands whole within = record {
  same = same-stays c;
  further = further-stays c;
  given = stands.given;
  whole = whole;
  clear = clear-begins (curve_in c.net) (curve-there c priced) c.shortest c.longest last stands.within (present c)
      (lies-there c priced c (same-stays c).net whole) within stands.above stands.below;
}

module _ (from : Course) (last : ℕ) (priced : IsPricedThere from) (within : last ≤ from.longest) (c : Course) (way : IsOnTheWay from last c) where
  on : LiesOn (curve_in from.net) (present c)
  on = lies-there from priced c way.same.net way.whole

  -- at the all-crash length the way ends
  pub way-ends : (b : Break) → HasEnded c → last ≢ from.shortest → HasParts b (present c).lower (cost_for (present c) (present c).lower) None
      → IsNextBreak from (Some last) b
  way-ends b ended apart parts =
      let ends : (present c).lower ≡ from.shortest = ended.lowest ∙ way.same.shortest in
      next-is from (Some last) b (present c).lower (cost_for (present c) (present c).lower) None parts
      (next-lower (curve_in from.net) (curve-there from priced) from.shortest from.longest last within (present c) on way.clear
      way.whole.right.proper.ordered ends (omega (arith, apart, way.clear.within, way.clear.below)))

  -- it is there
  pub way-there : IsThere c (lower_of c)
  way-there =
      let ordered : lower_of c ≤ upper_of c = way.whole.right.proper.ordered in
      record { given = way.given; whole = way.whole; holds = record { above = omega arith; below = ordered } }

  -- and the solver is there
  pub ends-place : (b : Break) → b.length ≡ (present c).lower → StandsAt b.length c
  ends-place b is =
      let ordered : (present c).lower ≤ (present c).upper = way.whole.right.proper.ordered in
      record {
        given = way.given;
        above = omega (arith, is);
        below = omega (arith, is, ordered);
        within = omega (arith, is, way.clear.below, within, way.same.longest);
      }

  module _ (d : Course) (same : IsSameCurve c d) (further : IsFurther c d) (next : IsNext c d) (going : HasEnded c → ⊥) where
    joined : (present d).upper ≡ (present c).lower
    joined = next.joined way.given

    above : c.shortest < upper_of d
    above =
        let low : from.shortest ≤ (present c).lower = way.clear.within in
        let apart : (present c).lower ≢ c.shortest = λ at. going (record { given = way.given; lowest = at }) in
        let some : c.shortest < (present d).upper = omega (arith, low, apart, joined, way.same.shortest) in
        some

    long : (present d).lower < (present d).upper
    long = next.long above

    -- the lower end decreases
    pub way-lower : lower_of d < lower_of c
    way-lower =
        let lower : (present d).lower < (present c).lower = omega (arith, long, joined) in
        lower

    way-same : IsSameCurve from d
    way-same = same-joins from c d way.same same

    next_on : LiesOn (curve_in from.net) (present d)
    next_on = lies-there from priced d way-same.net next.whole

    low : from.shortest ≤ (present d).lower
    low =
        let within : c.shortest ≤ (present d).lower = next.within in
        omega (arith, within, way.same.shortest)

    pub way-goes_on : ((present c).slope ≡ (present d).slope) ⊎ (last ≤ (present d).upper) → IsOnTheWay from last d
    way-goes_on goes = record {
      same = way-same;
      further = further-joins from c d way.further further;
      given = next.given;
      whole = next.whole;
      clear = clear-goes_on (curve_in from.net) (curve-there from priced) from.shortest from.longest last within (present c) (present d) on next_on
          way.clear joined long low goes;
    }

    pub way-turns : (b : Break) → (present c).slope ≢ (present d).slope → (present d).upper < last → IsUpper d b → IsNextBreak from (Some last) b
    way-turns b differ below upper =
        next-is from (Some last) b (present d).upper (present d).cost (Some (present d).slope)
        (record { limit = upper.length; cost = upper.cost; slope = upper.slope (omega (arith, above, same.shortest)) })
        (next-upper (curve_in from.net) (curve-there from priced) from.shortest from.longest last within (present c) (present d) on next_on
        way.clear joined long low differ below)

    pub turns-place : (b : Break) → (present d).upper < last → b.length ≡ (present d).upper → StandsAt b.length d
    turns-place b below is = record {
      given = next.given;
      above = omega (arith, is, long);
      below = omega (arith, is);
      within = omega (arith, is, below, within, way-same.longest);
    }
