-- Where a curve breaks: not inside a segment, and where two segments meet exactly if their slopes differ.
use Rattle.std.proofs.Common.{◌≡◌, ◌≢◌, ◌≤◌, ◌<◌, ◌+◌, ◌-◌, ◌*◌, ℕ, List, arith, subst, ap}
use Rattle.std.proofs.Math.Nat.{mul-add}
use Rattle.pc_model.specs.declared.Term.{Term}
use Rattle.pc_model.specs.Network.{Network}
use Rattle.pc_model.specs.Cost.{Knees, IsLeastCost, IsPriced}
use Rattle.pc_laws.specs.Segment.{Segment, cost_for, IsRightSegment}
use Rattle.pc_laws.specs.Curve.{AreAround, IsTurn, Meet}
use Rattle.pc_model.proofs.Costs.LeastCost.{unique}
use Rattle.pc_model.proofs.Costs.Halfway.{convex}
use Rattle.pc_laws.proofs.Segments.Readings.{right_at}

-- properties of a curve: a length has one least cost, and of three lengths in a row the middle one's is at most the
-- mean of the outer ones'
pub record IsCurve (curve : ℕ → ℕ → Type 0) : Type 0 where
  pub unique : (limit a b : ℕ) → curve limit a → curve limit b → a ≡ b
  pub convex : (limit a b c : ℕ) → curve limit a → curve (limit + 1) b → curve (limit + 2) c → 2 * b ≤ a + c

-- the costs read from the segment between its ends are those of the curve
pub record LiesOn (curve : ℕ → ℕ → Type 0) (seg : Segment) : Type 0 where
  pub reads : (limit : ℕ) → seg.lower ≤ limit → limit ≤ seg.upper → curve limit (cost_for seg limit)

-- one unit less costs the slope more
one_less : (seg : Segment) (limit : ℕ) → limit < seg.upper → cost_for seg limit ≡ cost_for seg (limit + 1) + seg.slope
one_less seg limit below =
    let split : seg.upper - limit ≡ (seg.upper - (limit + 1)) + 1 = omega arith in
    omega (arith, ap (λ x. seg.slope * x) split, mul-add seg.slope (seg.upper - (limit + 1)) 1)

module _ (curve : ℕ → ℕ → Type 0) (is : IsCurve curve) where
  -- the least costs around a length are three numbers
  around : (limit a b c x y z : ℕ) → AreAround curve limit a b c → curve (limit - 1) x → curve limit y → curve (limit + 1) z
      → (a ≡ x) × (b ≡ y) × (c ≡ z)
  around limit a b c x y z known p q r =
      (is.unique (limit - 1) a x known.below p, is.unique limit b y known.at q, is.unique (limit + 1) c z known.above r)

  -- inside a segment the curve does not turn
  pub straight : (seg : Segment) → LiesOn curve seg → (limit : ℕ) → seg.lower < limit → limit < seg.upper → IsTurn curve limit → ⊥
  straight seg on limit above below (a, b, c, known, bent) =
      let same = around limit a b c _ _ _ known (on.reads (limit - 1) (omega arith) (omega arith)) (on.reads limit (omega arith) (omega arith))
      (on.reads (limit + 1) (omega arith) (omega arith)) in
      let back : limit ≡ (limit - 1) + 1 = omega arith in
      bent (omega (arith, same.0, same.1, same.2, one_less seg limit below, one_less seg (limit - 1) (omega arith), ap (cost_for seg) back))

  -- the costs at the upper end of a segment and a unit below
  pub upper_costs : (seg : Segment) → LiesOn curve seg → seg.lower < seg.upper
      → curve seg.upper seg.cost × curve (seg.upper - 1) (seg.cost + seg.slope)
  upper_costs seg on long =
      let none : seg.upper - seg.upper ≡ 0 = omega arith in
      let one : seg.upper - (seg.upper - 1) ≡ 1 = omega arith in (
        subst (λ n. curve seg.upper n) (omega (arith, ap (λ x. seg.slope * x) none)) (on.reads seg.upper (omega arith) (omega arith)),
        subst (λ n. curve (seg.upper - 1) n) (omega (arith, ap (λ x. seg.slope * x) one)) (on.reads (seg.upper - 1) (omega arith) (omega arith)),
      )

  module _ (earlier later : Segment) (first : LiesOn curve earlier) (second : LiesOn curve later) (meet : Meet earlier later) where
    -- the costs where two segments meet, a unit below and a unit above
    meeting_costs : (a b c : ℕ) → AreAround curve later.upper a b c → (b ≡ c + earlier.slope) × (a ≡ b + later.slope)
    meeting_costs a b c known =
        let here : curve later.upper (cost_for later later.upper) = second.reads later.upper (omega arith) (omega arith) in
        let there : curve later.upper (cost_for earlier later.upper) = first.reads later.upper (omega arith) (omega arith) in
        let below : curve (later.upper - 1) (cost_for later (later.upper - 1)) = second.reads (later.upper - 1) (omega arith) (omega arith) in
        let above : curve (later.upper + 1) (cost_for earlier (later.upper + 1)) = first.reads (later.upper + 1) (omega arith) (omega arith) in
        let same = around later.upper a b c _ _ _ known below here above in
        let back : later.upper ≡ (later.upper - 1) + 1 = omega arith in (
          omega (arith, same.1, same.2, is.unique later.upper _ _ here there, one_less earlier later.upper (omega arith)),
          omega (arith, same.0, same.1, one_less later (later.upper - 1) (omega arith), ap (cost_for later) back),
        )

    -- there are such costs
    meeting_around : (a b c : ℕ) × AreAround curve later.upper a b c
    meeting_around = (
      cost_for later (later.upper - 1),
      cost_for later later.upper,
      cost_for earlier (later.upper + 1),
      record {
        below = second.reads (later.upper - 1) (omega arith) (omega arith);
        at = second.reads later.upper (omega arith) (omega arith);
        above = first.reads (later.upper + 1) (omega arith) (omega arith);
      },
    )

    -- where two segments meet the curve turns if their slopes differ
    pub turns : earlier.slope ≢ later.slope → IsTurn curve later.upper
    turns differ =
        let (a, b, c, known) = meeting_around in
        let costs = meeting_costs a b c known in
        (a, b, c, known, λ line. differ (omega (arith, costs.0, costs.1)))

    -- and only then
    pub turned : IsTurn curve later.upper → earlier.slope ≢ later.slope
    turned (a, b, c, known, bent) same =
        let costs = meeting_costs a b c known in
        bent (omega (arith, costs.0, costs.1))

    -- slopes never fall
    pub slopes_rise : earlier.slope ≤ later.slope
    slopes_rise =
        let (a, b, c, known) = meeting_around in
        let costs = meeting_costs a b c known in
        let back : later.upper ≡ (later.upper - 1) + 1 = omega arith in
        let next : later.upper + 1 ≡ (later.upper - 1) + 2 = omega arith in
        omega (
          arith,
          costs.0,
          costs.1,
          is.convex (later.upper - 1) a b c known.below (subst (λ n. curve n b) back known.at) (subst (λ n. curve n c) next known.above),
        )

-- the least costs are a curve, and right segments are on it
module _ (net : Network) (terms : List Term) (knees : Knees) (priced : IsPriced net terms knees) where
  pub is_curve : IsCurve (IsLeastCost net terms knees)
  is_curve = record {
    unique = unique net terms knees;
    convex = λ limit a b c p q r. convex net terms knees limit a b c priced.terms_fit priced.knees_fit p q r;
  }

  pub lies_on : (seg : Segment) → IsRightSegment net terms knees seg → LiesOn (IsLeastCost net terms knees) seg
  lies_on seg right = record { reads = λ limit above below. (right_at net terms knees priced seg right limit above below).least }
