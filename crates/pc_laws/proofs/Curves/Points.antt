-- The breakpoints of joined segments are the breakpoints of the curve.
use Rattle.std.proofs.Common.{◌≡◌, ◌≤◌, ◌<◌, ◌+◌, ◌==◌, ⊎_elim, inl, inr, nat_lt, ℕ, zero, suc, List, [], ◌∷◌, length, arith, sym, subst}
use Rattle.std.proofs.lemmas.Bool.{cases_eq, cases_lt, eq-eqb, ne_eqb, lt-ltb, le-ltb, cond-true, cond-false}
use Rattle.std.proofs.lemmas.List.Elements.{recursion_from_All}
use Rattle.std.specs.List.{AllByRecursion as ByRecursion}
use Rattle.pc_model.specs.declared.Term.{Term}
use Rattle.pc_model.specs.Network.{Network}
use Rattle.pc_model.specs.Schedule.{IsAllCrashLength}
use Rattle.pc_model.specs.Cost.{Knees, IsLeastCost, IsPriced}
use Rattle.pc_laws.specs.Segment.{Segment, IsSegment}
use Rattle.pc_laws.specs.Cover.{Joins, IsLong, IsLongUnlessAlone, IsFront, IsCovering}
use Rattle.pc_laws.specs.Curve.{IsTurn, IsBreak, Breakpoint, IsBreakpoint, breakpoint_at, AreBreakpoints, Meet}
use Rattle.pc_laws.specs.Curve.{AreBreakpointsAbove, upper_point, lower_point, corners_after, corners_of, breakpoints_of}
use Rattle.pc_laws.specs.Worked.{point}
use Rattle.pc_laws.proofs.Segments.Covering.{joins-first, all-long, crash_walk_at_last}
use Rattle.pc_laws.proofs.Curves.Turns.{IsCurve, LiesOn, straight, upper_costs, turns, turned, is_curve, lies_on}

-- the list has the breakpoints of the curve from `floor` up to but not with `top`
record AreBetween (curve : ℕ → ℕ → Type 0) (short high floor top : ℕ) (points : List Breakpoint) : Type 0 where
  pub each : (k : ℕ) → k < length points → IsBreakpoint curve short high (breakpoint_at points k)
  pub below : (k : ℕ) → k < length points → (breakpoint_at points k).limit < top
  pub every : (limit : ℕ) → IsBreak curve short high limit → floor ≤ limit → limit < top → (k : ℕ) × (k < length points) × ((breakpoint_at points k).limit ≡ limit)
  pub falling : (j k : ℕ) → j < k → k < length points → (breakpoint_at points k).limit < (breakpoint_at points j).limit

-- segments on the curve, each of more than one length, that join the last one down to `low`
abbrev Chain : (ℕ → ℕ → Type 0) → ℕ → Segment → List Segment → Type 0
Chain curve low last [] = last.lower ≡ low
Chain curve low last (seg ∷ rest) = (seg.upper ≡ last.lower) × IsLong seg × LiesOn curve seg × Chain curve low seg rest

chain_low : (curve : ℕ → ℕ → Type 0) (low : ℕ) (last : Segment) (rest : List Segment) → Chain curve low last rest → low ≤ last.lower
chain_low curve low last [] chain = omega (arith, chain)
chain_low curve low last (seg ∷ rest) (joined, long, on, chain) = omega (arith, joined, long, chain_low curve low seg rest chain)

module _ (curve : ℕ → ℕ → Type 0) (is : IsCurve curve) (short high floor : ℕ) where
  -- one point more in front, with no break between it and the higher length
  more : (top : ℕ) (point : Breakpoint) (points : List Breakpoint) → AreBetween curve short high floor point.limit points → point.limit < top →
      IsBreakpoint curve short high point → ((limit : ℕ) → point.limit < limit → limit < top → IsBreak curve short high limit → ⊥) →
      AreBetween curve short high floor top (point ∷ points)
  more top point points are under is_point none = record {
    each = each;
    below = below;
    every = λ limit breaks higher lower. ⊎_elim
        (λ deeper. let (k, inside, at) = are.every limit breaks higher deeper in (suc k, omega arith, at))
        (λ not_deeper. ⊎_elim (λ at. (0, omega arith, at)) (λ ne. absurd (none limit (omega arith) lower breaks)) (cases_eq point.limit limit))
        (cases_lt limit point.limit);
    falling = falling;
  }
    where
      each : (k : ℕ) → k < suc (length points) → IsBreakpoint curve short high (breakpoint_at (point ∷ points) k)
      each zero inside = is_point
      each (suc k) inside = are.each k (omega arith)

      below : (k : ℕ) → k < suc (length points) → (breakpoint_at (point ∷ points) k).limit < top
      below zero inside = under
      below (suc k) inside = omega (arith, are.below k (omega arith))

      falling : (j k : ℕ) → j < k → k < suc (length points) → (breakpoint_at (point ∷ points) k).limit < (breakpoint_at (point ∷ points) j).limit
      falling j zero earlier inside = absurd (omega arith)
      falling zero (suc k) earlier inside = are.below k (omega arith)
      falling (suc j) (suc k) earlier inside = are.falling j k (omega arith) (omega arith)

  -- the same list for a higher length, with no break up to there
  higher : (top next : ℕ) (points : List Breakpoint) → AreBetween curve short high floor top points → top ≤ next →
      ((limit : ℕ) → top ≤ limit → limit < next → IsBreak curve short high limit → ⊥) → AreBetween curve short high floor next points
  higher top next points are up none = record {
    each = are.each;
    below = λ k inside. omega (arith, are.below k inside);
    every = λ limit breaks above lower. ⊎_elim (are.every limit breaks above) (λ not_deeper. absurd (none limit not_deeper lower breaks)) (cases_lt limit top);
    falling = are.falling;
  }

  -- where there is no break there are no points
  no_points : (top : ℕ) → ((limit : ℕ) → floor ≤ limit → limit < top → IsBreak curve short high limit → ⊥) → AreBetween curve short high floor top []
  no_points top none = record {
    each = λ k inside. absurd (omega arith);
    below = λ k inside. absurd (omega arith);
    every = λ limit breaks above lower. absurd (none limit above lower breaks);
    falling = λ j k earlier inside. absurd (omega arith);
  }

  -- no length breaks strictly between the ends of a segment
  none_inside : (seg : Segment) → LiesOn curve seg → short ≤ seg.lower → seg.upper ≤ high →
      (limit : ℕ) → seg.lower < limit → limit < seg.upper → IsBreak curve short high limit → ⊥
  none_inside seg on above below limit after before breaks =
      ⊎_elim (λ at. omega arith) (⊎_elim (λ at. omega arith) (λ (up, down, turn). straight curve is seg on limit after before turn)) breaks

  -- the upper end of a segment is a breakpoint where the curve breaks
  upper_is_point : (seg : Segment) → LiesOn curve seg → IsLong seg → short ≤ seg.lower → IsBreak curve short high seg.upper →
      IsBreakpoint curve short high (upper_point seg)
  upper_is_point seg on long above breaks =
      let costs = upper_costs curve is seg on long in
      record { breaks = breaks; least = costs.0; slopes = (omega arith, costs.1) }

  -- the points after a segment are the breakpoints below its upper end, if those of the last one are
  corners_between : (low : ℕ) → short ≤ low → (ends : Segment → List Breakpoint) →
      ((last : Segment) → LiesOn curve last → IsLong last → last.upper ≤ high → last.lower ≡ low → AreBetween curve short high floor last.upper (ends last)) →
      (last : Segment) (rest : List Segment) → LiesOn curve last → IsLong last → last.upper ≤ high → Chain curve low last rest →
      AreBetween curve short high floor last.upper (corners_after ends last rest)
  corners_between low deep ends at_end last [] on long below chain = at_end last on long below chain
  corners_between low deep ends at_end last (seg ∷ rest) on long below (joined, longer, lies, chain) =
      let after = corners_between low deep ends at_end seg rest lies longer (omega arith) chain in
      let deeper : low ≤ seg.lower = chain_low curve low seg rest chain in
      let meet : Meet last seg = record { joined = sym joined; first_long = long; second_long = longer } in
      let inside = none_inside last on (omega arith) below in
      elim (cases_eq last.slope seg.slope) [
        | inl same ↦
            subst (AreBetween curve short high floor last.upper)
            (sym (cond-true (last.slope == seg.slope) (corners_after ends seg rest) (upper_point seg ∷ corners_after ends seg rest) (eq-eqb last.slope seg.slope same)))
            (higher seg.upper last.upper (corners_after ends seg rest) after (omega arith)
            (λ limit from before breaks. ⊎_elim
            (λ at. ⊎_elim (λ e. omega arith) (⊎_elim (λ e. omega arith)
            (λ (up, down, turn). turned curve is last seg on lies meet (subst (IsTurn curve) at turn) same)) breaks)
            (λ ne. inside limit (omega arith) before breaks)
            (cases_eq limit seg.upper)))
        | inr differ ↦
            subst (AreBetween curve short high floor last.upper)
            (sym (cond-false (last.slope == seg.slope) (corners_after ends seg rest) (upper_point seg ∷ corners_after ends seg rest) (ne_eqb last.slope seg.slope differ)))
            (more last.upper (upper_point seg) (corners_after ends seg rest) after (omega arith)
            (upper_is_point seg lies longer (omega arith) (inr (inr (omega arith, omega arith, turns curve is last seg on lies meet differ))))
            (λ limit from before breaks. inside limit (omega arith) before breaks))
      ]

  -- and with the first upper end those up to the longest length
  first_between : (low : ℕ) → short ≤ low → (ends : Segment → List Breakpoint) →
      ((last : Segment) → LiesOn curve last → IsLong last → last.upper ≤ high → last.lower ≡ low → AreBetween curve short high floor last.upper (ends last)) →
      (seg : Segment) (rest : List Segment) → LiesOn curve seg → seg.upper ≡ high → IsLong seg → Chain curve low seg rest →
      AreBetween curve short high floor (high + 1) (upper_point seg ∷ corners_after ends seg rest)
  first_between low deep ends at_end seg rest on at long chain =
      let deeper : low ≤ seg.lower = chain_low curve low seg rest chain in
      more (high + 1) (upper_point seg) (corners_after ends seg rest) (corners_between low deep ends at_end seg rest on long (omega arith) chain) (omega arith)
      (upper_is_point seg on long (omega arith) (inl at))
      (λ limit above below breaks. omega arith)

-- no length above the longest one breaks
break_within : (curve : ℕ → ℕ → Type 0) (short high limit : ℕ) → short ≤ high → IsBreak curve short high limit → limit < high + 1
break_within curve short high limit ordered breaks =
    ⊎_elim (λ at. omega arith) (⊎_elim (λ at. omega arith) (λ (up, down, turn). omega arith)) breaks

module _ (curve : ℕ → ℕ → Type 0) (is : IsCurve curve) (short high : ℕ) where
  -- of segments down to the shortest length, the points are all breakpoints
  joined_points : (seg : Segment) (rest : List Segment) → LiesOn curve seg → seg.upper ≡ high → seg.lower ≤ seg.upper →
      (IsLong seg → Chain curve short seg rest) → (seg.lower ≡ seg.upper → seg.lower ≡ short) → AreBreakpoints curve short high (breakpoints_of (seg ∷ rest))
  joined_points seg rest on at ordered chain alone =
      elim (cases_lt seg.lower seg.upper) [
        | inl long ↦
            let deep : short ≤ seg.lower = chain_low curve short seg rest (chain long) in
            subst (AreBreakpoints curve short high)
            (sym (cond-true (nat_lt seg.lower seg.upper) (upper_point seg ∷ corners_after bottom seg rest) (lower_point seg ∷ []) (lt-ltb seg.lower seg.upper long)))
            (whole (upper_point seg ∷ corners_after bottom seg rest) (omega arith) (first_between curve is short high 0 short (omega arith) bottom ends_between seg rest on at long (chain long)))
        | inr under ↦
            let is_short : seg.lower ≡ short = alone (omega arith) in
            subst (AreBreakpoints curve short high)
            (sym (cond-false (nat_lt seg.lower seg.upper) (upper_point seg ∷ corners_after bottom seg rest) (lower_point seg ∷ []) (le-ltb seg.lower seg.upper under)))
            (whole (lower_point seg ∷ []) (omega arith)
            (more curve is short high 0 (high + 1) (lower_point seg) [] (nothing seg is_short (omega arith)) (omega arith) (lowest seg on ordered is_short)
            (λ limit above below breaks. omega arith)))
      ]
    where
      bottom : Segment → List Breakpoint
      bottom last = lower_point last ∷ []

      whole : (points : List Breakpoint) → short ≤ high → AreBetween curve short high 0 (high + 1) points → AreBreakpoints curve short high points
      whole points ordered are = record {
        each = are.each;
        every = λ limit breaks. are.every limit breaks (omega arith) (break_within curve short high limit ordered breaks);
        falling = are.falling;
      }

      nothing : (last : Segment) → last.lower ≡ short → short ≤ high → AreBetween curve short high 0 last.lower []
      nothing last at_short ordered =
          no_points curve is short high 0 last.lower
          (λ limit above below breaks. ⊎_elim (λ e. omega arith) (⊎_elim (λ e. omega arith) (λ (up, down, turn). omega arith)) breaks)

      lowest : (last : Segment) → LiesOn curve last → last.lower ≤ last.upper → last.lower ≡ short → IsBreakpoint curve short high (lower_point last)
      lowest last lies up at_short = record { breaks = inr (inl at_short); least = lies.reads last.lower (omega arith) up; slopes = at_short }

      ends_between : (last : Segment) → LiesOn curve last → IsLong last → last.upper ≤ high → last.lower ≡ short → AreBetween curve short high 0 last.upper (bottom last)
      ends_between last lies long below at_short =
          more curve is short high 0 last.upper (lower_point last) [] (nothing last at_short (omega arith)) long (lowest last lies (omega arith) at_short)
          (none_inside curve is short high 0 last lies (omega arith) below)

  -- of segments down to a length, the upper ends where the slope changes are the breakpoints above it
  front_points : (low : ℕ) → short ≤ low → (seg : Segment) (rest : List Segment) → LiesOn curve seg → seg.upper ≡ high → IsLong seg → Chain curve low seg rest →
      AreBreakpointsAbove curve short high low (corners_of (seg ∷ rest))
  front_points low deep seg rest on at long chain =
      let are = first_between curve is short high (low + 1) low deep (λ last. [])
      (λ last lies longer below at_low. no_points curve is short high (low + 1) last.upper
      (λ limit above under breaks. none_inside curve is short high (low + 1) last lies (omega arith) below limit (omega arith) under breaks))
      seg rest on at long chain in
      let deeper : low ≤ seg.lower = chain_low curve low seg rest chain in
      record {
        each = are.each;
        every = λ limit breaks above. are.every limit breaks (omega arith) (break_within curve short high limit (omega arith) breaks);
        falling = are.falling;
      }

module _ (net : Network) (terms : List Term) (knees : Knees) (priced : IsPriced net terms knees) where
  -- joined segments are a chain on the curve of least costs
  chain_of : (high low : ℕ) (last : Segment) (rest : List Segment) → ByRecursion (IsSegment net terms knees) rest → ByRecursion IsLong rest →
      Joins high (last ∷ rest) low → Chain (IsLeastCost net terms knees) low last rest
  chain_of high low last [] each long (upper, lower) = lower
  chain_of high low last (seg ∷ rest) (whole, others) (long, longs) (upper, joined) =
      (joins-first seg rest last.lower low joined, long, lies_on net terms knees priced seg whole.right, chain_of last.lower low seg rest others longs joined)

-- all after the first are long
longs_after : (seg : Segment) (rest : List Segment) → IsLongUnlessAlone (seg ∷ rest) → ByRecursion IsLong rest
longs_after seg [] long = tt
longs_after seg (next ∷ rest) long = (recursion_from_All IsLong (seg ∷ next ∷ rest) (long (omega arith))).1

-- and where the first is not, it is alone
alone_at : (seg : Segment) (rest : List Segment) (high low : ℕ) → IsLongUnlessAlone (seg ∷ rest) → Joins high (seg ∷ rest) low →
    seg.lower ≡ seg.upper → seg.lower ≡ low
alone_at seg [] high low long (upper, lower) same = lower
alone_at seg (next ∷ rest) high low long joined same =
    absurd (omega (arith, same, (recursion_from_All IsLong (seg ∷ next ∷ rest) (long (omega arith))).0))

-- the points of segments that cover the range are the breakpoints of the least costs
pub covering_points : (net : Network) (terms : List Term) (knees : Knees) (segments : List Segment) (high low : ℕ) → IsPriced net terms knees →
    IsCovering net terms knees segments high low → AreBreakpoints (IsLeastCost net terms knees) low high (breakpoints_of segments)
covering_points net terms knees [] high low priced covering = absurd covering.front.joined
covering_points net terms knees (seg ∷ rest) high low priced covering =
    let (whole, others) = recursion_from_All (IsSegment net terms knees) (seg ∷ rest) covering.front.each in
    joined_points (IsLeastCost net terms knees) (is_curve net terms knees priced) low high seg rest (lies_on net terms knees priced seg whole.right)
    (joins-first seg rest high low covering.front.joined) whole.right.proper.ordered
    (λ long. chain_of net terms knees priced high low seg rest others (longs_after seg rest covering.front.long) covering.front.joined)
    (alone_at seg rest high low covering.front.long covering.front.joined)

-- and those of a front of more than one length the breakpoints above its lower end
pub front_points_above : (net : Network) (terms : List Term) (knees : Knees) (segments : List Segment) (high low shortest : ℕ) → IsPriced net terms knees →
    IsFront net terms knees segments high low → low < high → IsAllCrashLength net terms shortest →
    AreBreakpointsAbove (IsLeastCost net terms knees) shortest high low (corners_of segments)
front_points_above net terms knees [] high low shortest priced front long longest = absurd front.joined
front_points_above net terms knees (seg ∷ rest) high low shortest priced front long longest =
    let (whole, others) = recursion_from_All (IsSegment net terms knees) (seg ∷ rest) front.each in
    let (first_long, longs) = recursion_from_All IsLong (seg ∷ rest) (all-long (seg ∷ rest) high low front.joined long front.long) in
    let (walk, leads, sums) = longest.attained in
    front_points (IsLeastCost net terms knees) (is_curve net terms knees priced) shortest high low
    (omega (arith, sums, crash_walk_at_last net terms knees priced (seg ∷ rest) high low front walk leads))
    seg rest (lies_on net terms knees priced seg whole.right) (joins-first seg rest high low front.joined) first_long
    (chain_of net terms knees priced high low seg rest others longs front.joined)
