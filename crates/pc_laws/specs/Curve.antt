-- The time-cost curve: the least cost as a function of the length, and the lengths at which it breaks.
--
-- A curve is given as a relation: `curve limit cost` says that this is the least cost for this length.
use Rattle.std.specs.Prelude.{◌≡◌, ◌≢◌, ◌==◌, ℕ, ◌+◌, ◌-◌, ◌*◌, ◌<◌, ◌⊎◌, if◌then◌else◌, nat_lt, List, [], ◌∷◌, length, slice_index_or, Option, Some, None, MatchOption}
use Rattle.pc_laws.specs.Segment.{Segment, cost_for}

-- the least costs a unit below a length, at it, and a unit above it
pub record AreAround (curve : ℕ → ℕ → Type 0) (limit shorter here longer : ℕ) : Type 0 where
  pub below : curve (limit - 1) shorter
  pub at : curve limit here
  pub above : curve (limit + 1) longer

-- the curve turns at a length: its least cost and those one unit below and above are not on one line
abbrev pub IsTurn : (ℕ → ℕ → Type 0) → ℕ → Type 0
IsTurn curve limit = (shorter here longer : ℕ) × AreAround curve limit shorter here longer × (shorter + longer ≢ 2 * here)

-- the curve from the shortest to the longest length breaks at its two ends, and wherever it turns between them
abbrev pub IsBreak : (ℕ → ℕ → Type 0) → ℕ → ℕ → ℕ → Type 0
IsBreak curve shortest longest limit =
    (limit ≡ longest) ⊎ ((limit ≡ shortest) ⊎ ((shortest < limit) × (limit < longest) × IsTurn curve limit))

-- a length, its least cost, and what one unit less costs more; the last one has no such slope
pub record Breakpoint : Type 0 where
  pub limit : ℕ
  pub cost : ℕ
  pub slope : Option ℕ

-- the length breaks the curve, the cost is its least cost, and the slope is what one unit less costs more; there is
-- none at the shortest length
pub record IsBreakpoint (curve : ℕ → ℕ → Type 0) (shortest longest : ℕ) (point : Breakpoint) : Type 0 where
  pub breaks : IsBreak curve shortest longest point.limit
  pub least : curve point.limit point.cost
  pub slopes : MatchOption point.slope (point.limit ≡ shortest)
      (λ slope. (shortest < point.limit) × curve (point.limit - 1) (point.cost + slope))

-- the point at a place of a list; past its end one of zeros
abbrev pub breakpoint_at : List Breakpoint → ℕ → Breakpoint
breakpoint_at points k = slice_index_or points k (record { limit = 0; cost = 0; slope = None })

-- the list has the breakpoints of the curve, each once, from the longest length down
pub record AreBreakpoints (curve : ℕ → ℕ → Type 0) (shortest longest : ℕ) (points : List Breakpoint) : Type 0 where
  pub each : (k : ℕ) → k < length points → IsBreakpoint curve shortest longest (breakpoint_at points k)
  pub every : (limit : ℕ) → IsBreak curve shortest longest limit →
      (k : ℕ) × (k < length points) × ((breakpoint_at points k).limit ≡ limit)
  pub falling : (j k : ℕ) → j < k → k < length points → (breakpoint_at points k).limit < (breakpoint_at points j).limit

-- the later segment begins where the earlier one ends, and neither has only one length
pub record Meet (earlier later : Segment) : Type 0 where
  pub joined : earlier.lower ≡ later.upper
  pub first_long : earlier.lower < earlier.upper
  pub second_long : later.lower < later.upper

-- the list has the breakpoints of the curve above a length, each once, from the longest length down
pub record AreBreakpointsAbove (curve : ℕ → ℕ → Type 0) (shortest longest low : ℕ) (points : List Breakpoint) : Type 0 where
  pub each : (k : ℕ) → k < length points → IsBreakpoint curve shortest longest (breakpoint_at points k)
  pub every : (limit : ℕ) → IsBreak curve shortest longest limit → low < limit →
      (k : ℕ) × (k < length points) × ((breakpoint_at points k).limit ≡ limit)
  pub falling : (j k : ℕ) → j < k → k < length points → (breakpoint_at points k).limit < (breakpoint_at points j).limit

-- The breakpoints of joined segments

-- the upper end of a segment, and a lower end without a slope
abbrev pub upper_point : Segment → Breakpoint
upper_point seg = record { limit = seg.upper; cost = seg.cost; slope = Some seg.slope }

abbrev pub lower_point : Segment → Breakpoint
lower_point seg = record { limit = seg.lower; cost = cost_for seg seg.lower; slope = None }

-- the points after a segment: each later segment's upper end where the slope changes, and then `ends` of the last
-- segment
abbrev pub corners_after : (Segment → List Breakpoint) → Segment → List Segment → List Breakpoint
corners_after ends last [] = ends last
corners_after ends last (seg ∷ rest) =
    if last.slope == seg.slope then corners_after ends seg rest else upper_point seg ∷ corners_after ends seg rest

-- the first upper end, and those where the slope changes
abbrev pub corners_of : List Segment → List Breakpoint
corners_of [] = []
corners_of (seg ∷ rest) = upper_point seg ∷ corners_after (λ last. []) seg rest

-- and the last lower end; only one point if there is one segment, of one length
abbrev pub breakpoints_of : List Segment → List Breakpoint
breakpoints_of [] = []
breakpoints_of (seg ∷ rest) =
    if nat_lt seg.lower seg.upper
    then upper_point seg ∷ corners_after (λ last. lower_point last ∷ []) seg rest
    else lower_point seg ∷ []
