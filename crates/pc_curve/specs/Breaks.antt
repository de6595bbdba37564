-- The breakpoints of a curve one after another, from the longest length down.
use Rattle.std.specs.Prelude.{◌≡◌, ℕ, ◌<◌, ◌≤◌, ⊤, List, length, Option, Some, None}
use Rattle.pc_laws.specs.Curve.{IsBreak, Breakpoint, IsBreakpoint, breakpoint_at}

-- a length below that of the breakpoint that was given last; every length if none was given
abbrev pub IsAhead : Option ℕ → ℕ → Type 0
IsAhead None limit = ⊤
IsAhead (Some last) limit = limit < last

-- the breakpoint that is given next: of those ahead the one with the greatest length
pub record IsNextBreakpoint (curve : ℕ → ℕ → Type 0) (shortest longest : ℕ) (last : Option ℕ) (point : Breakpoint) : Type 0 where
  pub breakpoint : IsBreakpoint curve shortest longest point
  pub ahead : IsAhead last point.limit
  pub nearest : (limit : ℕ) → IsBreak curve shortest longest limit → IsAhead last limit → limit ≤ point.limit

-- Lists of breakpoints

-- the list has the breakpoints that are not ahead, each once, from the longest length down
pub record AreBreakpointsTo (curve : ℕ → ℕ → Type 0) (shortest longest : ℕ) (last : Option ℕ) (points : List Breakpoint) : Type 0 where
  pub each : (k : ℕ) → k < length points → IsBreakpoint curve shortest longest (breakpoint_at points k)
  pub passed : (k : ℕ) → k < length points → IsAhead last (breakpoint_at points k).limit → ⊥
  pub every : (limit : ℕ) → IsBreak curve shortest longest limit → (IsAhead last limit → ⊥) →
      (k : ℕ) × (k < length points) × ((breakpoint_at points k).limit ≡ limit)
  pub falling : (j k : ℕ) → j < k → k < length points → (breakpoint_at points k).limit < (breakpoint_at points j).limit
