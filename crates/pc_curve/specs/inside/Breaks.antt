-- The breakpoints of a curve one after another, from the longest length down.
-- Here is what no clause of a top call and no law reaches.
use Rattle.std.specs.Prelude.{◌≡◌, ℕ, ◌≤◌, true, false, Option, Some, None}
use Rattle.pc_laws.specs.Curve.{Breakpoint}
use Rattle.pc_curve.specs.declared.breaks.Break.{Break}
use Rattle.pc_flow.specs.Courses.{Course, upper_of, lower_of}
use Rattle.pc_curve.specs.Points.{curve_in}
use Rattle.pc_curve.specs.Breaks.{IsNextBreakpoint}

-- the point of a curve that a break is
abbrev pub point_of : Break → Breakpoint
point_of b = record { limit = b.length; cost = b.cost; slope = b.slope }

-- the break is the next breakpoint of the curve that a solver goes along
abbrev pub IsNextBreak : Course → Option ℕ → Break → Type 0
IsNextBreak c last b = IsNextBreakpoint (curve_in c.net) c.shortest c.longest last (point_of b)

-- a solver is at a length of the range: its present segment holds it
pub record StandsAt (last : ℕ) (c : Course) : Type 0 where
  pub given : c.given ≡ true
  pub above : lower_of c ≤ last
  pub below : last ≤ upper_of c
  pub within : last ≤ c.longest

-- a solver is where its breakpoints were given up to: at the last one, or before the first segment
abbrev pub StandsBy : Option ℕ → Course → Type 0
StandsBy None c = c.given ≡ false
StandsBy (Some last) c = StandsAt last c
