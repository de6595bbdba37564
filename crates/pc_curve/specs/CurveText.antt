-- The text of a time-cost curve: a line for each of its breakpoints.
use Rattle.std.specs.Prelude.{◌≡◌, ℕ, List, [], ◌∷◌, ◌++◌, Option, Some, None, codes, decimal}
use Rattle.pc_model.specs.Schedule.{IsAllNormalLength, IsAllCrashLength}
use Rattle.pc_laws.specs.Curve.{Breakpoint, AreBreakpoints}
use Rattle.pc_crash.specs.Priced.{PricedNetwork}
use Rattle.pc_curve.specs.Points.{curve_in}

-- a slope, or a dash if there is none
abbrev pub slope_text : Option ℕ → List ℕ
slope_text None = codes "-"
slope_text (Some slope) = decimal slope

-- the line of a breakpoint: its length, its cost and its slope, with a space between one and the next
abbrev pub break_line : Breakpoint → List ℕ
break_line point = decimal point.limit ++ (32 ∷ (decimal point.cost ++ (32 ∷ (slope_text point.slope ++ 10 ∷ []))))

-- the lines of these breakpoints
abbrev pub curve_text : List Breakpoint → List ℕ
curve_text [] = []
curve_text (point ∷ points) = break_line point ++ curve_text points

-- the text is that of the breakpoints of a network's curve, each once, from the all-normal length down to the all-crash length
pub record IsCurveText (net : PricedNetwork) (text : List ℕ) : Type 0 where
  pub longest : ℕ
  pub shortest : ℕ
  pub all_normal : IsAllNormalLength net.network net.terms longest
  pub all_crash : IsAllCrashLength net.network net.terms shortest
  pub points : List Breakpoint
  pub breaks : AreBreakpoints (curve_in net) shortest longest points
  pub is : text ≡ curve_text points
