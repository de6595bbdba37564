-- The lines of breakpoints that follow one another.
use Rattle.std.proofs.Common.{◌≡◌, ℕ, ◌+◌, ◌<◌, List, [], ◌∷◌, ◌++◌, Option, Some, None, sym, ◌∙◌, ap, subst, arith}
use Rattle.std.proofs.lemmas.List.{append_assoc, append-nil}
use Rattle.pc_crash.specs.Priced.{PricedNetwork}
use Rattle.pc_edges.specs.inside.page.Puts.{Desk, Adds}
use Rattle.pc_edges.proofs.lemmas.page.PageLaws.{Adds-nil, Adds-then, Adds-as}
use Rattle.pc_flow.specs.Courses.{Course, IsSameCurve}
use Rattle.pc_flow.proofs.LookLaws.{same-stays, same-joins}
use Rattle.pc_laws.specs.Curve.{Breakpoint}
use Rattle.pc_curve.specs.declared.breaks.Break.{Break}
use Rattle.pc_curve.specs.Points.{curve_in}
use Rattle.pc_curve.specs.Breaks.{IsNextBreakpoint, AreBreakpointsTo}
use Rattle.pc_curve.specs.inside.Breaks.{IsNextBreak, StandsAt, StandsBy, point_of}
use Rattle.pc_curve.proofs.ListLaws.{list-begins, list-grows}
use Rattle.pc_curve.specs.CurveText.{break_line, curve_text}

-- one line more
curve_text-push : (points : List Breakpoint) (point : Breakpoint) → curve_text points ++ break_line point ≡ curve_text (points ++ point ∷ [])
curve_text-push [] point = sym (append-nil (break_line point))
curve_text-push (p ∷ points) point =
    append_assoc (break_line p) (curve_text points) (break_line point) ∙ ap (λ text. break_line p ++ text) (curve_text-push points point)

-- the lines of the breakpoints down to the last one were put
pub record ArePutTo (from : Course) (last : Option ℕ) (c : Course) (old new : Desk) : Type 0 where
  pub same : IsSameCurve from c
  pub place : StandsBy last c
  pub points : List Breakpoint
  pub breaks : AreBreakpointsTo (curve_in from.net) from.shortest from.longest last points
  pub text : Adds old new (curve_text points)

-- at most this many breakpoints are still to come
abbrev pub still_to_come : Course → Option ℕ → ℕ
still_to_come c None = c.longest + 1
still_to_come c (Some last) = last

pub put-begins : (c : Course) (desk : Desk) → StandsBy None c → ArePutTo c None c desk desk
put-begins c desk place = record {
  same = same-stays c;
  place = place;
  points = [];
  breaks = list-begins (curve_in c.net) c.shortest c.longest;
  text = Adds-nil desk;
}

-- the next break is that of the course at first
next-there : (from c : Course) (last : Option ℕ) (b : Break) → IsSameCurve from c → IsNextBreak c last b → IsNextBreak from last b
next-there from c last b same next =
    subst (λ (net : PricedNetwork). IsNextBreakpoint (curve_in net) from.shortest from.longest last (point_of b)) same.net
    (subst (λ n. IsNextBreakpoint (curve_in c.net) n from.longest last (point_of b)) same.shortest
    (subst (λ n. IsNextBreakpoint (curve_in c.net) c.shortest n last (point_of b)) same.longest next))

module _ (from c d : Course) (last : Option ℕ) (old new newer : Desk) (b : Break) (put : ArePutTo from last c old new) (next : IsNextBreak c last b) where
  pub put-more : IsSameCurve c d → StandsAt b.length d → Adds new newer (break_line (point_of b)) → ArePutTo from (Some b.length) d old newer
  put-more same place line = record {
    same = same-joins from c d put.same same;
    place = place;
    points = put.points ++ point_of b ∷ [];
    breaks = list-grows (curve_in from.net) from.shortest from.longest last put.points (point_of b) put.breaks (next-there from c last b put.same next);
    text = Adds-as _ (curve_text-push put.points (point_of b)) (Adds-then put.text line);
  }

-- each is shorter than the one before
pub fewer : (c d : Course) (last : Option ℕ) (b : Break) → IsNextBreak c last b → IsSameCurve c d → StandsAt b.length d
    → still_to_come d (Some b.length) < still_to_come c last
fewer c d None b next same place = omega (arith, place.within, same.longest)
fewer c d (Some last) b next same place = omega (arith, next.ahead)
