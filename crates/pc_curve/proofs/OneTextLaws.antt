-- A network has one text of breakpoints.
use Rattle.std.proofs.Common.{◌≡◌, ℕ, List, sym, ap, ◌∙◌, subst}
use Rattle.pc_model.proofs.Costs.LeastCost.{unique}
use Rattle.pc_model.proofs.Walks.WalkLaws.{greatest_unique}
use Rattle.pc_laws.specs.Curve.{Breakpoint, AreBreakpoints}
use Rattle.pc_laws.proofs.Curves.OneList.{one_list}
use Rattle.pc_crash.specs.Priced.{PricedNetwork, knees_in}
use Rattle.pc_curve.specs.CurveText.{IsCurveText, curve_text}
use Rattle.pc_curve.specs.Points.{curve_in}

-- a length has one least cost
pub one_cost : (net : PricedNetwork) (limit a b : ℕ) → curve_in net limit a → curve_in net limit b → a ≡ b
one_cost net limit a b p q = unique net.network net.terms (knees_in net) limit a b p q

-- and the curve one list of breakpoints
pub one_points : (net : PricedNetwork) (shortest longest : ℕ) (ps qs : List Breakpoint) →
    AreBreakpoints (curve_in net) shortest longest ps → AreBreakpoints (curve_in net) shortest longest qs → ps ≡ qs
one_points net shortest longest ps qs p q = one_list (curve_in net) (one_cost net) shortest longest ps qs p q

pub one_curve_text : (net : PricedNetwork) (text other : List ℕ) → IsCurveText net text → IsCurveText net other → text ≡ other
one_curve_text net text other p q =
    let short = greatest_unique _ p.shortest q.shortest p.all_crash q.all_crash in
    let long = greatest_unique _ p.longest q.longest p.all_normal q.all_normal in
    let points : AreBreakpoints (curve_in net) q.shortest q.longest p.points =
    subst (λ (s : ℕ). AreBreakpoints (curve_in net) s q.longest p.points) short (subst (λ (l : ℕ). AreBreakpoints (curve_in net) p.shortest l p.points) long p.breaks) in
    p.is ∙ (ap curve_text (one_points net q.shortest q.longest p.points q.points points q.breaks) ∙ sym q.is)
