use Rattle.std.proofs.Common.{rules, [], ◌∷◌, sym, subst}
use Rattle.pc_crash.specs.inside.Priced.{AreDurations}
use Rattle.pc_tests.specs.declared.small.TheConstants.{TERMS}
use Rattle.pc_tests.proofs.priced.costs.Goals as goal

normal : AreDurations TERMS (4 ∷ 5 ∷ 7 ∷ [])
normal = search rules

crash : AreDurations TERMS (2 ∷ 3 ∷ 5 ∷ [])
crash = search rules

pub cost_of-requires : goal.cost_of-requires
cost_of-requires c = subst (λ terms. AreDurations terms (4 ∷ 5 ∷ 7 ∷ [])) (sym c.in_ok-priced.ensures.terms) normal

pub cost_of-requires-2 : goal.cost_of-requires-2
cost_of-requires-2 c = subst (λ terms. AreDurations terms (2 ∷ 3 ∷ 5 ∷ [])) (sym c.in_ok-priced.ensures.terms) crash
