use Rattle.std.proofs.Common.{◌≡◌, length, sym, ap, subst, ◌∙◌}
use Rattle.pc_model.specs.Cost.{IsPriced}
use Rattle.pc_crash.specs.Priced.{knees_in}
use Rattle.pc_check.proofs.FinishLaws.{curve_at_yes, finds_at_no}
use Rattle.pc_check.proofs.checker.Checker.finish.Goals as goal

pub returns-clause-curve : goal.returns-clause-curve
returns-clause-curve c = λ lines h.
    curve_at_yes c.args.self lines
    (ap (λ s. s.fail) (sym c.self.view_is) ∙ c.in-None.is)
    c.requires
    (subst (λ s. IsPriced s.net.network s.net.terms (knees_in s.net)) c.self.view_is c.facts.ensures.priced)
    (subst (λ s. length s.net.activities ≡ length s.net.network.arcs) c.self.view_is c.facts.ensures.activity_names.one_each)
    h

pub returns-in-Some-clause-finds : goal.returns-in-Some-clause-finds
returns-in-Some-clause-finds c = λ lines h. finds_at_no c.args.self lines c.in-Some.fail (ap (λ s. s.fail) (sym c.self.view_is) ∙ c.in-Some.is) h
