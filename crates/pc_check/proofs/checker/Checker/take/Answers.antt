use Rattle.std.proofs.Common.{sym, ap, ◌∙◌}
use Rattle.pc_cert.specs.Grammar.{next}
use Rattle.pc_check.proofs.TakeLaws.{stays_failed}
use Rattle.pc_check.proofs.checker.Checker.take.Goals as goal

pub returns-in-None-clause-stands : goal.returns-in-None-clause-stands
returns-in-None-clause-stands c = λ lines h.
    stays_failed c.args.self.now.net c.args.self.now.kept c.args.self.now.fail lines c.args.line c.requires
    (ap (λ s. next s.kept.place c.args.line) (sym c.self.view_is) ∙ sym c.next.ensures ∙ c.in-None.is) h
