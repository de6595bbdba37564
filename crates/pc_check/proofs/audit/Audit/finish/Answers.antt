use Rattle.std.proofs.Common.{sym, subst}
use Rattle.pc_check.specs.Texts.{IsFailing, Finds}
use Rattle.pc_check.specs.inside.Auditing.{Auditing, HasRead, IsOngoingAudit}
use Rattle.pc_check.proofs.AuditLaws.{checking}
use Rattle.pc_check.proofs.AuditFinishLaws.{found_whole, found_broken}
use Rattle.pc_check.proofs.audit.Audit.finish.Goals as goal

pub returns-in-Ok : goal.returns-in-Ok
returns-in-Ok c = λ text h.
    let old : Auditing = record { reader = c.self.inside.reader; checker = c.self.inside.checker } in
    let going : IsOngoingAudit old = subst (λ a. IsOngoingAudit a) (sym c.self.view_is) c.requires.going in
    let before : HasRead text old = subst (λ a. HasRead text a) (sym c.self.view_is) h in
    let checked = checking old.checker before.lines going.no_fail before.checked in
    subst (λ (a : Auditing). Finds a.checker.net text c.finish-in-Ok.result) c.self.view_is
    (found_whole old.checker.net before.lines text c.finish-in-Ok.result (c.in-Ok.ensures before.lines text before.read) checked.none (c.finish-in-Ok.ensures.finds before.lines before.checked))

pub returns-in-Err : goal.returns-in-Err
returns-in-Err c = λ text h.
    let old : Auditing = record { reader = c.self.inside.reader; checker = c.self.inside.checker } in
    let going : IsOngoingAudit old = subst (λ a. IsOngoingAudit a) (sym c.self.view_is) c.requires.going in
    let before : HasRead text old = subst (λ a. HasRead text a) (sym c.self.view_is) h in
    let checked = checking old.checker before.lines going.no_fail before.checked in
    subst (λ (a : Auditing). IsFailing a.checker.net text (record { line = c.in-Err.malformed.line; reason = 0 })) c.self.view_is
    (found_broken old.checker.net before.lines text c.in-Err.malformed checked.none (c.in-Err.ensures before.lines text before.read))
