-- How many bytes may come of a text at its beginning.
use Rattle.std.proofs.Common.{◌≡◌, ℕ, ◌*◌, ◌≤◌, List, [], ◌∷◌, ◌++◌, length, Some, refl, sym, ap, ◌∙◌, arith, append_assoc}
use Rattle.std.proofs.lemmas.Option.{same_Some}
use Rattle.pc_cert.specs.declared.line.CertLine.{CertLine}
use Rattle.pc_cert.specs.declared.place.Place.TheVariants.{Start}
use Rattle.pc_cert.specs.Lines.{spelling}
use Rattle.pc_cert.specs.Text.{text_of, ran}
use Rattle.pc_cert.proofs.TextLaws.{lacks_no_stop}
use Rattle.pc_check.specs.Bounds.{lines_from, lines_of_all}
use Rattle.pc_check.specs.inside.Bounds.{lines_left}
use Rattle.pc_check.specs.Auditing.{most_bytes}
use Rattle.pc_check.specs.inside.Auditing.{Auditing, HasRead, IsOngoingAudit, audit_bytes_left}
use Rattle.pc_check.proofs.AuditLaws.{reading, checking}

-- there is no line in an empty text
no_lines : (lines : List CertLine) (held : List ℕ) → [] ≡ text_of lines ++ held → lines ≡ []
no_lines [] held e = refl
no_lines (line ∷ lines) held e = absurd (lacks_no_stop 10 (spelling line) [] (text_of lines ++ held) tt (sym (append_assoc (spelling line) (10 ∷ text_of lines) held) ∙ sym e))

-- the most bytes may still come at the beginning
pub left_at_start : (audit : Auditing) → IsOngoingAudit audit → HasRead [] audit → audit_bytes_left audit ≤ most_bytes audit.checker.net
left_at_start audit going h =
    let n = audit.checker.net.network.events in
    let m = length audit.checker.net.network.arcs in
    let lower = audit.checker.kept.tally.lower in
    let none = no_lines h.lines audit.reader.held (reading audit.reader h.lines [] going.well_formed h.read).whole in
    let order : Some Start ≡ Some audit.checker.kept.place = ap (ran Start) (sym none) ∙ (checking audit.checker h.lines going.no_fail h.checked).order in
    let place : audit.checker.kept.place ≡ Start = sym (same_Some Start audit.checker.kept.place order) in
    let lines : lines_left audit.checker.net audit.checker.kept ≡ lines_of_all n m = ap (λ p. lines_from n m p lower) place in
    omega (arith, ap (λ k. k * 192) lines)
