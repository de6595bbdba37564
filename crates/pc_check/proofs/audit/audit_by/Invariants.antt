use Rattle.pc_check.specs.inside.Auditing.{audit_bytes_left}
use Rattle.pc_check.proofs.SourceLaws.{IsPulling}
use Rattle.pc_check.proofs.audit.audit_by.Given as goal

abbrev pub invariant-loop-n : goal.invariant-loop-n
invariant-loop-n g l =
    let s = g.C.Source in
    IsPulling s.left s.faults s.pulls l.fn.source l.source l.fn.audit l.audit

abbrev pub decreases-loop-n : goal.decreases-loop-n
decreases-loop-n g l = audit_bytes_left l.audit
