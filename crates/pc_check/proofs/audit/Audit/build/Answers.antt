use Rattle.std.proofs.Common.{◌≤◌, [], length, ap, subst, arith}
use Rattle.pc_check.specs.Auditing.{most_bytes}
use Rattle.pc_check.specs.inside.Auditing.{Auditing, HasRead, IsOngoingAudit, audit_bytes_left}
use Rattle.pc_check.proofs.BeginLaws.{left_at_start}
use Rattle.pc_check.proofs.audit.Audit.build.Goals as goal

pub returns-clause-read : goal.returns-clause-read
returns-clause-read c = record { lines = []; read = c.begin.ensures.stands; checked = c.in_ok-begin.ensures.stands }

pub returns-clause-going : goal.returns-clause-going
returns-clause-going c = record {
  well_formed = c.begin.ensures.nothing.1;
  no_fail = c.in_ok-begin.ensures.no_fail;
  few = c.in_ok-begin.ensures.few;
  short = omega (arith, ap length c.begin.ensures.nothing.0);
}

pub returns-clause-net : goal.returns-clause-net
returns-clause-net c = c.in_ok-begin.ensures.net

pub returns-clause-left : goal.returns-clause-left
returns-clause-left c =
    let audit : Auditing = record { reader = c.begin.result; checker = c.in_ok-begin.field-0 } in
    let read : HasRead [] audit = record { lines = []; read = c.begin.ensures.stands; checked = c.in_ok-begin.ensures.stands } in
    let going : IsOngoingAudit audit = record {
      well_formed = c.begin.ensures.nothing.1;
      no_fail = c.in_ok-begin.ensures.no_fail;
      few = c.in_ok-begin.ensures.few;
      short = omega (arith, ap length c.begin.ensures.nothing.0);
    } in
    subst (λ n. audit_bytes_left audit ≤ most_bytes n) c.in_ok-begin.ensures.net (left_at_start audit going read)
