use Rattle.std.proofs.Common.{◌≡◌, ◌++◌, sym, ap, subst, ◌∙◌, arith, rules}
use Rattle.pc_cert.specs.inside.Reader.{CertReading}
use Rattle.pc_check.specs.inside.Checking.{Checking}
use Rattle.pc_check.specs.inside.Auditing.{Auditing, HasRead, HasUsed, IsOngoingAudit, MayUse}
use Rattle.pc_check.proofs.AuditLaws.{same_place, same_count}
use Rattle.pc_check.proofs.audit.Audit.step.Goals as goal

pub take_rows-used-requires-clause-no_fail : goal.take_rows-used-requires-clause-no_fail
take_rows-used-requires-clause-no_fail c = ap (λ a. a.checker.fail) c.self.view_is ∙ c.requires.going.no_fail

pub take_rows-used-requires-clause-place : goal.take_rows-used-requires-clause-place
take_rows-used-requires-clause-place c =
    let old : Auditing = record { reader = c.self.inside.reader; checker = c.self.inside.checker } in
    let going : IsOngoingAudit old = subst (λ a. IsOngoingAudit a) (sym c.self.view_is) c.requires.going in
    let before : HasRead c.requires.read.0 old = subst (λ a. HasRead c.requires.read.0 a) (sym c.self.view_is) c.requires.read.1 in
    same_place going before

pub take_rows-used-requires-clause-going : goal.take_rows-used-requires-clause-going
take_rows-used-requires-clause-going c = ap (λ a. a.reader.malformed) c.self.view_is ∙ c.requires.going.well_formed

pub take_rows-used-requires-clause-alike : goal.take_rows-used-requires-clause-alike
take_rows-used-requires-clause-alike c =
    let old : Auditing = record { reader = c.self.inside.reader; checker = c.self.inside.checker } in
    let going : IsOngoingAudit old = subst (λ a. IsOngoingAudit a) (sym c.self.view_is) c.requires.going in
    let before : HasRead c.requires.read.0 old = subst (λ a. HasRead c.requires.read.0 a) (sym c.self.view_is) c.requires.read.1 in
    same_count going before

pub take_rows-used-requires-clause-few : goal.take_rows-used-requires-clause-few
take_rows-used-requires-clause-few c = omega (arith, ap (λ a. a.checker.kept.lines) c.self.view_is, c.requires.going.few)

pub returns-then-used-gt0 : goal.returns-then-used-gt0
returns-then-used-gt0 c =
    let takes = c.take_rows-used.ensures.takes c.if-used-gt0.true in
    record {
      within = takes.within;
      some = search rules;
      goes_on = λ text h.
          let before : HasRead text (record { reader = c.self.inside.reader; checker = c.self.inside.checker }) = subst (λ a. HasRead text a) (sym c.self.view_is) h in
          record { lines = before.lines ++ takes.taken; read = takes.reads before.lines text before.read; checked = takes.stands before.lines before.checked };
      going = search rules;
      fails = search rules;
      net = takes.net ∙ ap (λ a. a.checker.net) c.self.view_is;
      left = search rules;
    }

pub take_line-requires : goal.take_line-requires
take_line-requires c =
    let audit_of : CertReading → Checking → Auditing = λ r k. record { reader = r; checker = k } in
    let nothing : c.take_rows-used.result ≡ 0 = omega (arith, c.if-used-gt0.false) in
    let same : audit_of c.take_rows-used.new.reader c.take_rows-used.new.self ≡ c.args.self.now =
    ap (λ r. audit_of r c.take_rows-used.new.self) (c.take_rows-used.ensures.same_reader nothing) ∙ ap (audit_of c.self.inside.reader) (c.take_rows-used.ensures.same nothing) ∙ c.self.view_is in
    subst (λ a. MayUse c.args.piece.now a) (sym same) c.requires

pub returns : goal.returns
returns c =
    let audit_of : CertReading → Checking → Auditing = λ r k. record { reader = r; checker = k } in
    let nothing : c.take_rows-used.result ≡ 0 = omega (arith, c.if-used-gt0.false) in
    let same : audit_of c.take_rows-used.new.reader c.take_rows-used.new.self ≡ c.args.self.now =
    ap (λ r. audit_of r c.take_rows-used.new.self) (c.take_rows-used.ensures.same_reader nothing) ∙ ap (audit_of c.self.inside.reader) (c.take_rows-used.ensures.same nothing) ∙ c.self.view_is in
    subst (λ (a : Auditing). HasUsed c.args.piece.now a c.take_line.new.self c.take_line.result) same c.take_line.ensures
