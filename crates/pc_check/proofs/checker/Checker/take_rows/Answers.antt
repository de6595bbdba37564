use Rattle.std.specs.Prelude.{IfNone}
use Rattle.std.proofs.Common.{◌≡◌, None, sym, ap, subst, ◌∙◌, arith}
use Rattle.pc_cert.specs.inside.Reader.{CertReading}
use Rattle.pc_check.specs.declared.kept.Kept.{Kept}
use Rattle.pc_check.specs.inside.fast.Rows.{going}
use Rattle.pc_check.specs.inside.fast.Along.{TakesAlong}
use Rattle.pc_check.specs.inside.Bounds.{IsBounded}
use Rattle.pc_check.specs.inside.Checking.{Checking}
use Rattle.pc_check.specs.inside.fast.Fronts.{AreFronts}
use Rattle.pc_check.proofs.TakeLaws.{when_none}
use Rattle.pc_check.proofs.checker.Checker.take_rows.Goals as goal

pub advance_acts-used-requires : goal.advance_acts-used-requires
advance_acts-used-requires c = record {
  safe = c.self.invariant.safe;
  fronts = subst (λ fs. AreFronts c.self.inside.net.now fs) (sym c.deref.ensures.value) c.self.invariant.fronts;
  bounded = when_none c.self.inside.fail (ap (λ s. s.fail) c.self.view_is ∙ c.requires.no_fail) c.self.invariant.bounded;
  place = c.requires.place ∙ sym (ap (λ s. s.kept.place) c.self.view_is);
  going = c.requires.going;
  alike = c.requires.alike ∙ sym (ap (λ s. s.kept.lines) c.self.view_is);
  few = omega (arith, ap (λ s. s.kept.lines) c.self.view_is, c.requires.few);
}

pub invariant_of-self : goal.invariant_of-self
invariant_of-self c =
    let none : c.self.inside.fail ≡ None = ap (λ s. s.fail) c.self.view_is ∙ c.requires.no_fail in
    record {
      safe = c.advance_acts-used.ensures.safe;
      bounded = subst (λ f. IfNone f (IsBounded c.self.inside.net.now c.advance_acts-used.new.kept)) (sym none) c.advance_acts-used.ensures.bounded;
      fronts = c.self.invariant.fronts;
    }

pub returns-then-used-gt0-clause-same : goal.returns-then-used-gt0-clause-same
returns-then-used-gt0-clause-same c = λ nothing. absurd (omega (arith, nothing, c.if-used-gt0.true))

pub returns-then-used-gt0-clause-same_reader : goal.returns-then-used-gt0-clause-same_reader
returns-then-used-gt0-clause-same_reader c = λ nothing. absurd (omega (arith, nothing, c.if-used-gt0.true))

pub returns-then-used-gt0-clause-takes : goal.returns-then-used-gt0-clause-takes
returns-then-used-gt0-clause-takes c = λ some.
    let none : c.self.inside.fail ≡ None = ap (λ s. s.fail) c.self.view_is ∙ c.requires.no_fail in
    let net = c.self.inside.net.now in
    let new = c.advance_acts-used.new in
    subst (λ (k : Checking). TakesAlong c.args.piece.now c.advance_acts-used.result c.args.reader.now new.reader k (record { net = net; kept = new.kept; fail = c.self.inside.fail })) c.self.view_is
    (subst (λ f. TakesAlong c.args.piece.now c.advance_acts-used.result c.args.reader.now new.reader (record { net = net; kept = c.self.inside.kept; fail = f })
    (record { net = net; kept = new.kept; fail = f })) (sym none) (c.advance_acts-used.ensures.takes some))

pub advance_events-requires : goal.advance_events-requires
advance_events-requires c =
    let nothing : c.advance_acts-used.result ≡ 0 = omega (arith, c.if-used-gt0.false) in
    let kept = c.advance_acts-used.ensures.same_kept nothing in
    let reader = c.advance_acts-used.ensures.same_reader nothing in
    record {
      safe = c.advance_acts-used.ensures.safe;
      fronts = subst (λ fs. AreFronts c.self.inside.net.now fs) (sym c.deref-2.ensures.value) c.self.invariant.fronts;
      bounded = c.advance_acts-used.ensures.bounded;
      place = ap (λ r. r.place) reader ∙ c.requires.place ∙ sym (ap (λ s. s.kept.place) c.self.view_is) ∙ sym (ap (λ k. k.place) kept);
      going = ap (λ r. r.malformed) reader ∙ c.requires.going;
      alike = ap (λ r. r.lines) reader ∙ c.requires.alike ∙ sym (ap (λ s. s.kept.lines) c.self.view_is) ∙ sym (ap (λ k. k.lines) kept);
      few = omega (arith, ap (λ k. k.lines) kept, ap (λ s. s.kept.lines) c.self.view_is, c.requires.few);
    }

pub invariant_of-self-2 : goal.invariant_of-self-2
invariant_of-self-2 c =
    let none : c.self.inside.fail ≡ None = ap (λ s. s.fail) c.self.view_is ∙ c.requires.no_fail in
    record {
      safe = c.advance_events.ensures.safe;
      bounded = subst (λ f. IfNone f (IsBounded c.self.inside.net.now c.advance_events.new.kept)) (sym none) c.advance_events.ensures.bounded;
      fronts = c.self.invariant.fronts;
    }

pub returns-clause-same : goal.returns-clause-same
returns-clause-same c = λ none.
    let nothing : c.advance_acts-used.result ≡ 0 = omega (arith, c.if-used-gt0.false) in
    let same = c.advance_events.ensures.same_kept none ∙ c.advance_acts-used.ensures.same_kept nothing in
    let checking_of : Kept → Checking = λ k. record { net = c.self.inside.net.now; kept = k; fail = c.self.inside.fail } in
    ap checking_of same ∙ c.self.view_is

pub returns-clause-same_reader : goal.returns-clause-same_reader
returns-clause-same_reader c = λ none. c.advance_events.ensures.same_reader none ∙ c.advance_acts-used.ensures.same_reader (omega (arith, c.if-used-gt0.false))

pub returns-clause-takes : goal.returns-clause-takes
returns-clause-takes c = λ some.
    let none : c.self.inside.fail ≡ None = ap (λ s. s.fail) c.self.view_is ∙ c.requires.no_fail in
    let nothing : c.advance_acts-used.result ≡ 0 = omega (arith, c.if-used-gt0.false) in
    let net = c.self.inside.net.now in
    let new = c.advance_events.new in
    let takes = c.advance_events.ensures.takes some in
    subst (λ (k : Checking). TakesAlong c.args.piece.now c.advance_events.result c.args.reader.now new.reader k (record { net = net; kept = new.kept; fail = c.self.inside.fail })) c.self.view_is
    (subst (λ f. TakesAlong c.args.piece.now c.advance_events.result c.args.reader.now new.reader (record { net = net; kept = c.self.inside.kept; fail = f })
    (record { net = net; kept = new.kept; fail = f })) (sym none)
    (subst (λ (r : CertReading). TakesAlong c.args.piece.now c.advance_events.result r new.reader (going net c.self.inside.kept) (going net new.kept)) (c.advance_acts-used.ensures.same_reader nothing)
    (subst (λ (k : Kept). TakesAlong c.args.piece.now c.advance_events.result c.advance_acts-used.new.reader new.reader (going net k) (going net new.kept))
    (c.advance_acts-used.ensures.same_kept nothing) takes)))
