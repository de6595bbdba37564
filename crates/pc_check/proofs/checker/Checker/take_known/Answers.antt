use Rattle.std.proofs.Common.{◌≡◌, ◌+◌, ◌<◌, Some, refl, sym, ap, subst, ◌∙◌, arith}
use Rattle.pc_check.specs.inside.Bounds.{IsBounded, lines_left}
use Rattle.std.specs.Prelude.{IfNone}
use Rattle.pc_cert.specs.Grammar.{next}
use Rattle.pc_check.specs.inside.Checking.{Checking, ChecksAs}
use Rattle.pc_check.proofs.TakeLaws.{goes_on, fails, stays, is_going, still_going, when_none}
use Rattle.pc_check.proofs.checker.Checker.take_known.Goals as goal

pub returns-in-Some-clause-stands : goal.returns-in-Some-clause-stands
returns-in-Some-clause-stands c = λ lines h.
    stays c.args.self.now.net c.args.self.now.kept c.args.self.now.fail lines c.args.line.now c.in-Some.fail (ap (λ s. s.fail) (sym c.self.view_is) ∙ c.in-Some.is) h

pub returns-in-None-clause-stands : goal.returns-in-None-clause-stands
returns-in-None-clause-stands c = λ lines h.
    let none = c.in_default.is in
    let before = is_going c.self.inside.net.now c.self.inside.kept c.self.inside.fail lines none (subst (λ s. ChecksAs s lines) (sym c.self.view_is) h) in
    still_going c.self.inside.net.now c.advance.new.kept c.self.inside.fail _ none
    (goes_on c.args.line.now c.self.invariant.safe
    (when_none c.self.inside.fail none c.self.invariant.bounded) c.in-None.ensures.reason c.in-None.ensures.advances before)

pub returns-in-None-clause-left : goal.returns-in-None-clause-left
returns-in-None-clause-left c =
    subst (λ s. lines_left c.self.inside.net.now c.advance.new.kept < lines_left s.net s.kept) c.self.view_is c.in-None.ensures.left

pub returns-in-Some-advance-clause-stands : goal.returns-in-Some-advance-clause-stands
returns-in-Some-advance-clause-stands c = λ lines h.
    let none = c.in_default.is in
    let before = is_going c.self.inside.net.now c.self.inside.kept c.self.inside.fail lines none (subst (λ s. ChecksAs s lines) (sym c.self.view_is) h) in
    let bounded = when_none c.self.inside.fail none c.self.invariant.bounded in
    let goes = when_none c.self.inside.fail none (subst (λ (s : Checking). IfNone s.fail (next s.kept.place c.args.line.now ≡ Some c.args.behind)) (sym c.self.view_is) c.requires.goes) in
    fails c.args.line.now c.args.behind c.number.result
    (c.advance.new.kept.lines + 1) c.self.invariant.safe bounded goes (ap Some c.number.ensures ∙ c.in-Some-advance.ensures.reason)
    (ap (λ k. k.lines + 1) c.in-Some-advance.ensures.same) before

pub advance-requires-clause-safe : goal.advance-requires-clause-safe
advance-requires-clause-safe c = c.self.invariant.safe

pub advance-requires-clause-bounded : goal.advance-requires-clause-bounded
advance-requires-clause-bounded c = when_none c.self.inside.fail c.in_default.is c.self.invariant.bounded

pub advance-requires-clause-known : goal.advance-requires-clause-known
advance-requires-clause-known c = c.requires.known

pub advance-requires-clause-goes : goal.advance-requires-clause-goes
advance-requires-clause-goes c =
    when_none c.self.inside.fail c.in_default.is (subst (λ (s : Checking). IfNone s.fail (next s.kept.place c.args.line.now ≡ Some c.args.behind)) (sym c.self.view_is) c.requires.goes)

pub invariant_of-self : goal.invariant_of-self
invariant_of-self c = record {
  safe = c.advance.ensures.safe;
  bounded = subst (λ f. IfNone f (IsBounded c.self.inside.net.now c.advance.new.kept)) (sym c.in_default.is) c.advance.ensures.bounded;
  fronts = c.self.invariant.fronts;
}

pub invariant_of-self-in-Some-advance : goal.invariant_of-self-in-Some-advance
invariant_of-self-in-Some-advance c = record { safe = c.advance.ensures.safe; bounded = tt; fronts = c.self.invariant.fronts }

pub overflow_add-fail : goal.overflow_add-fail
overflow_add-fail c = omega (arith, c.advance.ensures.few)

pub returns-in-Some-clause-net : goal.returns-in-Some-clause-net
returns-in-Some-clause-net c = refl

pub returns-in-None-clause-net : goal.returns-in-None-clause-net
returns-in-None-clause-net c = ap (λ (s : Checking). s.net) c.self.view_is

pub returns-in-None-clause-fail : goal.returns-in-None-clause-fail
returns-in-None-clause-fail c = sym c.in_default.is

pub returns-in-None-clause-few : goal.returns-in-None-clause-few
returns-in-None-clause-few c = c.advance.ensures.few

pub returns-in-Some-advance-clause-net : goal.returns-in-Some-advance-clause-net
returns-in-Some-advance-clause-net c = ap (λ (s : Checking). s.net) c.self.view_is
