use Rattle.std.proofs.Common.{◌≤◌, length, refl, sym, ap, ◌∙◌, arith, subst}
use Rattle.std.proofs.lemmas.Bool.{eqb-true, eqb-false}
use Rattle.pc_edges.specs.declared.lines.reader.TheConstants.{INPUT_LIMIT}
use Rattle.pc_edges.specs.inside.lines.Lines.{IsOpen}
use Rattle.pc_edges.specs.inside.lines.Reading.{Reading}
use Rattle.pc_edges.proofs.lemmas.lines.StepLemmas.{
  begins_under,
  gives,
  goes_on_under,
  fills,
  fills_under,
  pulls_once,
  fills_nothing,
  ends_all,
  ends_last,
  fails,
  passes,
  left-of_all,
  left-filled,
  open_lacks,
}
use Rattle.pc_edges.proofs.lines.reader.LineReader.next.Goals as goal

pub loop-self-init : goal.loop-self-init
loop-self-init g c =
    let same = c.begin_line.ensures in
    record {
      under = λ lines bytes h. begins_under _ _ _ _ _ c.begin_line.new.self h same;
      unpulled = λ has. (refl, ap (λ (r : Reading). r.ahead) same);
      less = omega (arith, ap (λ (r : Reading). length r.ahead) same, ap (λ (r : Reading). r.taken) same);
      no_fault = refl;
    }

pub returns-then-take_line-clause-stepped : goal.returns-then-take_line-clause-stepped
returns-then-take_line-clause-stepped g c = λ lines bytes h.
    let took = c.if-take_line.ensures in
    gives c.take_line.new.self (took.0) (c.loop-self.invariant.under lines bytes h) (took.1)

pub returns-then-taken-gt-INPUT_LIMIT-clause-stepped : goal.returns-then-taken-gt-INPUT_LIMIT-clause-stepped
returns-then-taken-gt-INPUT_LIMIT-clause-stepped g c = λ lines bytes h.
    let took = c.if-take_line.ensures in
    passes (goes_on_under c.take_line.new.self (c.loop-self.invariant.under lines bytes h) took) took.nothing (omega (arith, c.taken.ensures, c.if-taken-gt-INPUT_LIMIT.true))

pub returns-then-taken-gt-INPUT_LIMIT-clause-unpulled : goal.returns-then-taken-gt-INPUT_LIMIT-clause-unpulled
returns-then-taken-gt-INPUT_LIMIT-clause-unpulled g c = λ has.
    absurd (open_lacks _ (subst IsOpen ((c.loop-self.invariant.unpulled has).1) c.if-take_line.ensures.no_end) has)

pub returns-in_default-clause-stepped : goal.returns-in_default-clause-stepped
returns-in_default-clause-stepped g c = λ lines bytes h.
    let took = c.if-take_line.ensures in
    fails _ (goes_on_under c.take_line.new.self (c.loop-self.invariant.under lines bytes h) took) took.nothing (omega (arith, c.taken.ensures, c.if-taken-gt-INPUT_LIMIT.false))
    c.in_default.ensures.filled c.fill.ensures.once

pub returns-in_default-clause-unpulled : goal.returns-in_default-clause-unpulled
returns-in_default-clause-unpulled g c = λ has.
    absurd (open_lacks _ (subst IsOpen ((c.loop-self.invariant.unpulled has).1) c.if-take_line.ensures.no_end) has)

pub returns-then-is_empty-clause-stepped : goal.returns-then-is_empty-clause-stepped
returns-then-is_empty-clause-stepped g c = λ lines bytes h.
    let took = c.if-take_line.ensures in
    let filled = c.in-Ok.ensures.filled in
    let fits : c.take_line.new.self.taken ≤ INPUT_LIMIT = omega (arith, c.taken.ensures, c.if-taken-gt-INPUT_LIMIT.false) in
    let under = goes_on_under c.take_line.new.self (c.loop-self.invariant.under lines bytes h) took in
    let now = fills _ c.fill.new.self c.in-Ok.n under.within took.nothing fits filled in
    ends_all now (pulls_once c.fill.new.source under took.nothing fits filled.more filled.taken filled.room c.fill.ensures.once)
    (fills_nothing c.in-Ok.n filled (omega (arith, c.if-n-eq0.true))) (omega (arith, filled.counted, c.if-n-eq0.true, fits))
    (filled.end (omega (arith, c.if-n-eq0.true)))
    (ap length (sym c.line.ensures) ∙ eqb-true (length c.line.result.now) 0 (sym c.is_empty.ensures ∙ c.if-is_empty.true))

pub returns-else-is_empty-clause-stepped : goal.returns-else-is_empty-clause-stepped
returns-else-is_empty-clause-stepped g c = λ lines bytes h.
    let took = c.if-take_line.ensures in
    let filled = c.in-Ok.ensures.filled in
    let fits : c.take_line.new.self.taken ≤ INPUT_LIMIT = omega (arith, c.taken.ensures, c.if-taken-gt-INPUT_LIMIT.false) in
    let under = goes_on_under c.take_line.new.self (c.loop-self.invariant.under lines bytes h) took in
    let now = fills _ c.fill.new.self c.in-Ok.n under.within took.nothing fits filled in
    ends_last now (pulls_once c.fill.new.source under took.nothing fits filled.more filled.taken filled.room c.fill.ensures.once)
    (fills_nothing c.in-Ok.n filled (omega (arith, c.if-n-eq0.true))) (omega (arith, filled.counted, c.if-n-eq0.true, fits))
    (filled.end (omega (arith, c.if-n-eq0.true)))
    (λ none. eqb-false (length c.line.result.now) 0 (sym c.is_empty.ensures ∙ c.if-is_empty.false) (ap length c.line.ensures ∙ none))

pub returns-else-is_empty-clause-unpulled : goal.returns-else-is_empty-clause-unpulled
returns-else-is_empty-clause-unpulled g c = λ has.
    absurd (open_lacks _ (subst IsOpen ((c.loop-self.invariant.unpulled has).1) c.if-take_line.ensures.no_end) has)

pub loop-self-preserved : goal.loop-self-preserved
loop-self-preserved g c =
    let took = c.if-take_line.ensures in
    let filled = c.in-Ok.ensures.filled in
    let fits : c.take_line.new.self.taken ≤ INPUT_LIMIT = omega (arith, c.taken.ensures, c.if-taken-gt-INPUT_LIMIT.false) in
    let first = left-of_all took in
    let second = left-filled c.in-Ok.n filled took.nothing in
    record {
      under = λ lines bytes h.
          fills_under _ c.fill.new.self c.in-Ok.n (goes_on_under c.take_line.new.self (c.loop-self.invariant.under lines bytes h) took) took.nothing fits filled c.fill.ensures.once
          c.in-Ok.ensures.no_fault (omega (arith, c.if-n-eq0.false));
      unpulled = λ has. absurd (open_lacks _ (subst IsOpen ((c.loop-self.invariant.unpulled has).1) took.no_end) has);
      less = omega (arith, first, second, c.loop-self.invariant.less);
      no_fault = c.in-Ok.ensures.no_fault ∙ c.loop-self.invariant.no_fault;
    }
