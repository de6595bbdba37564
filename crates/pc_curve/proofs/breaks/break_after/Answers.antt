use Rattle.std.proofs.Common.{◌≡◌, ◌∙◌, true, false, true≢false, inl, inr, sym, subst}
use Rattle.std.proofs.lemmas.Bool.{cases_Bool}
use Rattle.pc_curve.specs.inside.Breaks.{StandsBy, IsNextBreak}
use Rattle.pc_curve.proofs.CurveLaws.{first-break, first-place}
use Rattle.pc_curve.proofs.breaks.break_after.Goals as goal

pub returns-in-None-clause-next : goal.returns-in-None-clause-next
returns-in-None-clause-next g c =
    let untouched : c.args.solver.now.given ≡ false = subst (λ last. StandsBy last c.args.solver.now) c.in-None.is c.requires.place in
    elim (cases_Bool c.next_segment.result) [
      | inl goes ↦
          subst (λ last. IsNextBreak c.args.solver.now last c.break_at_upper.result) (sym c.in-None.is)
          (first-break c.args.solver.now c.next_segment.new.self c.break_at_upper.result c.facts.ensures.priced untouched c.next_segment.ensures.same
          (c.next_segment.ensures.next goes) (record {
            length = c.break_at_upper.ensures.length;
            cost = c.break_at_upper.ensures.cost;
            slope = c.break_at_upper.ensures.slope;
            flat = c.break_at_upper.ensures.flat;
          }))
      | inr stays ↦ (let no : true ≡ false = sym (c.next_segment.ensures.ended.0 stays).given ∙ untouched in absurd (true≢false no))
    ]

pub returns-in-None-clause-place : goal.returns-in-None-clause-place
returns-in-None-clause-place g c =
    let untouched : c.args.solver.now.given ≡ false = subst (λ last. StandsBy last c.args.solver.now) c.in-None.is c.requires.place in
    elim (cases_Bool c.next_segment.result) [
      | inl goes ↦
          first-place c.args.solver.now c.next_segment.new.self c.break_at_upper.result untouched c.next_segment.ensures.same
          (c.next_segment.ensures.next goes) (record {
            length = c.break_at_upper.ensures.length;
            cost = c.break_at_upper.ensures.cost;
            slope = c.break_at_upper.ensures.slope;
            flat = c.break_at_upper.ensures.flat;
          })
      | inr stays ↦ (let no : true ≡ false = sym (c.next_segment.ensures.ended.0 stays).given ∙ untouched in absurd (true≢false no))
    ]

pub returns-in-None-clause-same : goal.returns-in-None-clause-same
returns-in-None-clause-same g c = c.next_segment.ensures.same

pub returns-in-None-clause-further : goal.returns-in-None-clause-further
returns-in-None-clause-further g c = c.next_segment.ensures.further

pub returns-in-None-clause-gentle : goal.returns-in-None-clause-gentle
returns-in-None-clause-gentle g c = c.next_segment.ensures.gentle

pub returns-in-None-clause-counted : goal.returns-in-None-clause-counted
returns-in-None-clause-counted g c = c.next_segment.ensures.counted
