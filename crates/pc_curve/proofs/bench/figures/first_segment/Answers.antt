use Rattle.std.proofs.Common.{◌≡◌, ◌∙◌, true, false, true≢false, inl, inr, sym}
use Rattle.std.proofs.lemmas.Bool.{cases_Bool}
use Rattle.pc_curve.proofs.bench.figures.first_segment.Goals as goal

pub returns-clause-next : goal.returns-clause-next
returns-clause-next g c =
    elim (cases_Bool c.next_segment.result) [
      | inl goes ↦ c.next_segment.ensures.next goes
      | inr stays ↦ (let no : true ≡ false = sym (c.next_segment.ensures.ended.0 stays).given ∙ c.requires in absurd (true≢false no))
    ]
