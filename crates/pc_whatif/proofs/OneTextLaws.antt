-- The same lines have one text of answers.
use Rattle.std.proofs.Common.{◌≡◌, ℕ, List, [], ◌∷◌, ◌++◌, Option, Some, None, sym, ap, ◌∙◌, subst}
use Rattle.pc_curve.proofs.OneTextLaws.{one_cost, one_curve_text}
use Rattle.pc_curve.specs.Points.{curve_in}
use Rattle.pc_whatif.specs.declared.edits.ask.Ask.{Ask}
use Rattle.pc_whatif.specs.declared.edits.ask.Ask.TheVariants as ask
use Rattle.pc_whatif.specs.declared.edits.ask.Trial.{Trial}
use Rattle.pc_whatif.specs.edits.Editing.{Editing, begun}
use Rattle.pc_whatif.specs.edits.Reading.{ask_of}
use Rattle.pc_project.proofs.SoundLaws.{HasSoundParts, sound_parts}
use Rattle.pc_project.specs.Planned.{IsPlanned}
use Rattle.pc_project.specs.Project.{Project}
use Rattle.pc_reports.proofs.OneTextLaws.{one_times_text}
use Rattle.pc_reports.specs.TimesText.{IsTimesText, times_text}
use Rattle.pc_curve.specs.Range.{IsLengthInRange}
use Rattle.pc_whatif.specs.Planning.{IsLineAnswer, IsTrialText, refused, outside, costs, AreAnswers, AnswersLines, editing_after, net_tried, project_as}
use Rattle.pc_whatif.specs.Texts.{cost_text, refused_text}

-- ---- times: the terms of activities are no part of their text

abbrev timed : Project → Editing → Project
timed project editing = record (project_as project editing) { terms = project.terms }

timed_parts : (project : Project) (editing : Editing) → HasSoundParts project → HasSoundParts (timed project editing)
timed_parts project editing parts = record {
  in_range = parts.in_range;
  sound = parts.sound;
  terms = parts.terms;
  pieces = parts.pieces;
  activity_codes = parts.activity_codes;
  ranged = parts.ranged;
  tree = parts.tree;
  known = parts.known;
  leaves = parts.leaves;
}

timed_text : (project : Project) (editing : Editing) (text : List ℕ) → IsTimesText (project_as project editing) text → IsTimesText (timed project editing) text
unfolding times_text
timed_text project editing text x = record {
  times = x.times;
  are = record { early = x.are.early; late = x.are.late; path = x.are.path };
  told = x.told;
}

one_times_answer : (project : Project) (editing : Editing) (text other : List ℕ) → HasSoundParts project →
    IsTimesText (project_as project editing) text → IsTimesText (project_as project editing) other → text ≡ other
one_times_answer project editing text other parts x y =
    one_times_text (timed project editing) text other (timed_parts project editing parts) (timed_text project editing text x) (timed_text project editing other y)

-- ---- trials

module _ (editing : Editing) (trial : Trial) where
  one_trial : (text other : List ℕ) → IsTrialText editing trial text → IsTrialText editing trial other → text ≡ other
  one_trial text other (refused r why is) (refused s also at) =
      let same : r ≡ s = cc in is ∙ (ap refused_text same ∙ sym at)
  one_trial text other (refused r why is) (outside b none named without at) = absurd (let some = why in let clear = none in cc)
  one_trial text other (refused r why is) (costs b d none named within least at) = absurd (let some = why in let clear = none in cc)
  one_trial text other (outside a none named without is) (refused s also at) = absurd (let some = also in let clear = none in cc)
  one_trial text other (outside a none named without is) (outside b clear found never at) = is ∙ sym at
  one_trial text other (outside a none named without is) (costs b d clear found within least at) =
      let same : b ≡ a = cc in absurd (without (subst (λ (e : ℕ). IsLengthInRange (net_tried editing trial e) trial.length) same within))
  one_trial text other (costs a c none named within least is) (refused s also at) = absurd (let some = also in let clear = none in cc)
  one_trial text other (costs a c none named within least is) (outside b clear found without at) =
      let same : a ≡ b = cc in absurd (without (subst (λ (e : ℕ). IsLengthInRange (net_tried editing trial e) trial.length) same within))
  one_trial text other (costs a c none named within least is) (costs b d clear found inside lowest at) =
      let same : a ≡ b = cc in
      let cost = one_cost (net_tried editing trial b) trial.length c d (subst (λ (e : ℕ). curve_in (net_tried editing trial e) trial.length c) same least) lowest in
      is ∙ (ap cost_text cost ∙ sym at)

-- ---- lines

module _ (project : Project) (parts : HasSoundParts project) where
  one_answer : (editing : Editing) (asked : Option Ask) (text other : List ℕ) → IsLineAnswer project editing asked text → IsLineAnswer project editing asked other → text ≡ other
  one_answer editing None text other x y = x ∙ sym y
  one_answer editing (Some (ask.Edit edit)) text other x y = x ∙ sym y
  one_answer editing (Some ask.Undo) text other x y = x ∙ sym y
  one_answer editing (Some ask.Times) text other x y = one_times_answer project editing text other parts x y
  one_answer editing (Some ask.Curve) text other x y = one_curve_text editing.net text other x y
  one_answer editing (Some (ask.Try trial)) text other x y = one_trial editing trial text other x y

  pub one_text_of : (editing : Editing) (lines : List (List ℕ)) (text other : List ℕ) → AreAnswers project editing lines text → AreAnswers project editing lines other → text ≡ other
  one_text_of editing [] text other x y = x ∙ sym y
  one_text_of editing (line ∷ lines) text other x y =
      x.2
      ∙ (ap (λ (first : List ℕ). first ++ x.1) (one_answer editing (ask_of line) (x.0) (y.0) (x.3) (y.3))
      ∙ (ap (λ (rest : List ℕ). y.0 ++ rest) (one_text_of (editing_after editing (ask_of line)) lines (x.1) (y.1) (x.4) (y.4)) ∙ sym (y.2)))

-- two texts that answer lines on a project are equal
pub one_text : (project : Project) → IsPlanned project → (lines : List (List ℕ)) (text other : List ℕ) → AnswersLines project lines text → AnswersLines project lines other → text ≡ other
one_text project planned lines text other x y = one_text_of project (sound_parts project.deck project planned.own.makes planned.own.is) (begun project) lines text other x y
