-- What the lines of a session mean.
use Rattle.std.specs.Prelude.{◌≡◌, ℕ, List, [], ◌∷◌, ◌++◌, Option, Some, None}
use Rattle.std.specs.Option.{option_map_or}
use Rattle.pc_model.specs.Schedule.{term_at}
use Rattle.pc_crash.specs.Priced.{PricedNetwork}
use Rattle.pc_curve.specs.CurveText.{IsCurveText}
use Rattle.pc_curve.specs.Points.{curve_in}
use Rattle.pc_project.specs.Project.{Project}
use Rattle.pc_reports.specs.TimesText.{IsTimesText}
use Rattle.pc_whatif.specs.declared.edits.ask.Ask.{Ask}
use Rattle.pc_whatif.specs.declared.edits.ask.Ask.TheVariants as ask
use Rattle.pc_whatif.specs.declared.edits.ask.Trial.{Trial}
use Rattle.pc_whatif.specs.declared.edits.reason.Reason.{Reason}
use Rattle.pc_whatif.specs.declared.edits.reason.Reason.TheVariants.{Form, OutsideRange}
use Rattle.pc_whatif.specs.edits.Editing.{Editing, activity_named, begun, edited, undone, net_trying}
use Rattle.pc_whatif.specs.edits.Plans.{expected_times, variances, term_tried}
use Rattle.pc_whatif.specs.edits.Reading.{ask_of}
use Rattle.pc_whatif.specs.edits.Refusal.{edit_refusal, undo_refusal, trial_refusal}
use Rattle.pc_curve.specs.Range.{IsLengthInRange}
use Rattle.pc_whatif.specs.Texts.{refused_text, cost_text, outcome_text}

-- ---- the answer to a line

-- the deck's project with the numbers as they are edited in place
abbrev pub project_as : Project → Editing → Project
project_as project editing = record project {
  terms = editing.net.terms;
  expected = expected_times editing.unit_days editing.estimates;
  variances = variances editing.unit_days editing.estimates;
}

-- the priced network with the numbers of a trial in place of those of activity a
abbrev pub net_tried : Editing → Trial → ℕ → PricedNetwork
net_tried editing trial a = net_trying editing.net (record { activity = a; term = term_tried trial (term_at editing.net.terms a) })

-- the answer to a trial: why it is refused; or else, with its numbers in place, that the length is outside the range,
-- or the least cost for it
pub data IsTrialText (editing : Editing) (trial : Trial) (text : List ℕ) : Type 0 where
  refused : (reason : Reason) → trial_refusal editing.net editing.estimates trial ≡ Some reason → text ≡ refused_text reason → IsTrialText editing trial text
  outside : (a : ℕ) → trial_refusal editing.net editing.estimates trial ≡ None → activity_named editing.net trial.act ≡ Some a
      → (IsLengthInRange (net_tried editing trial a) trial.length → ⊥) → text ≡ refused_text OutsideRange → IsTrialText editing trial text
  costs : (a cost : ℕ) → trial_refusal editing.net editing.estimates trial ≡ None → activity_named editing.net trial.act ≡ Some a
      → IsLengthInRange (net_tried editing trial a) trial.length → curve_in (net_tried editing trial a) trial.length cost → text ≡ cost_text cost → IsTrialText editing trial text

-- the text answers the request in a line, on the project as it is edited; a line without a request has none of the
-- forms
abbrev pub IsLineAnswer : Project → Editing → Option Ask → List ℕ → Type 0
IsLineAnswer project editing None text = text ≡ refused_text Form
IsLineAnswer project editing (Some (ask.Edit edit)) text = text ≡ outcome_text (edit_refusal editing.net editing.estimates edit)
IsLineAnswer project editing (Some ask.Undo) text = text ≡ outcome_text (undo_refusal editing)
IsLineAnswer project editing (Some ask.Times) text = IsTimesText (project_as project editing) text
IsLineAnswer project editing (Some ask.Curve) text = IsCurveText editing.net text
IsLineAnswer project editing (Some (ask.Try trial)) text = IsTrialText editing trial text

-- the project as it is edited after a line: an accepted edit is in place, an UNDO reverts the latest kept edit, and any
-- other line changes nothing
abbrev pub editing_after : Editing → Option Ask → Editing
editing_after editing None = editing
editing_after editing (Some (ask.Edit edit)) = option_map_or (λ reason. editing) (edit_refusal editing.net editing.estimates edit) (edited editing edit)
editing_after editing (Some ask.Undo) = undone editing
editing_after editing (Some ask.Times) = editing
editing_after editing (Some ask.Curve) = editing
editing_after editing (Some (ask.Try trial)) = editing

-- the text answers the lines, one after the other
abbrev pub AreAnswers : Project → Editing → List (List ℕ) → List ℕ → Type 0
AreAnswers project editing [] text = text ≡ []
AreAnswers project editing (line ∷ lines) text =
    (first : List ℕ) × (rest : List ℕ) × (text ≡ first ++ rest) × IsLineAnswer project editing (ask_of line) first
    × AreAnswers project (editing_after editing (ask_of line)) lines rest

-- and they are those on the project of a deck
abbrev pub AnswersLines : Project → List (List ℕ) → List ℕ → Type 0
AnswersLines project lines text = AreAnswers project (begun project) lines text
