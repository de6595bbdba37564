-- Lines leave the edits of the journal standing, and are answered by them.
use Rattle.std.proofs.Common.{◌≡◌, ℕ, zero, suc, ◌<◌, List, [], ◌∷◌, length, Option, Some, None, refl, sym, subst, arith}
use Rattle.std.specs.Prelude.{◌==◌, if◌then◌else◌}
use Rattle.std.specs.Option.{option_map_or}
use Rattle.pc_project.specs.Project.{Project}
use Rattle.pc_whatif.specs.declared.edits.ask.Ask.{Ask}
use Rattle.pc_whatif.specs.declared.edits.ask.Ask.TheVariants as ask
use Rattle.pc_whatif.specs.declared.edits.ask.Edit.{Edit}
use Rattle.pc_whatif.specs.declared.edits.reason.Reason.{Reason}
use Rattle.pc_whatif.specs.declared.edits.reason.Reason.TheVariants.{NothingToUndo, UnknownActivity}
use Rattle.pc_whatif.specs.edits.Editing.{Editing, activity_named, begun, edited, undone}
use Rattle.pc_whatif.specs.edits.Reading.{ask_of}
use Rattle.pc_whatif.specs.edits.Refusal.{edit_refusal, undo_refusal}
use Rattle.pc_whatif.specs.edits.Standing.{Journal, IsEditedBy, empty, noted, taken_back}
use Rattle.pc_whatif.proofs.lemmas.edits.StandingLaws.{IsEditedBy-begun, IsEditedBy-edited, IsEditedBy-undone}
use Rattle.pc_whatif.specs.Planning.{IsLineAnswer, AreAnswers, AnswersLines, editing_after}
use Rattle.pc_whatif.specs.Standing.{journal_after, journal_of, editing_of, AnswersByJournal}
use Rattle.pc_whatif.proofs.AnswerLaws.{undone_same}

-- an edit that is not refused has an activity
names_some : (found : Option ℕ) (judge : ℕ → Option Reason) → option_map_or judge found (Some UnknownActivity) ≡ None → (a : ℕ) × (found ≡ Some a)
names_some (Some a) judge none = (a, refl)
names_some None judge none = absurd cc

-- an UNDO that is not refused has something to take back
some_kept : (n : ℕ) → (if n == 0 then Some NothingToUndo else None) ≡ None → 0 < n
some_kept zero none = absurd cc
some_kept (suc n) none = omega arith

module _ (project : Project) (journal : Journal) (editing : Editing) (stands : IsEditedBy project journal editing) where
  edit_stands : (edit : Edit) (judged : Option Reason) → edit_refusal editing.net editing.estimates edit ≡ judged
      → IsEditedBy project (option_map_or (λ reason. journal) judged (noted journal edit)) (option_map_or (λ reason. editing) judged (edited editing edit))
  edit_stands edit None none =
      let named = names_some (activity_named editing.net edit.act) _ none in
      IsEditedBy-edited project journal editing edit (named.0) (named.1) stands
  edit_stands edit (Some reason) why = stands

  undo_stands : (judged : Option Reason) → undo_refusal editing ≡ judged
      → IsEditedBy project (option_map_or (λ reason. journal) judged (taken_back journal)) (undone editing)
  undo_stands None none = IsEditedBy-undone project journal editing (some_kept (length editing.kept) none) stands
  undo_stands (Some reason) why = subst (IsEditedBy project journal) (sym (undone_same editing reason why)) stands

  -- what the project as it is edited says of a line, the edits of the journal say
  line_stands : (asked : Option Ask) → IsEditedBy project (journal_after project journal asked) (editing_after editing asked)
  line_stands None = stands
  line_stands (Some (ask.Edit edit)) =
      subst (λ (e : Editing). IsEditedBy project (option_map_or (λ reason. journal) (edit_refusal e.net e.estimates edit) (noted journal edit)) (editing_after editing (Some (ask.Edit edit))))
      stands.is (edit_stands edit (edit_refusal editing.net editing.estimates edit) refl)
  line_stands (Some ask.Undo) =
      subst (λ (e : Editing). IsEditedBy project (option_map_or (λ reason. journal) (undo_refusal e) (taken_back journal)) (undone editing))
      stands.is (undo_stands (undo_refusal editing) refl)
  line_stands (Some ask.Times) = stands
  line_stands (Some ask.Curve) = stands
  line_stands (Some (ask.Try trial)) = stands

lines_stand : (project : Project) (lines : List (List ℕ)) (journal : Journal) (editing : Editing) → IsEditedBy project journal editing
    → IsEditedBy project (journal_of project journal lines) (editing_of editing lines)
lines_stand project [] journal editing stands = stands
lines_stand project (line ∷ lines) journal editing stands =
    lines_stand project lines (journal_after project journal (ask_of line)) (editing_after editing (ask_of line))
    (line_stands project journal editing stands (ask_of line))

answers_stand : (project : Project) (lines : List (List ℕ)) (journal : Journal) (editing : Editing) (text : List ℕ) → IsEditedBy project journal editing
    → AreAnswers project editing lines text → AnswersByJournal project journal lines text
answers_stand project [] journal editing text stands p = p
answers_stand project (line ∷ lines) journal editing text stands p = (
  p.0,
  p.1,
  p.2,
  subst (λ (e : Editing). IsLineAnswer project e (ask_of line) (p.0)) stands.is (p.3),
  answers_stand project lines (journal_after project journal (ask_of line)) (editing_after editing (ask_of line)) (p.1)
      (line_stands project journal editing stands (ask_of line)) (p.4),
)

-- after lines the edits of the journal are in effect
pub journal_stands : (project : Project) (lines : List (List ℕ)) → IsEditedBy project (journal_of project empty lines) (editing_of (begun project) lines)
journal_stands project lines = lines_stand project lines empty (begun project) (IsEditedBy-begun project)

-- and the answers are by them
pub journal_answers : (project : Project) (lines : List (List ℕ)) (text : List ℕ) → AnswersLines project lines text → AnswersByJournal project empty lines text
journal_answers project lines text = answers_stand project lines empty (begun project) text (IsEditedBy-begun project)
