-- What the lines of a session mean, given the edits that are in effect: nothing else of the earlier lines is needed.
use Rattle.std.specs.Prelude.{◌≡◌, ℕ, List, [], ◌∷◌, ◌++◌, Option, Some, None}
use Rattle.std.specs.Option.{option_map_or}
use Rattle.pc_project.specs.Project.{Project}
use Rattle.pc_whatif.specs.declared.edits.ask.Ask.{Ask}
use Rattle.pc_whatif.specs.declared.edits.ask.Ask.TheVariants as ask
use Rattle.pc_whatif.specs.edits.Editing.{Editing}
use Rattle.pc_whatif.specs.edits.Reading.{ask_of}
use Rattle.pc_whatif.specs.edits.Refusal.{edit_refusal, undo_refusal}
use Rattle.pc_whatif.specs.edits.Standing.{Journal, empty, noted, taken_back, standing_of}
use Rattle.pc_whatif.specs.Planning.{IsLineAnswer, editing_after}

-- the journal after a line: an edit that is accepted is noted, an UNDO that is accepted takes the latest back, and all else leaves it as
-- it is. Whether they are accepted is judged on the deck's project with the edits of the journal applied in order
abbrev pub journal_after : Project → Journal → Option Ask → Journal
journal_after project journal None = journal
journal_after project journal (Some (ask.Edit edit)) =
    option_map_or (λ reason. journal) (edit_refusal (standing_of project journal).net (standing_of project journal).estimates edit) (noted journal edit)
journal_after project journal (Some ask.Undo) = option_map_or (λ reason. journal) (undo_refusal (standing_of project journal)) (taken_back journal)
journal_after project journal (Some ask.Times) = journal
journal_after project journal (Some ask.Curve) = journal
journal_after project journal (Some (ask.Try trial)) = journal

-- and after lines
abbrev pub journal_of : Project → Journal → List (List ℕ) → Journal
journal_of project journal [] = journal
journal_of project journal (line ∷ lines) = journal_of project (journal_after project journal (ask_of line)) lines

-- the project as it is edited after lines
abbrev pub editing_of : Editing → List (List ℕ) → Editing
editing_of editing [] = editing
editing_of editing (line ∷ lines) = editing_of (editing_after editing (ask_of line)) lines

-- the text answers the lines, each on the deck's project with the edits that are then in effect, applied in order
abbrev pub AnswersByJournal : Project → Journal → List (List ℕ) → List ℕ → Type 0
AnswersByJournal project journal [] text = text ≡ []
AnswersByJournal project journal (line ∷ lines) text =
    (first : List ℕ) × (rest : List ℕ) × (text ≡ first ++ rest) × IsLineAnswer project (standing_of project journal) (ask_of line) first
    × AnswersByJournal project (journal_after project journal (ask_of line)) lines rest

-- and they are those on the project of a deck, for which no edit is in effect at first
abbrev pub AnswersInOrder : Project → List (List ℕ) → List ℕ → Type 0
AnswersInOrder project lines text = AnswersByJournal project empty lines text
