-- Lines that are answered on a deck have one text of answers, given the edits that are in effect.
use Rattle.std.proofs.Common.{◌≡◌, ℕ, List, subst}
use Rattle.pc_project.specs.Project.{Project}
use Rattle.pc_project.proofs.SoundLaws.{sound_parts}
use Rattle.pc_whatif.specs.edits.Editing.{begun}
use Rattle.pc_project.proofs.lemmas.shell.VerdictLaws.{one_project}
use Rattle.pc_whatif.specs.Heard.{AnswersOn}
use Rattle.pc_whatif.specs.Planning.{AnswersLines}
use Rattle.pc_whatif.specs.Standing.{AnswersInOrder}
use Rattle.pc_whatif.proofs.JournalLaws.{journal_answers}
use Rattle.pc_whatif.proofs.OneTextLaws.{one_text_of}

pub one_text_on : (bytes : List ℕ) (lines : List (List ℕ)) (text other : List ℕ) → AnswersOn AnswersLines bytes lines text → AnswersOn AnswersLines bytes lines other → text ≡ other
one_text_on bytes lines text other x y =
    let same = one_project bytes y.project x.project y.accepted x.accepted in
    one_text_of x.project (sound_parts x.accepted.deck x.project x.accepted.accepted.makes x.accepted.is) (begun x.project) lines text other
    x.answers (subst (λ (p : Project). AnswersLines p lines other) same y.answers)

pub in_order_on : (bytes : List ℕ) (lines : List (List ℕ)) (text : List ℕ) → AnswersOn AnswersLines bytes lines text → AnswersOn AnswersInOrder bytes lines text
in_order_on bytes lines text x = record { project = x.project; accepted = x.accepted; answers = journal_answers x.project lines text x.answers }
