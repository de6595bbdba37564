-- What a run that ended with 0 gave.
use Rattle.std.proofs.Common.{◌≡◌, ℕ, List, arith}
use Rattle.std.specs.Prelude.{String}
use Rattle.std.specs.declared.alloc.Global.{Global}
use Rattle.pc_project.specs.declared.shell.status.Status.{Status}
use Rattle.pc_project.specs.inside.shell.Status.{exit_code_of}
use Rattle.pc_project.specs.shell.Sides.{Side, Took}
use Rattle.pert_cli.specs.declared.forms.Form.{Form}
use Rattle.pert_cli.specs.Outcome.{IsAnswer, IsDone}
use Rattle.pert_cli.specs.inside.Outcome.{Outcome, done, refused, usage, no_memory, read_fault, write_fault}
use Rattle.pert_cli.specs.Words.{AskFor}
use Rattle.pert_cli.proofs.OneFormLaws.{of_form}

module _ {S O E : Type 0} (words : List (String Global)) (source : Side S) (out : Side O) (err : Side E) (answer : ℕ) where
  is_done : (status : Status) → Outcome words source out err status → answer ≡ exit_code_of status → answer ≡ 0 → IsDone words source out
  is_done _ (done is same) code at_0 = is
  is_done _ (refused is same) code at_0 = absurd (omega (arith, code, at_0))
  is_done _ (usage no_form took same also) code at_0 = absurd (omega (arith, code, at_0))
  is_done _ (no_memory form how left same also) code at_0 = absurd (omega (arith, code, at_0))
  is_done _ (read_fault form rose few same also) code at_0 = absurd (omega (arith, code, at_0))
  is_done _ (write_fault is) code at_0 = absurd (omega (arith, code, at_0))

  -- the output took a text that answers the form that the words ask for
  pub answered : (form : Form) → AskFor form words → (status : Status) → Outcome words source out err status → answer ≡ exit_code_of status →
      answer ≡ 0 → (text : List ℕ) × IsAnswer form source text × Took out text
  answered form asked status outcome code at_0 =
      let is = is_done status outcome code at_0 in
      (is.text, of_form words (λ f. IsAnswer f source is.text) form is.form asked is.asked is.answer, is.took)
