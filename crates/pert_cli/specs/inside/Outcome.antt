-- What a run means and has done, by its status.
-- Here is what no clause of a top call and no law reaches.
use Rattle.std.specs.Prelude.{List, String}
use Rattle.std.specs.declared.alloc.Global.{Global}
use Rattle.pc_deck.specs.Limits.{longest_deck}
use Rattle.pc_project.specs.declared.shell.status.Status.{Status}
use Rattle.pc_project.specs.declared.shell.status.Status.TheVariants.{Done, Refused, Usage, OutOfMemory, ReadFault, WriteFault}
use Rattle.pert_cli.specs.declared.forms.Form.{Form}
use Rattle.pert_cli.specs.Words.{AskFor, AskForNone, usage_text}
use Rattle.pc_project.specs.shell.Sides.{Side, HadFault, IsUntouched, Took, TookAtMost}
use Rattle.pert_cli.specs.FormDeck.{AskToRead}
use Rattle.pert_cli.specs.inside.FormDeck.{IsLeftBy}
use Rattle.pert_cli.specs.Outcome.{IsDone, IsRefused, IsCut}

-- what a run that ended with the status means and has done
pub data Outcome {S O E : Type 0} (words : List (String Global)) (source : Side S) (out : Side O) (err : Side E) : Status → Type 0 where
  done : IsDone words source out → IsUntouched err → Outcome words source out err Done
  refused : IsRefused words source err → IsUntouched out → Outcome words source out err Refused
  usage : AskForNone words → Took err usage_text → IsUntouched source → IsUntouched out → Outcome words source out err Usage
  no_memory : (form : Form) → AskFor form words → IsLeftBy form source → IsUntouched out → IsUntouched err → Outcome words source out err OutOfMemory
  read_fault : AskToRead words → HadFault source → TookAtMost longest_deck source → IsUntouched out → IsUntouched err → Outcome words source out err ReadFault
  write_fault : IsCut words source out err → Outcome words source out err WriteFault
