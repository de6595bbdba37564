-- What a session means and what it leaves, by its status.
-- Here is what no clause of a top call and no law reaches.
use Rattle.std.specs.Prelude.{List, String}
use Rattle.std.specs.declared.alloc.Global.{Global}
use Rattle.pc_project.specs.declared.shell.status.Status.{Status}
use Rattle.pc_project.specs.declared.shell.status.Status.TheVariants.{Done, Refused, Usage, OutOfMemory, ReadFault, WriteFault, TooLong}
use Rattle.pc_project.specs.shell.Sides.{Side, IsUntouched, Took}
use Rattle.pc_project.specs.shell.OneWord.{IsDeckRefused, IsOneWord}
use Rattle.pc_whatif.specs.Heard.{session_usage_text, Meaning, IsHeardOut, IsHeardTooLong}
use Rattle.pc_whatif.specs.SessionOutcome.{IsSessionUnread, IsSessionCut}

-- what a session that ended with the status means, and what it leaves
pub data SessionOutcome {D C O E : Type 0} (means : Meaning) (words : List (String Global)) (deck : Side D) (edits : Side C) (out : Side O) (err : Side E) : Status → Type 0 where
  heard_out : IsOneWord words → IsHeardOut means deck edits out → IsUntouched err → SessionOutcome means words deck edits out err Done
  too_long : IsOneWord words → IsHeardTooLong means deck edits out → IsUntouched err → SessionOutcome means words deck edits out err TooLong
  deck_refused : IsDeckRefused words deck err → IsUntouched edits → IsUntouched out → SessionOutcome means words deck edits out err Refused
  usage : (IsOneWord words → ⊥) → Took err session_usage_text → IsUntouched deck → IsUntouched edits → IsUntouched out → SessionOutcome means words deck edits out err Usage
  no_memory : IsOneWord words → IsUntouched edits → IsUntouched out → IsUntouched err → SessionOutcome means words deck edits out err OutOfMemory
  read_fault : IsOneWord words → IsSessionUnread means deck edits out → IsUntouched err → SessionOutcome means words deck edits out err ReadFault
  write_fault : IsSessionCut means words deck edits out err → SessionOutcome means words deck edits out err WriteFault
