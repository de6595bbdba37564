-- What a check of a certificate means and has done, by its status.
-- Here is what no clause of a top call and no law reaches.
use Rattle.std.specs.Prelude.{ℕ, List, String}
use Rattle.std.specs.declared.alloc.Global.{Global}
use Rattle.pc_check.specs.declared.checker.Verdict.TheVariants.{Yes, No}
use Rattle.pc_project.specs.declared.shell.status.Status.{Status}
use Rattle.pc_project.specs.declared.shell.status.Status.TheVariants.{Done, Refused, Usage, OutOfMemory, ReadFault, WriteFault, NotCertified}
use Rattle.pc_audit.specs.Certificate.{check_usage_text}
use Rattle.pc_project.specs.shell.Sides.{Side, IsReadToEnd, IsUntouched, Took}
use Rattle.pc_project.specs.shell.OneWord.{IsDeckRefused, IsOneWord}
use Rattle.pc_audit.specs.CheckOutcome.{IsChecked, IsCheckCut, IsUnread}

-- what a check that ended with the status means and has done
pub data CheckOutcome {D C O E : Type 0} (words : List (String Global)) (deck : Side D) (cert : Side C) (out : Side O) (err : Side E) : Status → Type 0 where
  certified : (segments : ℕ) → IsChecked words deck cert out (Yes segments) → IsReadToEnd cert → IsUntouched err → CheckOutcome words deck cert out err Done
  not_certified : (line reason : ℕ) → IsChecked words deck cert out (No line reason) → IsUntouched err → CheckOutcome words deck cert out err NotCertified
  deck_refused : IsDeckRefused words deck err → IsUntouched cert → IsUntouched out → CheckOutcome words deck cert out err Refused
  check_usage : (IsOneWord words → ⊥) → Took err check_usage_text → IsUntouched deck → IsUntouched cert → IsUntouched out → CheckOutcome words deck cert out err Usage
  no_memory : IsOneWord words → IsUntouched cert → IsUntouched out → IsUntouched err → CheckOutcome words deck cert out err OutOfMemory
  read_fault : IsOneWord words → IsUnread deck cert → IsUntouched out → IsUntouched err → CheckOutcome words deck cert out err ReadFault
  write_fault : IsCheckCut words deck cert out err → CheckOutcome words deck cert out err WriteFault
