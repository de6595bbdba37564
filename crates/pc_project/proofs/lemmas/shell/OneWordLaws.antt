-- How a call of one word ends whose deck is refused.
use Rattle.std.specs.Prelude.{List, ℕ, String}
use Rattle.std.specs.declared.alloc.Global.{Global}
use Rattle.pc_faults.specs.declared.fault.Fault.{Fault}
use Rattle.pc_project.specs.declared.shell.status.Status.{Status}
use Rattle.pc_project.specs.declared.shell.status.Status.TheVariants.{Refused, OutOfMemory, WriteFault}
use Rattle.pc_project.specs.shell.OneWord.{IsOneWord}
use Rattle.pc_project.specs.inside.shell.OneWord.{EndsWithout, deck_refused, no_memory, refusal_cut}
use Rattle.pc_project.specs.shell.Reading.{HasRefusal}
use Rattle.pc_project.specs.inside.shell.Refusing.{Refusal}
use Rattle.pc_project.specs.shell.Sides.{Side}

-- the line of the deck's fault was handed to the error output
pub after_refusal : {D E : Type 0} (words : List (String Global)) (usage_text : List ℕ) (deck : Side D) (err : Side E) (fault : Fault) (status : Status)
    → IsOneWord words → HasRefusal deck fault → Refusal fault err status → EndsWithout words usage_text deck err status
after_refusal words usage_text deck err fault Refused asked refusal took = deck_refused (record { asked = asked; fault = fault; refusal = refusal; took = took })
after_refusal words usage_text deck err fault WriteFault asked refusal took = refusal_cut (record { asked = asked; fault = fault; refusal = refusal; took = took })
after_refusal words usage_text deck err fault OutOfMemory asked refusal same = no_memory asked same
after_refusal words usage_text deck err fault _ asked refusal never = absurd never
