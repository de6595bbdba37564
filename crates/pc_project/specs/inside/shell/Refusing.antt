-- What saying why a deck is refused leaves, by the status that it ends with.
use Rattle.pc_faults.specs.declared.fault.Fault.{Fault}
use Rattle.pc_faults.specs.FaultText.{fault_text}
use Rattle.pc_project.specs.declared.shell.status.Status.{Status}
use Rattle.pc_project.specs.declared.shell.status.Status.TheVariants.{Refused, OutOfMemory, WriteFault}
use Rattle.pc_project.specs.shell.Sides.{Side, IsUntouched, Took, TookFront}

-- the line of the fault was written, or there was no memory for it, or a fault of the sink came in it
abbrev pub Refusal : {X : Type 0} → Fault → Side X → Status → Type 0
Refusal fault err Refused = Took err (fault_text fault)
Refusal fault err OutOfMemory = IsUntouched err
Refusal fault err WriteFault = TookFront err (fault_text fault)
Refusal fault err _ = ⊥
