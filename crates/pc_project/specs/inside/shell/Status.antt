-- The statuses of the top calls as numbers.
use Rattle.std.specs.Prelude.{ℕ}
use Rattle.pc_project.specs.declared.shell.status.Status.{Status}
use Rattle.pc_project.specs.declared.shell.status.Status.TheVariants.{Done, Refused, Usage, OutOfMemory, ReadFault, WriteFault, NotCertified, TooLong}

-- the number with which the program ends
abbrev pub exit_code_of : Status → ℕ
exit_code_of Done = 0
exit_code_of Refused = 1
exit_code_of Usage = 2
exit_code_of OutOfMemory = 3
exit_code_of ReadFault = 4
exit_code_of WriteFault = 5
exit_code_of NotCertified = 6
exit_code_of TooLong = 8
