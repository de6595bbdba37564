-- Which of several faults is the first: at the least record, and there the least number.
-- Here is what no clause of a top call and no law reaches.
use Rattle.std.specs.Prelude.{⊤, Bool, ◌&&◌, ◌||◌, ◌==◌, nat_lt, nat_le, Option, Some, None, MatchOption, if◌then◌else◌}
use Rattle.pc_faults.specs.First.{IsFirstFault}
use Rattle.pc_faults.specs.declared.fault.Fault.{Fault as ADeckFault}
use Rattle.pc_faults.specs.declared.fault.DeckError.{DeckError}
use Rattle.pc_faults.specs.declared.fault.DeckError.TheVariants.{Fault, OutOfMemory}

-- the fault that the error names has P; want of memory comes at any time
abbrev pub Refuses : (ADeckFault → Type 0) → DeckError → Type 0
Refuses P (Fault fault) = P fault
Refuses P OutOfMemory = ⊤

-- the first of the faults, or none where there are none
abbrev pub IsFirstIn : (ADeckFault → Type 0) → Option ADeckFault → Type 0
IsFirstIn Has found = MatchOption found ((fault : ADeckFault) → Has fault → ⊥) (IsFirstFault Has)

-- whether a fault comes no later than another
abbrev pub is_no_later : ADeckFault → ADeckFault → Bool
is_no_later fault other = nat_lt fault.row other.row || (fault.row == other.row && nat_le fault.number other.number)

-- the earlier of two faults, where there are any
abbrev pub earliest : Option ADeckFault → Option ADeckFault → Option ADeckFault
earliest None other = other
earliest (Some fault) None = Some fault
earliest (Some fault) (Some other) = if is_no_later fault other then Some fault else Some other
