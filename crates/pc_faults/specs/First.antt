-- Which of several faults is the first.
use Rattle.std.specs.Prelude.{◌≡◌, ◌<◌, ◌≤◌, ◌⊎◌}
use Rattle.pc_faults.specs.declared.fault.Fault.{Fault as ADeckFault}

-- one fault comes no later than another: at an earlier record, or at the same one with no greater number
abbrev pub IsNoLater : ADeckFault → ADeckFault → Type 0
IsNoLater fault other = (fault.row < other.row) ⊎ ((fault.row ≡ other.row) × (fault.number ≤ other.number))

-- the fault is one of those, and none of them comes earlier
pub record IsFirstFault (Has : ADeckFault → Type 0) (fault : ADeckFault) : Type 0 where
  pub holds : Has fault
  pub least : (other : ADeckFault) → Has other → IsNoLater fault other
