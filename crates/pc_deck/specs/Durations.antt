-- The estimates and the durations of an activity or a task, and what may be wrong with them (F18, F19).
use Rattle.std.specs.Prelude.{◌≡◌, ℕ, ◌<◌, ◌≤◌}
use Rattle.pc_faults.specs.Faults.{crash_above_normal, estimates_disorder}
use Rattle.pc_faults.specs.declared.fault.Fault.{Fault}

-- the three estimates are in order
pub record HasOrderedEstimates (opt likely pess : ℕ) : Type 0 where
  pub optimistic : opt ≤ likely
  pub pessimistic : likely ≤ pess

-- the faults of these numbers on the card at a record
pub data HasDurationFault (row opt likely pess normal crash : ℕ) (fault : Fault) : Type 0 where
  -- F18: the estimates are out of order
  unordered : (HasOrderedEstimates opt likely pess → ⊥) → fault ≡ estimates_disorder row → HasDurationFault row opt likely pess normal crash fault
  -- F19: the crash duration is above the normal one
  crash_above : normal < crash → fault ≡ crash_above_normal row → HasDurationFault row opt likely pess normal crash fault
