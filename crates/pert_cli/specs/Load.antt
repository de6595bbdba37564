-- With which fault `load P` refuses a project.
use Rattle.std.specs.Prelude.{◌≡◌, ℕ}
use Rattle.pc_faults.specs.declared.fault.Fault.{Fault}
use Rattle.pc_faults.specs.Faults.{too_many_periods}
use Rattle.pc_load.specs.Loading.{IsTooMany}
use Rattle.pc_project.specs.Project.{Project}

-- the project takes too many periods of `days` days, and the fault names how many
pub record HasTooManyPeriods (project : Project) (days : ℕ) (fault : Fault) : Type 0 where
  pub have : ℕ
  pub too_many : IsTooMany project days have
  pub is : fault ≡ too_many_periods have
