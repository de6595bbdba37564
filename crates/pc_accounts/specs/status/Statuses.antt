-- What STATUS cards say of activities: which of them are in disorder (F30), and how far each activity is.
use Rattle.std.specs.Prelude.{◌≡◌, ℕ, ◌<◌, Bool, true, false, ℤ, pos, ◌-ℤ◌, ◌*ℤ◌, ◌<ℤ◌, List, length, slice_index_or}
use Rattle.pc_model.specs.Greatest.{IsFirst}
use Rattle.pc_times.specs.declared.forecasts.ActState.{ActState}
use Rattle.pc_times.specs.declared.forecasts.ActState.TheVariants.{Waiting, Started, Finished}
use Rattle.pc_faults.specs.declared.fault.StatusFault.{StatusFault}
use Rattle.pc_faults.specs.declared.fault.StatusFault.TheVariants.{Second, Early, Late, NoStart, FinishFirst}
use Rattle.pc_accounts.specs.declared.status.StatusRow.{StatusRow}

-- the k-th status; past the end of the list, that activity 0 began on day 0
abbrev pub status_at : List StatusRow → ℕ → StatusRow
status_at statuses k = slice_index_or statuses k (record { activity = 0; finished = false; day = pos 0 })

-- the k-th status says that activity a ended, or that it began
pub record IsOf (statuses : List StatusRow) (ended : Bool) (a k : ℕ) : Type 0 where
  pub known : k < length statuses
  pub activity : (status_at statuses k).activity ≡ a
  pub letter : (status_at statuses k).finished ≡ ended

-- why the k-th status is in disorder, in a project with this start and this as-of date: an earlier status says the same of its
-- activity; it is dated before the start, or after as-of; it ends an activity that no status begins; or it ends an activity
-- before the first status that begins it
abbrev pub HasReason : ℤ → ℤ → List StatusRow → ℕ → StatusFault → Type 0
HasReason start as_of statuses k Second =
    (j : ℕ) × (j < k) × IsOf statuses (status_at statuses k).finished (status_at statuses k).activity j
HasReason start as_of statuses k Early = (status_at statuses k).day <ℤ start
HasReason start as_of statuses k Late = as_of <ℤ (status_at statuses k).day
HasReason start as_of statuses k NoStart =
    ((status_at statuses k).finished ≡ true) × ((j : ℕ) → IsOf statuses false (status_at statuses k).activity j → ⊥)
HasReason start as_of statuses k FinishFirst =
    ((status_at statuses k).finished ≡ true)
    × ((j : ℕ) × IsFirst (IsOf statuses false (status_at statuses k).activity) j × ((status_at statuses k).day <ℤ (status_at statuses j).day))

-- the order in which reasons are tried
abbrev pub reason_rank : StatusFault → ℕ
reason_rank Second = 0
reason_rank Early = 1
reason_rank Late = 2
reason_rank NoStart = 3
reason_rank FinishFirst = 4

-- the reason that is reported: the first that applies to the status
pub record IsReason (start as_of : ℤ) (statuses : List StatusRow) (k : ℕ) (reason : StatusFault) : Type 0 where
  pub holds : HasReason start as_of statuses k reason
  pub first : (other : StatusFault) → reason_rank other < reason_rank reason → HasReason start as_of statuses k other → ⊥

-- the k-th status is in order
abbrev pub IsInOrder : ℤ → ℤ → List StatusRow → ℕ → Type 0
IsInOrder start as_of statuses k =
    (reason : StatusFault) → HasReason start as_of statuses k reason → ⊥

-- all statuses are in order
abbrev pub AreInOrder : ℤ → ℤ → List StatusRow → Type 0
AreInOrder start as_of statuses = (k : ℕ) → k < length statuses → IsInOrder start as_of statuses k

-- `sixths` is the time from the start to a day, in sixths of a day
abbrev pub IsSixths : ℤ → ℤ → ℕ → Type 0
IsSixths start day sixths = pos sixths ≡ pos 6 *ℤ (day -ℤ start)

-- how far activity a is: ended on the day of the first status that ends it, or else begun on the day of the first that
-- begins it, or else waiting
abbrev pub IsStateOf : ℤ → List StatusRow → ℕ → ActState → Type 0
IsStateOf start statuses a (Finished at) =
    (k : ℕ) × (IsFirst (IsOf statuses true a) k × IsSixths start (status_at statuses k).day at)
IsStateOf start statuses a (Started at) =
    ((j : ℕ) → IsOf statuses true a j → ⊥) × ((k : ℕ) × (IsFirst (IsOf statuses false a) k × IsSixths start (status_at statuses k).day at))
IsStateOf start statuses a Waiting = (ended : Bool) (j : ℕ) → IsOf statuses ended a j → ⊥

-- each status is of one of the activities
abbrev pub AreKnown : ℕ → List StatusRow → Type 0
AreKnown activities statuses = (k : ℕ) → k < length statuses → (status_at statuses k).activity < activities
