-- The first statuses of activities among those that were read.
use Rattle.std.specs.Prelude.{◌≡◌, ℕ, ◌<◌, Bool, List, length, Option, Some, None, if◌then◌else◌}
use Rattle.pc_model.specs.Greatest.{IsFirst}
use Rattle.pc_accounts.specs.declared.status.StatusRow.{StatusRow}
use Rattle.pc_accounts.specs.status.Statuses.{IsOf}
use Rattle.pc_accounts.specs.inside.Parts.{option_at}

-- the first status of activity a among the first n that says that it was ended, or that it was begun, if there is one
abbrev pub FirstBelow : List StatusRow → Bool → ℕ → ℕ → Option ℕ → Type 0
FirstBelow statuses ended a n None = (j : ℕ) → j < n → IsOf statuses ended a j → ⊥
FirstBelow statuses ended a n (Some k) = (k < n) × IsFirst (IsOf statuses ended a) k

-- the same for each activity
pub record AreFirsts (activities : ℕ) (statuses : List StatusRow) (ended : Bool) (n : ℕ) (firsts : List (Option ℕ)) : Type 0 where
  pub one_each : length firsts ≡ activities
  pub each : (a : ℕ) → a < activities → FirstBelow statuses ended a n (option_at firsts a)

-- the first so far, or this one if there is none and it counts
abbrev pub first_or_this : Option ℕ → Bool → ℕ → Option ℕ
first_or_this None counts k = if counts then Some k else None
first_or_this (Some first) counts k = Some first
