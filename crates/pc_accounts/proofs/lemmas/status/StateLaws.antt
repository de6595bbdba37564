-- What the first statuses of an activity say of it.
use Rattle.std.proofs.Common.{◌≡◌, ℕ, ◌<◌, Bool, List, length, get_or, Option, Some, None, sym, ◌∙◌, subst, arith}
use Rattle.std.specs.Prelude.{ℤ, pos, false, ◌≤ℤ◌}
use Rattle.std.proofs.lemmas.Int.{by_lt_z}
use Rattle.std.proofs.lemmas.List.{get_or_default}
use Rattle.pc_faults.specs.declared.fault.StatusFault.TheVariants.{Early}
use Rattle.pc_model.specs.Greatest.{IsFirst}
use Rattle.pc_accounts.specs.declared.status.StatusRow.{StatusRow}
use Rattle.pc_accounts.specs.status.Statuses.{status_at, IsOf, AreInOrder}
use Rattle.pc_accounts.specs.inside.Parts.{option_at}
use Rattle.pc_accounts.specs.inside.status.Firsts.{FirstBelow, AreFirsts}

-- a first status that was read
pub record IsFound (statuses : List StatusRow) (ended : Bool) (a k : ℕ) (row : StatusRow) : Type 0 where
  pub known : k < length statuses
  pub first : IsFirst (IsOf statuses ended a) k
  pub read : status_at statuses k ≡ row

pub first_found : (activities : ℕ) (statuses : List StatusRow) (ended : Bool) (a k : ℕ) (firsts : List (Option ℕ)) (o : Option ℕ)
    (row : StatusRow) → AreFirsts activities statuses ended (length statuses) firsts → a < activities → o ≡ get_or firsts a o → o ≡ Some k →
    row ≡ get_or statuses k row → IsFound statuses ended a k row
first_found activities statuses ended a k firsts o row are known read is row_read =
    let at : option_at firsts a ≡ Some k = get_or_default firsts a None o (omega (arith, are.one_each)) ∙ (sym read ∙ is) in
    let found : FirstBelow statuses ended a (length statuses) (Some k) = subst (FirstBelow statuses ended a (length statuses)) at (are.each a known) in
    record {
      known = found.0;
      first = found.1;
      read = get_or_default statuses k (record { activity = 0; finished = false; day = pos 0 }) row found.0 ∙ sym row_read;
    }

-- a status in order is not dated before the start
pub found_day : (start as_of : ℤ) (statuses : List StatusRow) (ended : Bool) (a k : ℕ) (row : StatusRow) → AreInOrder start as_of statuses → IsFound statuses ended a k row → start ≤ℤ row.day
found_day start as_of statuses ended a k row orderly found =
    subst (λ (r : StatusRow). start ≤ℤ r.day) found.read
    (by_lt_z (status_at statuses k).day start (λ early. absurd (orderly k found.known Early early)) (λ late. late))
