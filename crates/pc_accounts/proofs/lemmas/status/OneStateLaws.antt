-- The statuses of a project say one state of each activity.
use Rattle.std.proofs.Common.{◌≡◌, ℕ, ◌<◌, List, length, true, false, refl, sym, ◌∙◌, ap, subst, ℤ, arith}
use Rattle.std.specs.Prelude.{pos}
use Rattle.std.proofs.lemmas.Int.{ints}
use Rattle.std.proofs.lemmas.List.{ext_get_or}
use Rattle.pc_model.proofs.Walks.WalkLaws.{first_unique}
use Rattle.pc_times.specs.declared.forecasts.ActState.{ActState}
use Rattle.pc_times.specs.declared.forecasts.ActState.TheVariants.{Waiting, Started, Finished}
use Rattle.pc_times.specs.Forecast.{state_at}
use Rattle.pc_accounts.specs.declared.status.StatusRow.{StatusRow}
use Rattle.pc_accounts.specs.status.Statuses.{status_at, IsStateOf, IsSixths}

-- sixths of a day are one number
one_time : (start day : ℤ) (m n : ℕ) → IsSixths start day m → IsSixths start day n → m ≡ n
one_time start day m n x y = let same : pos m ≡ pos n = x ∙ sym y in omega (arith, ints, same)

-- an activity has one state
pub one_state : (start : ℤ) (statuses : List StatusRow) (a : ℕ) (s t : ActState) → IsStateOf start statuses a s → IsStateOf start statuses a t → s ≡ t
one_state start statuses a (Finished m) (Finished n) x y =
    ap Finished (one_time start (status_at statuses x.0).day m n x.1.1 (subst (λ k. IsSixths start (status_at statuses k).day n) (first_unique _ y.0 x.0 y.1.0 x.1.0) y.1.1))
one_state start statuses a (Finished m) (Started n) x y = absurd (y.0 x.0 x.1.0.holds)
one_state start statuses a (Finished m) Waiting x y = absurd (y true x.0 x.1.0.holds)
one_state start statuses a (Started m) (Finished n) x y = absurd (x.0 y.0 y.1.0.holds)
one_state start statuses a (Started m) (Started n) x y =
    ap Started (one_time start (status_at statuses x.1.0).day m n x.1.1.1 (subst (λ k. IsSixths start (status_at statuses k).day n) (first_unique _ y.1.0 x.1.0 y.1.1.0 x.1.1.0) y.1.1.1))
one_state start statuses a (Started m) Waiting x y = absurd (y false x.1.0 x.1.1.0.holds)
one_state start statuses a Waiting (Finished n) x y = absurd (x true y.0 y.1.0.holds)
one_state start statuses a Waiting (Started n) x y = absurd (x false y.1.0 y.1.1.0.holds)
one_state start statuses a Waiting Waiting x y = refl

-- and a number of activities has one list of states
pub one_progress : (start : ℤ) (statuses : List StatusRow) (activities : ℕ) (xs ys : List ActState) → length xs ≡ activities →
    length ys ≡ activities → ((a : ℕ) → a < activities → IsStateOf start statuses a (state_at xs a)) →
    ((a : ℕ) → a < activities → IsStateOf start statuses a (state_at ys a)) → xs ≡ ys
one_progress start statuses activities xs ys count also x y =
    ext_get_or Waiting xs ys (count ∙ sym also)
    (λ a within. one_state start statuses a (state_at xs a) (state_at ys a) (x a (omega (arith, within, count))) (y a (omega (arith, within, count))))
