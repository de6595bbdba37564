-- How great the amounts of accounts are together.
use Rattle.std.proofs.Common.{◌≡◌, ℕ, zero, suc, ◌+◌, ◌*◌, ◌<◌, ◌≤◌, ◌^◌, List, length, take, refl, ap, subst, arith}
use Rattle.std.specs.Prelude.{ℤ, ◌+ℤ◌, unsigned_abs, sum_by}
use Rattle.std.proofs.lemmas.Int.{ints}
use Rattle.std.proofs.lemmas.List.Sums.{sum_by_more, sum_by-take-le}
use Rattle.pc_model.specs.Sums.{sum_to}
use Rattle.pc_model.specs.declared.limits.TheConstants.{MAX_COST}
use Rattle.pc_accounts.specs.declared.book.Entry.{Entry}
use Rattle.pc_accounts.specs.Entries.{entry_at, AreEntriesWithinLimits, IsEntryWithinLimits}
use Rattle.pc_rollup.specs.declared.figures.summary.SummaryAmounts.{SummaryAmounts}
use Rattle.pc_rollup.specs.inside.Amounts.{IsSum}
use Rattle.pc_rollup.specs.Totals.{amount_at}
use Rattle.pc_rollup.specs.figures.Figures.{account_summary_at, amounts_of}
use Rattle.pc_rollup.specs.inside.figures.Columns.{summary_columns}
use Rattle.pc_rollup.proofs.ColumnLaws.{Fit}

-- the amounts of the first n accounts are together no more than what was spent on these, their budgets, and what is to go
within : (amount : ℕ → ℤ) (entries : List Entry) → ((a : ℕ) → a < length entries → unsigned_abs (amount a) ≤ (entry_at entries a).actual + 2 * MAX_COST) →
    (n : ℕ) → n ≤ length entries → sum_to n (λ a. unsigned_abs (amount a)) ≤ sum_by (λ (e : Entry). e.actual) (take n entries) + n * (2 * MAX_COST)
within amount entries each zero le = omega arith
within amount entries each (suc n) le =
    let next : n + 1 ≡ suc n = omega arith in
    let more = sum_by_more (λ (e : Entry). e.actual) entries n (record { budget = 0; actual = 0; to_go = 0 }) (omega arith) in
    let same = ap (λ (m : ℕ). sum_by (λ (e : Entry). e.actual) (take m entries)) next in
    omega (arith, within amount entries each n (omega arith), each n (omega arith), more, same)

-- all of them fit
pub amounts_fit : (amount : ℕ → ℤ) (entries : List Entry) (n : ℕ) → AreEntriesWithinLimits entries → length entries ≡ n →
    ((a : ℕ) → a < length entries → unsigned_abs (amount a) ≤ (entry_at entries a).actual + 2 * MAX_COST) →
    sum_to n (λ a. unsigned_abs (amount a)) < 2 ^ 63
amounts_fit amount entries n small count each =
    subst (λ (m : ℕ). sum_to m (λ a. unsigned_abs (amount a)) < 2 ^ 63) count
    (omega (arith, within amount entries each (length entries) (omega arith), small.together, small.few, sum_by-take-le (λ (e : Entry). e.actual) entries (length entries)))

-- no amount of an account is greater than what was spent, the budget and what is to go
summary_small : (entry : Entry) → IsEntryWithinLimits entry → (c : ℕ) → unsigned_abs (amount_at (summary_columns (amounts_of entry)) c) ≤ entry.actual + 2 * MAX_COST
summary_small entry small zero = omega (arith, small.budget)
summary_small entry small (suc zero) = omega arith
summary_small entry small (suc (suc zero)) = omega (arith, small.to_go)
summary_small entry small (suc (suc (suc zero))) = omega (arith, small.to_go)
summary_small entry small (suc (suc (suc (suc zero)))) = omega (arith, ints, small.budget, small.to_go)
summary_small entry small (suc (suc (suc (suc (suc c))))) = omega arith

pub summary_fits : (place : ℕ → ℕ) (entries : List Entry) (n : ℕ) → AreEntriesWithinLimits entries → length entries ≡ n → Fit summary_columns place (account_summary_at entries) n
summary_fits place entries n small count c =
    amounts_fit (λ a. amount_at (summary_columns (account_summary_at entries a)) c) entries n small count (λ a lt. summary_small (entry_at entries a) (small.each a lt) c)

-- sums of each column
pub summary_sum : (a b sum : SummaryAmounts) → sum.budget ≡ a.budget +ℤ b.budget → sum.actual ≡ a.actual +ℤ b.actual → sum.to_go ≡ a.to_go +ℤ b.to_go →
    sum.latest ≡ a.latest +ℤ b.latest → sum.overrun ≡ a.overrun +ℤ b.overrun → IsSum (summary_columns a) (summary_columns b) (summary_columns sum)
summary_sum a b sum is_budget is_actual is_to_go is_latest is_overrun zero = is_budget
summary_sum a b sum is_budget is_actual is_to_go is_latest is_overrun (suc zero) = is_actual
summary_sum a b sum is_budget is_actual is_to_go is_latest is_overrun (suc (suc zero)) = is_to_go
summary_sum a b sum is_budget is_actual is_to_go is_latest is_overrun (suc (suc (suc zero))) = is_latest
summary_sum a b sum is_budget is_actual is_to_go is_latest is_overrun (suc (suc (suc (suc zero)))) = is_overrun
summary_sum a b sum is_budget is_actual is_to_go is_latest is_overrun (suc (suc (suc (suc (suc c))))) = refl
