-- The sums over all accounts: each charge up to as-of counts once.
use Rattle.std.proofs.Common.{◌≡◌, ℕ, zero, suc, ◌+◌, ◌<◌, ◌≤◌, ◌==◌, ◌&&◌, Bool, true, false, cond, List, length, take, refl, sym, ap, ◌∙◌, ℤ, arith}
use Rattle.std.specs.Prelude.{int_le, pos, sum_by}
use Rattle.std.proofs.Math.Seq.{take-length}
use Rattle.pc_model.specs.Sums.{sum_to}
use Rattle.pc_model.proofs.Sums.{sum_to-add, sum_to-same, sum_to-zero, sum_to-pick}
use Rattle.pc_accounts.specs.declared.book.AcctRow.{AcctRow}
use Rattle.pc_accounts.specs.declared.book.MoneyRow.{MoneyRow}
use Rattle.pc_accounts.specs.declared.book.Entry.{Entry}
use Rattle.pc_accounts.specs.Entries.{entry_at}
use Rattle.pc_accounts.specs.inside.Entries.{entry_of_all}
use Rattle.pc_accounts.specs.Amounts.{money_at, budget_of, actual_of, all_charged, AreEntriesOf, AreMoney, entry_of_project}
use Rattle.pc_accounts.proofs.EntryLaws.{same_entry}
use Rattle.pc_accounts.proofs.PartLaws.{part_more, part_sum}

when_due : (own : Bool) (amount : ℕ) → cond (own && true) amount 0 ≡ cond own amount 0
when_due true amount = refl
when_due false amount = refl

when_late : (own : Bool) (amount : ℕ) → cond (own && false) amount 0 ≡ 0
when_late true amount = refl
when_late false amount = refl

-- a charge counts at its own account and at no other
counts_once : (accounts account amount : ℕ) (due : Bool) → account < accounts → sum_to accounts (λ a. cond ((account == a) && due) amount 0) ≡ cond due amount 0
counts_once accounts account amount true known =
    sum_to-same accounts (λ a. cond ((account == a) && true) amount 0) (λ a. cond (account == a) amount 0) (λ a lt. when_due (account == a) amount)
    ∙ sum_to-pick accounts (λ a. amount) account known
counts_once accounts account amount false known =
    sum_to-zero accounts (λ a. cond ((account == a) && false) amount 0) (λ a lt. when_late (account == a) amount)

-- the charges of all accounts in the first i rows are the sum of these rows
charged_so_far : (accounts : ℕ) (charges : List MoneyRow) (as_of : ℤ) (i : ℕ) → AreMoney accounts charges → i ≤ length charges →
    sum_to accounts (actual_of (take i charges) as_of) ≡ all_charged (take i charges) as_of
charged_so_far accounts charges as_of zero money h =
    sum_to-zero accounts (actual_of (take 0 charges) as_of) (λ a lt. refl)
charged_so_far accounts charges as_of (suc i) money h =
    let e : suc i ≡ i + 1 = omega arith in
    rw e (omega (
      arith,
      sum_to-same accounts (actual_of (take (i + 1) charges) as_of) (λ a. actual_of (take i charges) as_of a + added a)
          (λ a lt. part_more (λ (row : MoneyRow). row.amount)
          (λ (row : MoneyRow). (row.account == a) && int_le row.day as_of) charges i none (omega arith)),
      sum_to-add accounts (actual_of (take i charges) as_of) added,
      charged_so_far accounts charges as_of i money (omega arith),
      counts_once accounts row.account row.amount (int_le row.day as_of) (money.known i (omega arith)),
      part_more (λ (row : MoneyRow). row.amount) (λ (row : MoneyRow). int_le row.day as_of) charges i none (omega arith),
    ))
  where
    none : MoneyRow
    none = record { account = 0; day = pos 0; amount = 0 }

    row : MoneyRow
    row = money_at charges i

    added : ℕ → ℕ
    added a = cond ((row.account == a) && int_le row.day as_of) row.amount 0

-- an amount of all entries, by their numbers
entries_sum : (f : Entry → ℕ) (entries : List Entry) → sum_by f entries ≡ sum_to (length entries) (λ a. f (entry_at entries a))
entries_sum f entries =
    ap (sum_by f) (sym (take-length entries)) ∙ part_sum f entries (record { budget = 0; actual = 0; to_go = 0 }) (length entries) (omega arith)

-- what all accounts have spent is the sum of all charges up to as-of
pub all_spent : (accounts : List AcctRow) (charges togos : List MoneyRow) (as_of : ℤ) (entries : List Entry) →
    AreMoney (length accounts) charges → AreEntriesOf accounts charges togos as_of entries →
    sum_by (λ (entry : Entry). entry.actual) entries ≡ all_charged charges as_of
all_spent accounts charges togos as_of entries money are =
    entries_sum (λ (entry : Entry). entry.actual) entries
    ∙ (ap (λ (n : ℕ). sum_to n (λ a. (entry_at entries a).actual)) are.one_each
    ∙ (sum_to-same (length accounts) (λ a. (entry_at entries a).actual) (actual_of charges as_of) (λ a lt. (are.each a lt).actual)
    ∙ (ap (λ (rows : List MoneyRow). sum_to (length accounts) (actual_of rows as_of)) (sym (take-length charges))
    ∙ (charged_so_far (length accounts) charges as_of (length charges) money (omega arith)
    ∙ ap (λ (rows : List MoneyRow). all_charged rows as_of) (take-length charges)))))

-- and what they may spend is what their cards say
all_budgets : (accounts : List AcctRow) (charges togos : List MoneyRow) (as_of : ℤ) (entries : List Entry) →
    AreEntriesOf accounts charges togos as_of entries →
    sum_by (λ (entry : Entry). entry.budget) entries ≡ sum_by (λ (account : AcctRow). account.budget) accounts
all_budgets accounts charges togos as_of entries are =
    entries_sum (λ (entry : Entry). entry.budget) entries
    ∙ (ap (λ (n : ℕ). sum_to n (λ a. (entry_at entries a).budget)) are.one_each
    ∙ (sum_to-same (length accounts) (λ a. (entry_at entries a).budget) (budget_of accounts) (λ a lt. (are.each a lt).budget)
    ∙ (sym (part_sum (λ (account : AcctRow). account.budget) accounts (record { item = 0; budget = 0 }) (length accounts) (omega arith))
    ∙ ap (sum_by (λ (account : AcctRow). account.budget)) (take-length accounts))))

-- so the sums over all entries are those of the project
pub entries_are_project : (accounts : List AcctRow) (charges togos : List MoneyRow) (as_of : ℤ) (entries : List Entry) →
    AreMoney (length accounts) charges → AreEntriesOf accounts charges togos as_of entries →
    entry_of_all entries ≡ entry_of_project accounts charges as_of entries
entries_are_project accounts charges togos as_of entries money are =
    same_entry (all_budgets accounts charges togos as_of entries are) (all_spent accounts charges togos as_of entries money are) refl
