-- Accounts, charges and amounts to go make one book.
use Rattle.std.proofs.Common.{◌≡◌, ℕ, List, inl, inr, sym, ap, ◌∙◌, ℤ, ◌≤ℤ◌, arith}
use Rattle.std.proofs.lemmas.Bool.{cases_lt}
use Rattle.std.proofs.lemmas.Int.{ints}
use Rattle.std.proofs.lemmas.List.{ext_get_or}
use Rattle.pc_accounts.specs.declared.book.AcctRow.{AcctRow}
use Rattle.pc_accounts.specs.declared.book.MoneyRow.{MoneyRow}
use Rattle.pc_accounts.specs.declared.book.Entry.{Entry}
use Rattle.pc_accounts.specs.Entries.{entry_at}
use Rattle.pc_accounts.specs.Amounts.{money_at, AreEntriesOf, IsDue, IsEntryOf, IsToGo}
use Rattle.pc_accounts.specs.Second.{IsRepeated}
use Rattle.pc_accounts.proofs.EntryLaws.{same_entry}

-- row k is of account a and dated up to as-of, and none of these rows has a later date
abbrev IsLatest : List MoneyRow → ℤ → ℕ → ℕ → Type 0
IsLatest rows as_of a k = IsDue rows as_of a k × ((j : ℕ) → IsDue rows as_of a j → (money_at rows j).day ≤ℤ (money_at rows k).day)

-- where no account has two amounts to go of one day, the latest of an account is one
one_latest : (togos : List MoneyRow) → ((k : ℕ) → IsRepeated togos k → ⊥) → (as_of : ℤ) (a k j : ℕ) → IsLatest togos as_of a k → IsLatest togos as_of a j → k ≡ j
one_latest togos once as_of a k j (due, latest) (due', latest') =
    let account : (money_at togos k).account ≡ (money_at togos j).account = due.account ∙ sym due'.account in
    let day : (money_at togos k).day ≡ (money_at togos j).day = omega (arith, ints, latest j due', latest' k due) in
    elim (cases_lt k j) [
      | inl below ↦ absurd (once j (due'.in_rows, (k, record { later = below; account = sym account; day = sym day })))
      | inr over ↦ elim (cases_lt j k) [
        | inl below ↦ absurd (once k (due.in_rows, (j, record { later = below; account = account; day = day })))
        | inr under ↦ omega (arith, over, under)
      ]
    ]

-- so what is to go is one amount
one_to_go : (togos : List MoneyRow) → ((k : ℕ) → IsRepeated togos k → ⊥) → (as_of : ℤ) (a : ℕ) (e f : Entry) → e.budget ≡ f.budget →
    e.actual ≡ f.actual → IsToGo togos as_of a e → IsToGo togos as_of a f → e.to_go ≡ f.to_go
one_to_go togos once as_of a e f b c (inl (k, due, latest, x)) (inl (j, due', latest', y)) =
    x ∙ ap (λ k. (money_at togos k).amount) (one_latest togos once as_of a k j (due, latest) (due', latest')) ∙ sym y
one_to_go togos once as_of a e f b c (inl (k, due, latest, x)) (inr y) = absurd (y.0 k due)
one_to_go togos once as_of a e f b c (inr x) (inl (j, due, latest, y)) = absurd (x.0 j due)
one_to_go togos once as_of a e f b c (inr x) (inr y) = omega (arith, x.1, y.1, b, c)

-- an account has one entry
pub one_entry : (accounts : List AcctRow) (charges togos : List MoneyRow) → ((k : ℕ) → IsRepeated togos k → ⊥) →
    (as_of : ℤ) (a : ℕ) (e f : Entry) → IsEntryOf accounts charges togos as_of a e → IsEntryOf accounts charges togos as_of a f → e ≡ f
one_entry accounts charges togos once as_of a e f x y =
    let budget = x.budget ∙ sym y.budget in
    let actual = x.actual ∙ sym y.actual in
    same_entry budget actual (one_to_go togos once as_of a e f budget actual x.to_go y.to_go)

-- and all accounts have one list of entries
pub one_book : (accounts : List AcctRow) (charges togos : List MoneyRow) → ((k : ℕ) → IsRepeated togos k → ⊥) →
    (as_of : ℤ) (xs ys : List Entry) → AreEntriesOf accounts charges togos as_of xs → AreEntriesOf accounts charges togos as_of ys → xs ≡ ys
one_book accounts charges togos once as_of xs ys x y =
    ext_get_or (record { budget = 0; actual = 0; to_go = 0 }) xs ys (x.one_each ∙ sym y.one_each)
    (λ a within. one_entry accounts charges togos once as_of a (entry_at xs a) (entry_at ys a) (x.each a (omega (arith, within, x.one_each))) (y.each a (omega (arith, within, x.one_each))))
