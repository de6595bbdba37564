-- Which packages are finished, and what accounts are worth, made one after the other.
use Rattle.std.proofs.Common.{◌≡◌, ◌≢◌, ℕ, zero, suc, ◌+◌, ◌*◌, ◌/◌, ◌<◌, ◌≤◌, ◌⊎◌, inl, inr, ⊎_elim, Bool, true, false, IsTrue, ◌&&◌, ◌↔◌, List, length, map}
use Rattle.std.proofs.Common.{slice_index, set, Option, Some, None, unwrap_or, refl, sym, ap, ◌∙◌, subst, get_or-set_same, get_or-set_other, length-set, arith}
use Rattle.std.specs.Prelude.{ℤ, pos, ◌+ℤ◌, ◌-ℤ◌, unsigned_abs}
use Rattle.std.specs.List.{range_with_len}
use Rattle.std.proofs.lemmas.Bool.{cases_eq, ne_eqb}
use Rattle.std.proofs.lemmas.Int.{ints}
use Rattle.std.proofs.lemmas.List.FromFn.{get_or-map-range_with_len, length-map-range_with_len}
use Rattle.std.proofs.Math.Nat.{div-le_of_le-mul, mul_comm, mul-le-mul_left}
use Rattle.pc_model.specs.declared.limits.TheConstants.{MAX_COST}
use Rattle.pc_wbs.specs.declared.tree.ItemRow.{ItemRow}
use Rattle.pc_accounts.specs.declared.book.AcctRow.{AcctRow}
use Rattle.pc_accounts.specs.declared.book.Entry.{Entry}
use Rattle.pc_accounts.specs.Amounts.{item_of}
use Rattle.pc_accounts.specs.Entries.{entry_at, latest_of, value_of, AreEntriesWithinLimits, IsEntryWithinLimits}
use Rattle.pc_rollup.specs.inside.Amounts.{IsSum}
use Rattle.pc_rollup.specs.Totals.{amount_at}
use Rattle.pc_times.specs.declared.forecasts.ActState.{ActState}
use Rattle.pc_times.specs.Forecast.{state_at}
use Rattle.pc_rollup.specs.declared.figures.worth.WorthAmounts.{WorthAmounts}
use Rattle.pc_rollup.specs.figures.Columns.{AreOnTree}
use Rattle.pc_rollup.specs.figures.Packages.{IsFinished, IsFinishedPackage, IsValueOf, AreValues, overrun_at}
use Rattle.pc_rollup.specs.figures.Worth.{IsWorthOf}
use Rattle.pc_rollup.specs.inside.figures.Columns.{AreSumsByItem, worth_columns}
use Rattle.pc_rollup.specs.inside.figures.Packages.{IsProgress, progress_at, AreProgress, worth_at, worth_of}
use Rattle.pc_rollup.proofs.ColumnLaws.{Fit}
use Rattle.pc_rollup.proofs.lemmas.figures.AmountLaws.{amounts_fit}
use Rattle.pc_rollup.proofs.lemmas.figures.SumLaws.{item_sums_alike}

-- a test that failed did not pass
never : IsTrue false → ⊥
never is = cc

-- one activity more on the item
progress_here : (places : List ℕ) (states : List ActState) (n x : ℕ) (o : Option Bool) (done : Bool) →
    (IsTrue done ↔ IsFinished (state_at states n)) → slice_index places n ≡ x → IsProgress places states n x o →
    IsProgress places states (n + 1) x (Some (unwrap_or o true && done))
progress_here places states n x None true tells here none =
    ((n, (omega arith, here)), λ a lt on. ⊎_elim (λ e. subst (λ (k : ℕ). IsFinished (state_at states k)) (sym e) (tells.0 refl)) (λ ne. absurd (none a (omega arith) on)) (cases_eq a n))
progress_here places states n x (Some true) true tells here (some, all) =
    ((n, (omega arith, here)), λ a lt on. ⊎_elim (λ e. subst (λ (k : ℕ). IsFinished (state_at states k)) (sym e) (tells.0 refl)) (λ ne. all a (omega arith) on) (cases_eq a n))
progress_here places states n x (Some false) true tells here (a, (lt, on, not)) = (a, (omega arith, on, not))
progress_here places states n x None false tells here none = (n, (omega arith, here, λ is. never (tells.1 is)))
progress_here places states n x (Some true) false tells here both = (n, (omega arith, here, λ is. never (tells.1 is)))
progress_here places states n x (Some false) false tells here (a, (lt, on, not)) = (a, (omega arith, on, not))

-- one activity more on another item
progress_there : (places : List ℕ) (states : List ActState) (n x : ℕ) (o : Option Bool) → slice_index places n ≢ x → IsProgress places states n x o → IsProgress places states (n + 1) x o
progress_there places states n x None apart none = λ a lt on. ⊎_elim (λ e. apart (subst (λ (k : ℕ). slice_index places k ≡ x) e on)) (λ ne. none a (omega arith) on) (cases_eq a n)
progress_there places states n x (Some true) apart ((b, (below, on)), all) =
    ((b, (omega arith, on)), λ a lt at. ⊎_elim (λ e. absurd (apart (subst (λ (k : ℕ). slice_index places k ≡ x) e at))) (λ ne. all a (omega arith) at) (cases_eq a n))
progress_there places states n x (Some false) apart (a, (lt, on, not)) = (a, (omega arith, on, not))

-- one activity more
pub progress_more : (items : ℕ) (places : List ℕ) (states : List ActState) (n x : ℕ) (progress : List (Option Bool)) (o : Option Bool)
    (done : Bool) → AreProgress items places states n progress → x ≡ slice_index places n → x < items → o ≡ progress_at progress x →
    (IsTrue done ↔ IsFinished (state_at states n)) →
    AreProgress items places states (n + 1) (set progress x (Some (unwrap_or o true && done)))
progress_more items places states n x progress o done so_far place known read tells = record {
  one_each = length-set progress x (Some (unwrap_or o true && done)) ∙ so_far.one_each;
  each = λ y lt. ⊎_elim (λ e. here y e) (λ ne. there y lt ne) (cases_eq x y);
}
  where
    here : (y : ℕ) → x ≡ y → IsProgress places states (n + 1) y (progress_at (set progress x (Some (unwrap_or o true && done))) y)
    here y e =
        let known_at : x < length progress = omega (arith, so_far.one_each, known) in
        rw (← e, get_or-set_same progress x (Some (unwrap_or o true && done)) None known_at, read)
        (progress_here places states n x (progress_at progress x) done tells (sym place) (so_far.each x known))

    there : (y : ℕ) → y < items → x ≢ y → IsProgress places states (n + 1) y (progress_at (set progress x (Some (unwrap_or o true && done))) y)
    there y lt ne =
        let other : y ≢ x = λ e. ne (sym e) in
        rw (get_or-set_other progress x y (Some (unwrap_or o true && done)) None other) (progress_there places states n y (progress_at progress y) (λ e. ne (place ∙ e)) (so_far.each y lt))

-- the progress over all activities shows whether the package is finished
finished_is : (places : List ℕ) (states : List ActState) (x : ℕ) (o : Option Bool) → IsProgress places states (length places) x o →
    (IsTrue (unwrap_or o false) → IsFinishedPackage places states x)
    × (IsTrue (unwrap_or o false) ⊎ (IsFinishedPackage places states x → ⊥))
finished_is places states x None none =
    (λ is. absurd (never is), inr (λ finished. let (a, (lt, on)) = finished.some in none a lt on))
finished_is places states x (Some true) (some, all) = (λ is. record { some = some; all = all }, inl refl)
finished_is places states x (Some false) (a, (lt, on, not)) =
    (λ is. absurd (never is), inr (λ finished. not (finished.all a lt on)))

-- the value of an account, where that is known of its item
pub value_is : (places : List ℕ) (states : List ActState) (accounts : List AcctRow) (entries : List Entry) (a x : ℕ) (o : Option Bool)
    (v : ℕ) → x ≡ item_of accounts a → IsProgress places states (length places) x o →
    v ≡ value_of (unwrap_or o false) (entry_at entries a) → IsValueOf places states accounts entries a (pos v)
value_is places states accounts entries a x o v place is worth =
    by_test (unwrap_or o false) refl (finished_is places states x o is)
  where
    by_test : (b : Bool) → unwrap_or o false ≡ b →
        (IsTrue (unwrap_or o false) → IsFinishedPackage places states x)
        × (IsTrue (unwrap_or o false) ⊎ (IsFinishedPackage places states x → ⊥)) → IsValueOf places states accounts entries a (pos v)
    by_test true same (yes_it, either) =
        inl (subst (IsFinishedPackage places states) place (yes_it (subst IsTrue (sym same) refl)), ap pos (worth ∙ ap (λ (b : Bool). value_of b (entry_at entries a)) same))
    by_test false same (yes_it, inl is_true) = absurd (never (subst IsTrue same is_true))
    by_test false same (yes_it, inr no_it) =
        inr (λ finished. no_it (subst (IsFinishedPackage places states) (sym place) finished), ap pos (worth ∙ ap (λ (b : Bool). value_of b (entry_at entries a)) same))

-- no value is greater than the budget
value_small : (finished : Bool) (entry : Entry) → value_of finished entry ≤ entry.budget
value_small true entry = omega arith
value_small false entry =
    ⊎_elim (λ e. rw e (omega arith)) (λ ne. rw (ne_eqb (latest_of entry) 0 ne) (rounded (mul-le-mul_left entry.budget (le_add entry.actual entry.to_go)))) (cases_eq (latest_of entry) 0)
  where
    le_add : (m n : ℕ) → m ≤ m + n
    le_add m n = omega arith

    rounded : entry.budget * entry.actual ≤ entry.budget * latest_of entry → entry.budget * entry.actual / latest_of entry ≤ entry.budget
    rounded le =
        div-le_of_le-mul (latest_of entry) (subst (λ (n : ℕ). entry.budget * entry.actual ≤ n) (mul_comm entry.budget (latest_of entry)) le)

-- nor is any other amount greater than what was spent and what an account may spend
worth_small : (finished : Bool) (entry : Entry) → IsEntryWithinLimits entry → (c : ℕ) → unsigned_abs (amount_at (worth_columns (worth_of finished entry)) c) ≤ entry.actual + 2 * MAX_COST
worth_small finished entry small zero = omega (arith, small.budget)
worth_small finished entry small (suc zero) = omega arith
worth_small finished entry small (suc (suc zero)) = omega (arith, small.budget, value_small finished entry)
worth_small finished entry small (suc (suc (suc zero))) =
    omega (arith, ints, small.budget, value_small finished entry)
worth_small finished entry small (suc (suc (suc (suc c)))) = omega arith

pub worth_fits : (progress : List (Option Bool)) (accounts : List AcctRow) (entries : List Entry) → AreEntriesWithinLimits entries →
    length entries ≡ length accounts → Fit worth_columns (item_of accounts) (worth_at progress accounts entries) (length accounts)
worth_fits progress accounts entries small count c =
    amounts_fit (λ a. amount_at (worth_columns (worth_at progress accounts entries a)) c) entries (length accounts) small count
    (λ a lt. worth_small (unwrap_or (progress_at progress (item_of accounts a)) false) (entry_at entries a) (small.each a lt) c)

-- the values of the accounts, from the progress of all items
abbrev pub values_of : List (Option Bool) → List AcctRow → List Entry → List ℤ
values_of progress accounts entries =
    map (λ a. (worth_at progress accounts entries a).value) (range_with_len 0 (length accounts))

value_at : (progress : List (Option Bool)) (accounts : List AcctRow) (entries : List Entry) (a : ℕ) → a < length accounts →
    amount_at (values_of progress accounts entries) a ≡ (worth_at progress accounts entries a).value
value_at progress accounts entries a lt =
    get_or-map-range_with_len (λ a. (worth_at progress accounts entries a).value) 0 (length accounts) a a (pos 0) lt (omega arith)

values_are : (items : ℕ) (places : List ℕ) (states : List ActState) (progress : List (Option Bool)) (accounts : List AcctRow) (entries : List Entry) →
    AreProgress items places states (length places) progress → ((a : ℕ) → a < length accounts → item_of accounts a < items) →
    AreValues places states accounts entries (values_of progress accounts entries)
values_are items places states progress accounts entries are known = record {
  one_each = length-map-range_with_len (λ a. (worth_at progress accounts entries a).value) 0 (length accounts);
  each = λ a lt. subst (IsValueOf places states accounts entries a) (sym (value_at progress accounts entries a lt))
      (value_is places states accounts entries a (item_of accounts a) (progress_at progress (item_of accounts a))
      (value_of (unwrap_or (progress_at progress (item_of accounts a)) false) (entry_at entries a)) refl (are.each (item_of accounts a) (known a lt)) refl);
}

-- the sums by item of the values of accounts
pub worth_is : (tree : List ItemRow) (places : List ℕ) (states : List ActState) (progress : List (Option Bool)) (accounts : List AcctRow) (entries : List Entry)
    (sums : List WorthAmounts) → AreProgress (length tree) places states (length places) progress → AreOnTree tree accounts →
    AreSumsByItem worth_columns tree accounts (worth_at progress accounts entries) sums →
    IsWorthOf tree places states accounts entries (record {
      budget = map (λ (w : WorthAmounts). w.budget) sums;
      actual = map (λ (w : WorthAmounts). w.actual) sums;
      value = map (λ (w : WorthAmounts). w.value) sums;
      overrun = map (λ (w : WorthAmounts). w.overrun) sums;
    })
worth_is tree places states progress accounts entries sums are on_tree summed = record {
  values = values_of progress accounts entries;
  are_values = values_are (length tree) places states progress accounts entries are on_tree.known;
  budget = summed 0;
  actual = summed 1;
  value = item_sums_alike tree accounts (λ a. (worth_at progress accounts entries a).value) (amount_at (values_of progress accounts entries)) _
      (λ a lt. sym (value_at progress accounts entries a lt)) (summed 2);
  overrun = item_sums_alike tree accounts (λ a. (worth_at progress accounts entries a).overrun) (overrun_at entries (values_of progress accounts entries)) _
      (λ a lt. ap (λ (z : ℤ). pos (entry_at entries a).actual -ℤ z) (sym (value_at progress accounts entries a lt))) (summed 3);
}

-- sums of each column
pub worth_sum : (a b sum : WorthAmounts) → sum.budget ≡ a.budget +ℤ b.budget → sum.actual ≡ a.actual +ℤ b.actual → sum.value ≡ a.value +ℤ b.value →
    sum.overrun ≡ a.overrun +ℤ b.overrun → IsSum (worth_columns a) (worth_columns b) (worth_columns sum)
worth_sum a b sum is_budget is_actual is_value is_overrun zero = is_budget
worth_sum a b sum is_budget is_actual is_value is_overrun (suc zero) = is_actual
worth_sum a b sum is_budget is_actual is_value is_overrun (suc (suc zero)) = is_value
worth_sum a b sum is_budget is_actual is_value is_overrun (suc (suc (suc zero))) = is_overrun
worth_sum a b sum is_budget is_actual is_value is_overrun (suc (suc (suc (suc c)))) = refl
