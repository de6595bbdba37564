-- How the passes over budgets and costs find the sums of each item.
use Rattle.std.proofs.Common.{◌≡◌, ◌≢◌, ℕ, ◌+◌, ◌*◌, ◌<◌, ◌≤◌, ⊎_elim, Bool, cond, ◌==◌, List, length, get_or, set, take, Option, Some, None, refl}
use Rattle.std.proofs.Common.{sym, ap, ◌∙◌, subst, get_or-set_same, get_or-set_other, length-set, below_more, Fits, w64, unwrap_or, arith}
use Rattle.std.specs.Prelude.{slice_index}
use Rattle.std.proofs.lemmas.Bool.{cases_eq, eq-eqb, ne_eqb}
use Rattle.std.proofs.Math.Seq.{take-length}
use Rattle.std.proofs.lemmas.List.{get_or_default}
use Rattle.pc_model.specs.Greatest.{IsFirst}
use Rattle.pc_model.specs.declared.limits.TheConstants.{MAX_COST, MAX_ACTIVITIES}
use Rattle.pc_accounts.specs.declared.book.AcctRow.{AcctRow}
use Rattle.pc_accounts.specs.declared.packages.WorkRow.{WorkRow}
use Rattle.pc_accounts.specs.Amounts.{AreBudgets, item_of, budget_of}
use Rattle.pc_accounts.specs.Packages.{budgets_of, costs_of, work_at, IsUneven}
use Rattle.pc_accounts.specs.inside.Packages.{AreWork}
use Rattle.pc_accounts.specs.inside.Parts.{option_at, AreBudgetSums, CostBelow, AreCostSums}
use Rattle.pc_accounts.proofs.PartLaws.{part_more, part_le}

-- no item's budgets are more than this many accounts can have
pub budgets_fit : (items : ℕ) (accounts : List AcctRow) (i item : ℕ) (sums : List ℕ) → AreBudgets accounts →
    AreBudgetSums items accounts i sums → i ≤ length accounts → item < items → slice_index sums item ≤ i * MAX_COST
budgets_fit items accounts i item sums small so_far within lt =
    omega (arith, so_far.each item lt, part_le (λ (row : AcctRow). row.budget) (λ row. row.item == item) accounts (record { item = 0; budget = 0 }) MAX_COST i within small)

-- an account's budget is added to its item
pub AreBudgetSums-more : (items : ℕ) (accounts : List AcctRow) (i : ℕ) (sums : List ℕ) → item_of accounts i < items →
    AreBudgetSums items accounts i sums → i < length accounts →
    AreBudgetSums items accounts (i + 1) (set sums (item_of accounts i) (slice_index sums (item_of accounts i) + budget_of accounts i))
AreBudgetSums-more items accounts i sums known so_far h = record {
  one_each = length-set sums own _ ∙ so_far.one_each;
  each = λ item lt. ⊎_elim (λ e. subst (λ k. slice_index (set sums own sum) k ≡ budgets_of (take (i + 1) accounts) k) e here) (λ ne. there item lt ne) (cases_eq own item);
}
  where
    own : ℕ
    own = item_of accounts i

    sum : ℕ
    sum = slice_index sums own + budget_of accounts i

    more : (item : ℕ) → budgets_of (take (i + 1) accounts) item ≡ budgets_of (take i accounts) item + cond (own == item) (budget_of accounts i) 0
    more item = part_more (λ (row : AcctRow). row.budget) (λ row. row.item == item) accounts i (record { item = 0; budget = 0 }) h

    here : slice_index (set sums own sum) own ≡ budgets_of (take (i + 1) accounts) own
    here =
        let put : slice_index (set sums own sum) own ≡ sum = get_or-set_same sums own sum 0 (omega (arith, known, so_far.one_each)) in
        omega (arith, put, so_far.each own known, more own, ap (λ (b : Bool). cond b (budget_of accounts i) 0) (eq-eqb own own refl))

    there : (item : ℕ) → item < items → own ≢ item → slice_index (set sums own sum) item ≡ budgets_of (take (i + 1) accounts) item
    there item lt ne =
        let other : slice_index (set sums own sum) item ≡ slice_index sums item = get_or-set_other sums own item sum 0 (λ e. ne (sym e)) in
        omega (arith, other, so_far.each item lt, more item, ap (λ (b : Bool). cond b (budget_of accounts i) 0) (ne_eqb own item ne))

-- one activity more
cost_more : (work : List WorkRow) (item i : ℕ) → i < length work → costs_of (take (i + 1) work) item ≡ costs_of (take i work) item + cond ((work_at work i).item == item) (work_at work i).cost 0
cost_more work item i h =
    part_more (λ (row : WorkRow). row.cost) (λ row. row.item == item) work i (record { item = 0; cost = 0 }) h

-- what an item has so far, or 0 for none
cost_so_far : (work : List WorkRow) (item i : ℕ) (o : Option ℕ) → CostBelow work item i o → unwrap_or o 0 ≡ costs_of (take i work) item
cost_so_far work item i None (none, zero_is) = sym zero_is
cost_so_far work item i (Some cost) (has, e) = e

CostBelow-here : (work : List WorkRow) (item i : ℕ) (o : Option ℕ) → i < length work → (work_at work i).item ≡ item →
    CostBelow work item i o → CostBelow work item (i + 1) (Some (unwrap_or o 0 + (work_at work i).cost))
CostBelow-here work item i o h e so_far =
    ((i, (omega arith, e)), omega (arith, cost_so_far work item i o so_far, cost_more work item i h, ap (λ (b : Bool). cond b (work_at work i).cost 0) (eq-eqb (work_at work i).item item e)))

CostBelow-there : (work : List WorkRow) (item i : ℕ) (o : Option ℕ) → i < length work → (work_at work i).item ≢ item → CostBelow work item i o → CostBelow work item (i + 1) o
CostBelow-there work item i None h ne (none, zero_is) =
    (below_more _ _ none ne, omega (arith, zero_is, cost_more work item i h, ap (λ (b : Bool). cond b (work_at work i).cost 0) (ne_eqb (work_at work i).item item ne)))
CostBelow-there work item i (Some cost) h ne ((k, (lt, e)), is) =
    ((k, (omega arith, e)), omega (arith, is, cost_more work item i h, ap (λ (b : Bool). cond b (work_at work i).cost 0) (ne_eqb (work_at work i).item item ne)))

-- an activity's cost is added to its item
pub AreCostSums-more : (items : ℕ) (work : List WorkRow) (i : ℕ) (sums : List (Option ℕ)) → AreWork items work →
    AreCostSums items work i sums → i < length work →
    AreCostSums items work (i + 1) (set sums (work_at work i).item
    (Some (unwrap_or (option_at sums (work_at work i).item) 0 + (work_at work i).cost)))
AreCostSums-more items work i sums rows so_far h = record {
  one_each = length-set sums own _ ∙ so_far.one_each;
  each = λ item lt. ⊎_elim (λ e. here item lt e) (λ ne. there item lt ne) (cases_eq own item);
}
  where
    own : ℕ
    own = (work_at work i).item

    sum : Option ℕ
    sum = Some (unwrap_or (option_at sums own) 0 + (work_at work i).cost)

    here : (item : ℕ) → item < items → own ≡ item → CostBelow work item (i + 1) (option_at (set sums own sum) item)
    here item lt e =
        let known : own < length sums = omega (arith, rows.known i h, so_far.one_each) in
        let put = get_or-set_same sums own sum None known in
        rw (← e, put) (CostBelow-here work own i (option_at sums own) h refl (so_far.each own (omega (arith, rows.known i h))))

    there : (item : ℕ) → item < items → own ≢ item → CostBelow work item (i + 1) (option_at (set sums own sum) item)
    there item lt ne =
        let other : item ≢ own = λ e. ne (sym e) in
        rw (get_or-set_other sums own item sum None other) (CostBelow-there work item i (option_at sums item) h ne (so_far.each item lt))

-- an item's sum leaves capacity for one cost more
pub cost_fits : (items : ℕ) (work : List WorkRow) (i item sum : ℕ) (o : Option ℕ) (sums : List (Option ℕ)) → length work ≤ MAX_ACTIVITIES →
    AreWork items work → AreCostSums items work i sums → i < length work → item ≡ (work_at work i).item → o ≡ get_or sums item o →
    sum ≡ unwrap_or o 0 → Fits w64 (sum + (work_at work i).cost)
cost_fits items work i item sum o sums few rows so_far h own read is =
    let known : item < items = omega (arith, rows.known i h) in
    let value : option_at sums item ≡ o = get_or_default sums item None o (omega (arith, so_far.one_each)) ∙ sym read in
    let small = part_le (λ (row : WorkRow). row.cost) (λ row. row.item == item) work (record { item = 0; cost = 0 }) MAX_COST i (omega arith) rows.small in
    omega (arith, few, is, ap (λ (q : Option ℕ). unwrap_or q 0) value, cost_so_far work item i (option_at sums item) (so_far.each item known), small, rows.small i h)

-- an item whose sums were read and are the same is even
pub even_here : (accounts : List AcctRow) (work : List WorkRow) (items i : ℕ) (budgets : List ℕ) (costs : List (Option ℕ)) (o : Option ℕ)
    (sum : ℕ) → AreBudgetSums items accounts (length accounts) budgets → AreCostSums items work (length work) costs → i < items →
    o ≡ get_or costs i o → sum ≡ get_or budgets i sum → ((cost : ℕ) → o ≡ Some cost → cost ≡ sum) → IsUneven accounts work i → ⊥
even_here accounts work items i budgets costs o sum a b lt read read_sum same ((k, known, e), differ) =
    by_option o refl
  where
    cost_at : CostBelow work i (length work) o
    cost_at = let at : option_at costs i ≡ o = get_or_default costs i None o (omega (arith, b.one_each)) ∙ sym read in rw at at (b.each i lt)

    budget_at : sum ≡ budgets_of accounts i
    budget_at =
        let at : slice_index budgets i ≡ sum = get_or_default budgets i 0 sum (omega (arith, a.one_each)) ∙ sym read_sum in
        sym at ∙ a.each i lt ∙ ap (λ (xs : List AcctRow). budgets_of xs i) (take-length accounts)

    by_option : (q : Option ℕ) → o ≡ q → ⊥
    by_option None is = let none : CostBelow work i (length work) None = subst (CostBelow work i (length work)) is cost_at in none.0 k known e
    by_option (Some cost) is =
        let has : CostBelow work i (length work) (Some cost) = subst (CostBelow work i (length work)) is cost_at in
        differ (sym budget_at ∙ sym (same cost is) ∙ has.1 ∙ ap (λ (xs : List WorkRow). costs_of xs i) (take-length work))

-- an item whose sums were read and differ is the first uneven one, where none before it is
pub uneven_here : (accounts : List AcctRow) (work : List WorkRow) (items i : ℕ) (budgets : List ℕ) (costs : List (Option ℕ)) (sum cost : ℕ) →
    AreBudgetSums items accounts (length accounts) budgets → AreCostSums items work (length work) costs → i < items →
    Some cost ≡ get_or costs i (Some cost) → sum ≡ get_or budgets i sum → cost ≢ sum → ((j : ℕ) → j < i → IsUneven accounts work j → ⊥) →
    IsFirst (IsUneven accounts work) i × (sum ≡ budgets_of accounts i) × (cost ≡ costs_of work i)
uneven_here accounts work items i budgets costs sum cost a b lt read read_sum differ first =
    let at : option_at costs i ≡ Some cost = get_or_default costs i None (Some cost) (omega (arith, b.one_each)) ∙ sym read in
    let has : CostBelow work i (length work) (Some cost) = subst (CostBelow work i (length work)) at (b.each i lt) in
    let spent : cost ≡ costs_of work i = has.1 ∙ ap (λ (xs : List WorkRow). costs_of xs i) (take-length work) in
    let there : slice_index budgets i ≡ sum = get_or_default budgets i 0 sum (omega (arith, a.one_each)) ∙ sym read_sum in
    let given : sum ≡ budgets_of accounts i = sym there ∙ a.each i lt ∙ ap (λ (xs : List AcctRow). budgets_of xs i) (take-length accounts) in
    (record { holds = ((has.0.0, has.0.1.0, has.0.1.1), λ same. differ (spent ∙ sym same ∙ sym given)); first = first }, given, spent)
