-- How an outlook is made from the costs of activities and the budgets of packages without activities.
use Rattle.std.proofs.Common.{◌≡◌, ◌≢◌, ℕ, zero, suc, ◌+◌, ◌-◌, ◌<◌, ◌≤◌, ◌^◌, ◌⊎◌, inl, inr, ⊎_elim, Bool, true, false, IsTrue, ◌↔◌, List, cond, ltb}
use Rattle.std.proofs.Common.{length, slice_index, set, refl, sym, ap, ◌∙◌, subst, get_or-set_same, get_or-set_other, length-set, arith}
use Rattle.std.specs.Prelude.{ℤ, pos, ◌+ℤ◌, unsigned_abs}
use Rattle.std.proofs.lemmas.Bool.{cases_eq, cases_lt, le-ltb, lt-ltb}
use Rattle.std.proofs.lemmas.Int.{ints}
use Rattle.std.proofs.lemmas.List.{get_or-map}
use Rattle.pc_model.specs.declared.limits.TheConstants.{MAX_COST}
use Rattle.pc_model.specs.Sums.{sum_to}
use Rattle.pc_model.proofs.Sums.{sum_to-le, sum_to-most, sum_to-split}
use Rattle.pc_wbs.specs.declared.tree.ItemRow.{ItemRow}
use Rattle.pc_wbs.specs.Climb.{AreInRange, IsBelow, IsLeaf, IsTree}
use Rattle.pc_wbs.proofs.OrderLaws.{IsBelow-top}
use Rattle.pc_accounts.specs.declared.book.Entry.{Entry}
use Rattle.pc_accounts.specs.declared.book.AcctRow.{AcctRow}
use Rattle.pc_accounts.specs.Amounts.{item_of}
use Rattle.pc_accounts.specs.Entries.{entry_at, AreEntriesWithinLimits, IsEntryWithinLimits}
use Rattle.pc_rollup.specs.Sums.{IsSumOver}
use Rattle.pc_rollup.specs.Totals.{amount_at}
use Rattle.pc_rollup.specs.inside.Amounts.{column_amounts, AreRolled, CanBeRolled, CanTake, HaveTaken, IsSum}
use Rattle.pc_rollup.proofs.SumLaws.{IsSumOver-amounts, IsSumOver-nothing, IsSumOver-only, IsSumOver-part, IsSumOver-plus, IsSumOver-same}
use Rattle.pc_rollup.proofs.ColumnLaws.{AreSummedTo, Fit, below_sum, can_roll, can_take, length_rolled, taken}
use Rattle.pc_rollup.specs.declared.figures.outlook.OutlookAmounts.{OutlookAmounts}
use Rattle.pc_rollup.specs.figures.Columns.{AreOnTree, IsItemSum}
use Rattle.pc_rollup.specs.figures.Figures.{budget_at}
use Rattle.pc_rollup.specs.figures.Outlook.{Outlook, AreAmountsOf, HasActivity, IsOutlookOf, IsRest, amounts_at}
use Rattle.pc_rollup.specs.inside.figures.Outlook.{HasWholeAtTop, StandOnLeaves}
use Rattle.pc_rollup.specs.inside.figures.OutlookParts.{AreMarked, AreOutlooks, HasActivityTo, account_outlook, activity_outlook, mark_at, outlook_columns, rest_of}

-- Sums

-- the first n numbers have one function, those after them another
abbrev pub joined : {X : Type 0} → ℕ → (ℕ → X) → (ℕ → X) → ℕ → X
joined n f g k = cond (ltb k n) (f k) (g (k - n))

module _ {X : Type 0} (n : ℕ) (f g : ℕ → X) where
  pub joined_low : (k : ℕ) → k < n → joined n f g k ≡ f k
  joined_low k lt = ap (λ (b : Bool). cond b (f k) (g (k - n))) (lt-ltb k n lt)

  pub joined_high : (a : ℕ) → joined n f g (n + a) ≡ g a
  joined_high a =
      let after : (n + a) - n ≡ a = omega arith in
      ap (λ (b : Bool). cond b (f (n + a)) (g ((n + a) - n))) (le-ltb (n + a) n (omega arith)) ∙ ap g after

-- a sum over the numbers of both is one over the first n and one over those after them
abbrev IsSplit : (ℕ → Type 0) → ℕ → ℕ → (ℕ → ℤ) → ℤ → Type 0
IsSplit P n m f t =
    (s : ℤ) × ((u : ℤ) × (IsSumOver P n f s × IsSumOver (λ a. P (n + a)) m (λ a. f (n + a)) u × (t ≡ s +ℤ u)))

split_sum : (P : ℕ → Type 0) (n m : ℕ) (f : ℕ → ℤ) (t : ℤ) → IsSumOver P (n + m) f t → IsSplit P n m f t
split_sum P n zero f t is =
    let none : n + 0 ≡ n = omega arith in
    (t, (pos 0, (subst (λ (k : ℕ). IsSumOver P k f t) none is, refl, omega (arith, ints))))
split_sum P n (suc m) f t is =
    let next : n + suc m ≡ suc (n + m) = omega arith in
    of_last (λ z over. split_sum P n m f z over) (subst (λ (k : ℕ). IsSumOver P k f t) next is)
  where
    of_last : ((z : ℤ) → IsSumOver P (n + m) f z → IsSplit P n m f z) → IsSumOver P (suc (n + m)) f t → IsSplit P n (suc m) f t
    of_last before (inl (p, (r, (over, e)))) =
        let (s, (u, (first, second, sum))) = before r over in
        (s, (u +ℤ f (n + m), (first, inl (p, (u, (second, refl))), omega (arith, ints))))
    of_last before (inr (none, over)) =
        let (s, (u, (first, second, sum))) = before t over in (s, (u, (first, inr (none, second), sum)))

-- sums of functions that agree on the numbers that count
pub IsSumOver-on : (P : ℕ → Type 0) (n : ℕ) (f g : ℕ → ℤ) (t : ℤ) → ((x : ℕ) → x < n → P x → f x ≡ g x) → IsSumOver P n f t → IsSumOver P n g t
IsSumOver-on P zero f g t same is = is
IsSumOver-on P (suc n) f g t same (inl (p, (r, (over, e)))) =
    inl (p, (r, (IsSumOver-on P n f g r (λ x h. same x (omega arith)) over, e ∙ ap (λ (z : ℤ). r +ℤ z) (same n (omega arith) p))))
IsSumOver-on P (suc n) f g t same (inr (none, over)) =
    inr (none, IsSumOver-on P n f g t (λ x h. same x (omega arith)) over)

-- a sum over all numbers below the count is the plain sum
pub IsSumOver-all : (P : ℕ → Type 0) (n : ℕ) (f : ℕ → ℕ) (t : ℤ) → ((x : ℕ) → x < n → P x) → IsSumOver P n (λ x. pos (f x)) t → t ≡ pos (sum_to n f)
IsSumOver-all P zero f t all is = is
IsSumOver-all P (suc n) f t all (inl (p, (r, (over, e)))) =
    let rest = IsSumOver-all P n f r (λ x h. all x (omega arith)) over in
    omega (arith, ints)
IsSumOver-all P (suc n) f t all (inr (none, over)) = absurd (none (all n (omega arith)))

-- Marks

-- a test that failed did not pass
never : IsTrue false → ⊥
never is = cc

-- nothing is marked before the first activity
pub marks_none : (items : ℕ) (places : List ℕ) (marks : List Bool) → length marks ≡ items → ((x : ℕ) → x < items → mark_at marks x ≡ false) → AreMarked items places 0 marks
marks_none items places marks count none = record {
  one_each = count;
  each = λ x lt. (λ is. absurd (never (subst IsTrue (none x lt) is)), λ (a, (below, at)). absurd (omega arith));
}

-- the item of one activity more is marked
pub marks_more : (items : ℕ) (places : List ℕ) (n x : ℕ) (marks : List Bool) → AreMarked items places n marks → x ≡ slice_index places n → x < items → AreMarked items places (n + 1) (set marks x true)
marks_more items places n x marks so_far place known = record {
  one_each = length-set marks x true ∙ so_far.one_each;
  each = λ y lt. ⊎_elim (λ e. here y e) (λ ne. there y lt ne) (cases_eq x y);
}
  where
    here : (y : ℕ) → x ≡ y → IsTrue (mark_at (set marks x true) y) ↔ HasActivityTo places (n + 1) y
    here y e =
        let known_at : x < length marks = omega (arith, so_far.one_each, known) in
        (λ is. (n, (omega arith, sym place ∙ e)), λ has. rw (← e) (get_or-set_same marks x true false known_at))

    there : (y : ℕ) → y < items → x ≢ y → IsTrue (mark_at (set marks x true) y) ↔ HasActivityTo places (n + 1) y
    there y lt ne =
        let other : y ≢ x = λ e. ne (sym e) in
        let same : mark_at (set marks x true) y ≡ mark_at marks y = get_or-set_other marks x y true false other in
        let (to, from) = so_far.each y lt in (
          λ is. let (a, (below, at)) = to (subst IsTrue same is) in (a, (omega arith, at)),
          λ (a, (below, at)). subst IsTrue (sym same) (from (⊎_elim (λ e. absurd (ne (place ∙ subst (λ (k : ℕ). slice_index places k ≡ y) e at))) (λ apart. (a, (omega arith, at))) (cases_eq a n))),
        )

-- What accounts and activities add

-- the item of each account and each activity, and what it adds
module _ (marks : List Bool) (places : List ℕ) (cost : ℕ → ℕ) (accounts : List AcctRow) (entries : List Entry) where
  abbrev pub account_adds : ℕ → OutlookAmounts
  account_adds b = account_outlook (mark_at marks (item_of accounts b)) (entry_at entries b)

  abbrev pub activity_adds : ℕ → OutlookAmounts
  activity_adds a = activity_outlook (cost a)

  abbrev pub place_added : ℕ → ℕ
  place_added = joined (length accounts) (item_of accounts) (slice_index places)

  abbrev pub added : ℕ → OutlookAmounts
  added = joined (length accounts) account_adds activity_adds

  abbrev pub AreAddedTo : ℕ → ℕ → List OutlookAmounts → Type 0
  AreAddedTo items n sums =
      AreSummedTo outlook_columns place_added added (length accounts + length places) items n sums

  -- no amount is too large
  rest_small : (has : Bool) (entry : Entry) → IsEntryWithinLimits entry → (c : ℕ) → unsigned_abs (amount_at (outlook_columns (account_outlook has entry)) c) ≤ MAX_COST
  rest_small has entry small zero = small.budget
  rest_small true entry small (suc zero) = omega arith
  rest_small false entry small (suc zero) = small.budget
  rest_small true entry small (suc (suc zero)) = omega (arith, ints, small.budget)
  rest_small false entry small (suc (suc zero)) = omega (arith, ints)
  rest_small has entry small (suc (suc (suc c))) = omega arith

  cost_small : (a c : ℕ) → unsigned_abs (amount_at (outlook_columns (activity_adds a)) c) ≤ cost a
  cost_small a zero = omega arith
  cost_small a (suc zero) = omega arith
  cost_small a (suc (suc zero)) = omega arith
  cost_small a (suc (suc (suc c))) = omega arith

  pub added_fits : AreEntriesWithinLimits entries → length entries ≡ length accounts → sum_to (length places) cost ≤ 2 ^ 60 →
      Fit outlook_columns place_added added (length accounts + length places)
  added_fits small count fit c =
      let size : OutlookAmounts → ℕ = λ o. unsigned_abs (amount_at (outlook_columns o) c) in
      let n = length accounts in
      let low = sum_to-most n MAX_COST (λ k. size (added k))
      (λ k lt. subst (λ (o : OutlookAmounts). size o ≤ MAX_COST) (sym (joined_low n account_adds activity_adds k lt))
      (rest_small (mark_at marks (item_of accounts k)) (entry_at entries k) (small.each k (omega arith)) c)) in
      let high = sum_to-le (length places) (λ a. size (added (n + a))) cost
      (λ a lt. subst (λ (o : OutlookAmounts). size o ≤ cost a) (sym (joined_high n account_adds activity_adds a)) (cost_small a c)) in
      omega (arith, sum_to-split n (length places) (λ k. size (added k)), low, high, small.few)

  module _ (tree : List ItemRow) (on_tree : AreOnTree tree accounts) (stand : StandOnLeaves tree places) where
    pub known : (k : ℕ) → k < length accounts + length places → place_added k < length tree
    known k lt =
        ⊎_elim (λ low. subst (λ (x : ℕ). x < length tree) (sym (joined_low (length accounts) (item_of accounts) (slice_index places) k low)) (on_tree.known k low))
        (λ high. rw (le-ltb k (length accounts) high) (stand.known (k - length accounts) (omega arith)))
        (cases_lt k (length accounts))

    leaves : (k : ℕ) → k < length accounts + length places → IsLeaf tree (place_added k)
    leaves k lt =
        ⊎_elim (λ low. subst (IsLeaf tree) (sym (joined_low (length accounts) (item_of accounts) (slice_index places) k low)) (on_tree.leaves k low))
        (λ high. rw (le-ltb k (length accounts) high) (stand.leaves (k - length accounts) (omega arith)))
        (cases_lt k (length accounts))

    -- an account's turn, and an activity's
    pub account_takes : (n : ℕ) (sums : List OutlookAmounts) → Fit outlook_columns place_added added (length accounts + length places) → n < length accounts →
        AreAddedTo (length tree) n sums → CanTake outlook_columns sums (item_of accounts n) (account_adds n)
    account_takes n sums fit lt so_far =
        subst (λ (o : OutlookAmounts). CanTake outlook_columns sums (item_of accounts n) o) (joined_low (length accounts) account_adds activity_adds n lt)
        (subst (λ (x : ℕ). CanTake outlook_columns sums x (added n)) (joined_low (length accounts) (item_of accounts) (slice_index places) n lt)
        (can_take outlook_columns place_added added (length accounts + length places) (length tree) n sums fit (omega arith) (known n (omega arith)) so_far))

    pub account_taken : (n : ℕ) (old new : List OutlookAmounts) → n < length accounts → AreAddedTo (length tree) n old →
        HaveTaken outlook_columns old (item_of accounts n) (account_adds n) new → AreAddedTo (length tree) (n + 1) new
    account_taken n old new lt so_far took =
        taken outlook_columns place_added added (length accounts + length places) (length tree) n old new (omega arith) (known n (omega arith)) so_far
        (subst (λ (o : OutlookAmounts). HaveTaken outlook_columns old (place_added n) o new) (sym (joined_low (length accounts) account_adds activity_adds n lt))
        (subst (λ (x : ℕ). HaveTaken outlook_columns old x (account_adds n) new) (sym (joined_low (length accounts) (item_of accounts) (slice_index places) n lt)) took))

    pub activity_takes : (a : ℕ) (sums : List OutlookAmounts) → Fit outlook_columns place_added added (length accounts + length places) → a < length places →
        AreAddedTo (length tree) (length accounts + a) sums → CanTake outlook_columns sums (slice_index places a) (activity_adds a)
    activity_takes a sums fit lt so_far =
        subst (λ (o : OutlookAmounts). CanTake outlook_columns sums (slice_index places a) o) (joined_high (length accounts) account_adds activity_adds a)
        (subst (λ (x : ℕ). CanTake outlook_columns sums x (added (length accounts + a))) (joined_high (length accounts) (item_of accounts) (slice_index places) a)
        (can_take outlook_columns place_added added (length accounts + length places) (length tree) (length accounts + a) sums fit (omega arith) (known (length accounts + a) (omega arith)) so_far))

    pub activity_taken : (a : ℕ) (old new : List OutlookAmounts) → a < length places → AreAddedTo (length tree) (length accounts + a) old →
        HaveTaken outlook_columns old (slice_index places a) (activity_adds a) new → AreAddedTo (length tree) (length accounts + (a + 1)) new
    activity_taken a old new lt so_far took =
        let next : length accounts + a + 1 ≡ length accounts + (a + 1) = omega arith in
        subst (λ (m : ℕ). AreAddedTo (length tree) m new) next
        (taken outlook_columns place_added added (length accounts + length places) (length tree) (length accounts + a) old new (omega arith) (known (length accounts + a) (omega arith)) so_far
        (subst (λ (o : OutlookAmounts). HaveTaken outlook_columns old (place_added (length accounts + a)) o new) (sym (joined_high (length accounts) account_adds activity_adds a))
        (subst (λ (x : ℕ). HaveTaken outlook_columns old x (activity_adds a) new) (sym (joined_high (length accounts) (item_of accounts) (slice_index places) a)) took)))

    pub all_roll : (n : ℕ) (sums : List OutlookAmounts) → Fit outlook_columns place_added added (length accounts + length places) → n ≡ length places →
        AreAddedTo (length tree) (length accounts + n) sums → CanBeRolled outlook_columns tree sums
    all_roll n sums fit all so_far =
        can_roll outlook_columns place_added added (length accounts + length places) tree known leaves (length accounts + n) sums fit (omega arith) so_far

    -- what an item has in a column is what accounts and what activities add
    parts : (sums totals : List OutlookAmounts) → AreAddedTo (length tree) (length accounts + length places) sums → AreRolled outlook_columns tree sums totals →
        (c y : ℕ) → y < length tree → (s : ℤ) × ((u : ℤ) × (IsItemSum tree accounts (λ b. amount_at (outlook_columns (account_adds b)) c) y s
        × IsSumOver (λ a. IsBelow tree (slice_index places a) y) (length places) (λ a. amount_at (outlook_columns (activity_adds a)) c) u
        × (amount_at (column_amounts outlook_columns c totals) y ≡ s +ℤ u)))
    parts sums totals so_far rolled c y lt =
        let n = length accounts in
        let of : ℕ → ℤ = λ k. amount_at (outlook_columns (added k)) c in
        let (s, (u, (first, second, sum))) = split_sum (λ k. IsBelow tree (place_added k) y) n (length places) of _
        (below_sum outlook_columns place_added added (n + length places) tree known leaves (n + length places) sums totals refl so_far rolled c y lt) in (
          s,
          (
            u,
            (
              IsSumOver-amounts (λ b. IsBelow tree (item_of accounts b) y) n of (λ b. amount_at (outlook_columns (account_adds b)) c) s
                  (λ k h. ap (λ (o : OutlookAmounts). amount_at (outlook_columns o) c) (joined_low n account_adds activity_adds k h))
                  (IsSumOver-same (λ k. IsBelow tree (place_added k) y) (λ b. IsBelow tree (item_of accounts b) y) n of s
                  (λ k h below. subst (λ (x : ℕ). IsBelow tree x y) (joined_low n (item_of accounts) (slice_index places) k h) below)
                  (λ k h below. subst (λ (x : ℕ). IsBelow tree x y) (sym (joined_low n (item_of accounts) (slice_index places) k h)) below) first),
              IsSumOver-amounts (λ a. IsBelow tree (slice_index places a) y) (length places) (λ a. of (n + a)) (λ a. amount_at (outlook_columns (activity_adds a)) c) u
                  (λ a h. ap (λ (o : OutlookAmounts). amount_at (outlook_columns o) c) (joined_high n account_adds activity_adds a))
                  (IsSumOver-same (λ a. IsBelow tree (place_added (n + a)) y) (λ a. IsBelow tree (slice_index places a) y) (length places) (λ a. of (n + a)) u
                  (λ a h below. subst (λ (x : ℕ). IsBelow tree x y) (joined_high n (item_of accounts) (slice_index places) a) below)
                  (λ a h below. subst (λ (x : ℕ). IsBelow tree x y) (sym (joined_high n (item_of accounts) (slice_index places) a)) below) second),
              sum,
            ),
          ),
        )

    -- the budgets that count are those of accounts without activities
    rest_is : AreMarked (length tree) places (length places) marks → (y : ℕ) (t : ℤ) →
        IsItemSum tree accounts (λ b. rest_of (mark_at marks (item_of accounts b)) (entry_at entries b)) y t → IsRest tree places accounts entries y t
    rest_is are y t sum =
        IsSumOver-on (λ b. (HasActivity places (item_of accounts b) → ⊥) × IsBelow tree (item_of accounts b) y) (length accounts)
        (λ b. rest_of (mark_at marks (item_of accounts b)) (entry_at entries b)) (budget_at entries) t
        (λ b lt (free, below). ⊎_elim (λ (has, is). absurd (free has)) (λ (without, is). is) (told b lt))
        (IsSumOver-part (λ b. IsBelow tree (item_of accounts b) y) (λ b. HasActivity places (item_of accounts b) → ⊥) (length accounts)
        (λ b. rest_of (mark_at marks (item_of accounts b)) (entry_at entries b)) t
        (λ b lt. ⊎_elim (λ (has, is). inr (λ free. free has, is)) (λ (without, is). inl without) (told b lt))
        sum)
      where
        by_mark : (b : ℕ) (mark : Bool) → (IsTrue mark ↔ HasActivity places (item_of accounts b)) →
            (HasActivity places (item_of accounts b) × (rest_of mark (entry_at entries b) ≡ pos 0))
            ⊎ ((HasActivity places (item_of accounts b) → ⊥) × (rest_of mark (entry_at entries b) ≡ budget_at entries b))
        by_mark b true tells = inl (tells.0 refl, refl)
        by_mark b false tells = inr (λ has. never (tells.1 has), refl)

        told : (b : ℕ) → b < length accounts →
            (HasActivity places (item_of accounts b) × (rest_of (mark_at marks (item_of accounts b)) (entry_at entries b) ≡ pos 0))
            ⊎ ((HasActivity places (item_of accounts b) → ⊥) × (rest_of (mark_at marks (item_of accounts b)) (entry_at entries b) ≡ budget_at entries b))
        told b lt = by_mark b (mark_at marks (item_of accounts b)) (are.each (item_of accounts b) (on_tree.known b lt))

    -- the sums by item are an outlook
    pub outlooks_are : (n : ℕ) (sums totals : List OutlookAmounts) → n ≡ length places → AreMarked (length tree) places (length places) marks →
        AreAddedTo (length tree) (length accounts + n) sums → AreRolled outlook_columns tree sums totals → AreOutlooks tree places cost accounts entries totals
    outlooks_are n sums totals all are so_far rolled = record {
      one_each = length_rolled outlook_columns tree sums totals rolled;
      each = of_item;
    }
      where
        of_item : (y : ℕ) → y < length tree → AreAmountsOf tree places cost accounts entries y (amounts_at totals y)
        of_item y lt =
            let long = length_rolled outlook_columns tree sums totals rolled in
            let none : OutlookAmounts = record { budget = pos 0; outlook = pos 0; change = pos 0 } in
            let whole = subst (λ (m : ℕ). AreAddedTo (length tree) (length accounts + m) sums) all so_far in
            let under : ℕ → Type 0 = λ a. IsBelow tree (slice_index places a) y in
            let above : ℕ → Type 0 = λ b. IsBelow tree (item_of accounts b) y in
            let (s, (u, (budgets, nothing, budget))) = parts sums totals whole rolled 0 y lt in
            let (rest, (work, (rests, works, outlook))) = parts sums totals whole rolled 1 y lt in
            let (less, (more, (changes, also, change))) = parts sums totals whole rolled 2 y lt in
            let at_budget = get_or-map (λ (o : OutlookAmounts). o.budget) totals y none (pos 0) (omega arith) in
            let at_outlook = get_or-map (λ (o : OutlookAmounts). o.outlook) totals y none (pos 0) (omega arith) in
            let at_change = get_or-map (λ (o : OutlookAmounts). o.change) totals y none (pos 0) (omega arith) in
            let empty = IsSumOver-only under (length places) (λ a. pos 0) u (pos 0) nothing (IsSumOver-nothing under (length places) (λ a. pos 0) u nothing) in
            let same = IsSumOver-only under (length places) (λ a. pos (cost a)) more work also works in
            let both = IsSumOver-only above (length accounts) (λ b. (account_adds b).outlook) (less +ℤ s) rest
            (IsSumOver-amounts above (length accounts) (λ b. (account_adds b).change +ℤ (account_adds b).budget) (λ b. (account_adds b).outlook) (less +ℤ s)
            (λ b h. omega (arith, ints)) (IsSumOver-plus above (length accounts) (λ b. (account_adds b).change) (λ b. (account_adds b).budget) less s changes budgets)) rests in
            record {
              budget = subst (IsItemSum tree accounts (budget_at entries) y) (omega (arith, ints, at_budget, budget, empty)) budgets;
              work = work;
              work_is = works;
              rest = rest;
              rest_is = rest_is are y rest rests;
              outlook = omega (arith, ints, at_outlook, outlook);
              change = omega (arith, ints, at_budget, at_outlook, at_change, budget, outlook, change, empty, same, both);
            }

-- The outlook

-- everything is below the top, so that the top has the complete outlook
pub whole_at_top : (tree : List ItemRow) (places : List ℕ) (cost : ℕ → ℕ) (accounts : List AcctRow) (entries : List Entry)
    (outlook : Outlook) → AreInRange tree → IsTree tree → StandOnLeaves tree places → AreOnTree tree accounts →
    IsOutlookOf tree places cost accounts entries outlook → HasWholeAtTop tree places cost accounts entries outlook
whole_at_top tree places cost accounts entries outlook ranged sound stand on_tree is = λ top is_top.
    let (only_top, only) = sound.top in
    let same : top ≡ only_top = only.only top is_top.0 is_top.1 in
    let at = is.each top is_top.0 in
    let work : at.work ≡ pos (sum_to (length places) cost) =
    IsSumOver-all (λ a. IsBelow tree (slice_index places a) top) (length places) cost at.work
    (λ a h. rw same (IsBelow-top tree only_top (slice_index places a) ranged sound only (stand.known a h))) at.work_is in
    record {
      rest = at.rest;
      rest_is = IsSumOver-same (λ b. (HasActivity places (item_of accounts b) → ⊥) × IsBelow tree (item_of accounts b) top)
          (λ b. HasActivity places (item_of accounts b) → ⊥) (length accounts) (budget_at entries) at.rest
          (λ b h (free, below). free)
          (λ b h free. (free, rw same (IsBelow-top tree only_top (item_of accounts b) ranged sound only (on_tree.known b h))))
          at.rest_is;
      sum = at.outlook ∙ ap (λ (z : ℤ). z +ℤ at.rest) work;
    }

-- the outlook at costs that are the same
pub outlook_alike : (tree : List ItemRow) (places : List ℕ) (f g : ℕ → ℕ) (accounts : List AcctRow) (entries : List Entry)
    (outlook : Outlook) → ((a : ℕ) → a < length places → f a ≡ g a) → IsOutlookOf tree places f accounts entries outlook →
    IsOutlookOf tree places g accounts entries outlook
outlook_alike tree places f g accounts entries outlook same is = record {
  outline = is.outline;
  one_each = is.one_each;
  each = of_item;
}
  where
    of_item : (y : ℕ) → y < length tree → AreAmountsOf tree places g accounts entries y (amounts_at outlook.amounts y)
    of_item y lt =
        let at = is.each y lt in record {
          budget = at.budget;
          work = at.work;
          work_is = IsSumOver-amounts (λ a. IsBelow tree (slice_index places a) y) (length places) (λ a. pos (f a)) (λ a. pos (g a)) at.work (λ a h. ap pos (same a h)) at.work_is;
          rest = at.rest;
          rest_is = at.rest_is;
          outlook = at.outlook;
          change = at.change;
        }

-- sums of each column
pub outlook_sum : (a b sum : OutlookAmounts) → sum.budget ≡ a.budget +ℤ b.budget → sum.outlook ≡ a.outlook +ℤ b.outlook → sum.change ≡ a.change +ℤ b.change →
    IsSum (outlook_columns a) (outlook_columns b) (outlook_columns sum)
outlook_sum a b sum is_budget is_outlook is_change zero = is_budget
outlook_sum a b sum is_budget is_outlook is_change (suc zero) = is_outlook
outlook_sum a b sum is_budget is_outlook is_change (suc (suc zero)) = is_change
outlook_sum a b sum is_budget is_outlook is_change (suc (suc (suc c))) = refl
