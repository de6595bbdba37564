-- Amounts that are added column by column, and their sums on items.
use Rattle.std.proofs.Common.{◌≡◌, ℕ, zero, suc, ◌+◌, ◌<◌, ◌≤◌, ◌^◌, List, [], ◌∷◌, ◌++◌, drop, length, get_or, set, take, map, replicate, Some, None, refl, sym, ap, ◌∙◌, subst, arith}
use Rattle.std.specs.Prelude.{ℤ, pos, ◌+ℤ◌, unsigned_abs, slice_index, sum_by}
use Rattle.std.specs.List.{range_with_len}
use Rattle.std.proofs.lemmas.List.{get_or-map, get_or-replicate, length-map, length-replicate, length-set, map-set}
use Rattle.std.proofs.lemmas.List.FromFn.{get_or-map-range_with_len, length-map-range_with_len, sum_by-map-range_with_len_more}
use Rattle.std.proofs.lemmas.List.Folds.{sum_by-replicate}
use Rattle.std.proofs.lemmas.List.Sums.{sum_by-take-le}
use Rattle.std.proofs.Math.Seq.{take_at}
use Rattle.pc_model.specs.Sums.{sum_to}
use Rattle.pc_wbs.specs.declared.tree.ItemRow.{ItemRow}
use Rattle.pc_wbs.specs.Climb.{parent_of, AreInRange, IsBelow, IsLeaf, IsTree}
use Rattle.pc_wbs.specs.Preorder.{IsPreorder}
use Rattle.pc_wbs.proofs.OrderLaws.{parent-inside}
use Rattle.pc_rollup.specs.declared.totals.Placed.{Placed}
use Rattle.pc_rollup.specs.Sums.{IsSumOver}
use Rattle.pc_rollup.specs.Totals.{amount_at}
use Rattle.pc_rollup.specs.inside.Totals.{placed_item, placed_amount, placed_at, ArePlacedSums, AreAtLeaves, AreOnLeaves, AreRolledUp}
use Rattle.pc_rollup.specs.inside.Amounts.{column_amounts, AreRolled, CanBeRolled, CanTake, HaveTaken}
use Rattle.pc_rollup.proofs.SumLaws.{IsSumOver-amounts, IsSumOver-same}
use Rattle.pc_rollup.proofs.RollLaws.{AreRolling, IsTurn, gathered_all, gathered_none, top_taken, turn_fits, turn_taken}
use Rattle.pc_rollup.proofs.PlacedLaws.{AreSummed, AreSummed-more, amounts_at_leaves, magnitude_of, sums_fit, totals_are}

module _ {A : Type 0} (columns : A → List ℤ) where
  -- what an item has in a column
  pub column_at : (c : ℕ) (items : List A) (x : ℕ) (a : A) → x < length items → a ≡ get_or items x a → amount_at (column_amounts columns c items) x ≡ amount_at (columns a) c
  column_at c items x a lt read =
      get_or-map (λ (b : A). amount_at (columns b) c) items x a (pos 0) lt ∙ ap (λ (b : A). amount_at (columns b) c) (sym read)

  -- an item that has more
  pub column_more : (c : ℕ) (items : List A) (x : ℕ) (a more sum : A) → x < length items → a ≡ get_or items x a →
      amount_at (columns sum) c ≡ amount_at (columns a) c +ℤ amount_at (columns more) c →
      column_amounts columns c (set items x sum) ≡ set (column_amounts columns c items) x (amount_at (column_amounts columns c items) x +ℤ amount_at (columns more) c)
  column_more c items x a more sum lt read is =
      map-set (λ (b : A). amount_at (columns b) c) items x sum
      ∙ ap (set (column_amounts columns c items) x) (is ∙ ap (λ (z : ℤ). z +ℤ amount_at (columns more) c) (sym (column_at c items x a lt read)))

  -- as many items
  pub length_taken : (old new : List A) (x : ℕ) (more : A) → HaveTaken columns old x more new → length new ≡ length old
  length_taken old new x more took =
      sym (length-map new (λ (b : A). amount_at (columns b) 0)) ∙ ap length (took 0) ∙ length-set (column_amounts columns 0 old) x _ ∙ length-map old (λ (b : A). amount_at (columns b) 0)

  pub length_rolled : (rows : List ItemRow) (old new : List A) → AreRolled columns rows old new → length new ≡ length rows
  length_rolled rows old new rolled =
      sym (length-map new (λ (b : A). amount_at (columns b) 0)) ∙ (rolled 0).one_each

  -- the items of a list where each has the same
  column_amounts-replicate : (c n : ℕ) (a : A) → column_amounts columns c (replicate n a) ≡ replicate n (amount_at (columns a) c)
  column_amounts-replicate c zero a = refl
  column_amounts-replicate c (suc n) a = ap (λ (l : List ℤ). amount_at (columns a) c ∷ l) (column_amounts-replicate c n a)

  -- in each column the last j of the order passed their totals on
  abbrev pub AreRollingIn : List ItemRow → List ℕ → ℕ → List A → List A → Type 0
  AreRollingIn rows order j amounts totals =
      (c : ℕ) → AreRolling rows order j (column_amounts columns c amounts) (column_amounts columns c totals)

  pub rolling_none : (rows : List ItemRow) (order : List ℕ) (amounts : List A) → AreInRange rows → IsTree rows → IsPreorder rows order →
      CanBeRolled columns rows amounts → AreRollingIn rows order 0 amounts amounts
  rolling_none rows order amounts ranged tree preorder can = λ c.
      let one_each = length-map amounts (λ (b : A). amount_at (columns b) c) ∙ can.one_each in record {
        ranged = ranged;
        tree = tree;
        preorder = preorder;
        one_each = one_each;
        small = can.small c;
        gathered = gathered_none rows order (column_amounts columns c amounts) one_each;
      }

  -- an item whose turn it is can add its total, as it is read, to that of its parent p
  module _ (rows : List ItemRow) (order : List ℕ) (j p : ℕ) (amounts totals : List A) (v : ℕ) (a : A) (so_far : AreRollingIn rows order j amounts totals)
      (place : (i : ℕ) × (i < length order) × (i + j + 1 ≡ length order) × (slice_index order i ≡ v)) (up : parent_of rows v ≡ Some p) (read : a ≡ get_or totals v a) where
    turn : (c : ℕ) → IsTurn rows order j p (column_amounts columns c amounts) (column_amounts columns c totals) v
    turn c = record { so_far = so_far c; place = place; up = up }

    long : length totals ≡ length rows
    long = sym (length-map totals (λ (b : A). amount_at (columns b) 0)) ∙ (so_far 0).gathered.one_each

    total_is : (c : ℕ) → amount_at (column_amounts columns c totals) v ≡ amount_at (columns a) c
    total_is c = column_at c totals v a (omega (arith, long, parent-inside rows v p up)) read

    pub can_pass : CanTake columns totals p a
    can_pass = record {
      known = omega (arith, long, (so_far 0).ranged v p (parent-inside rows v p up) up);
      fits = λ c. subst (λ (z : ℤ). unsigned_abs (amount_at (column_amounts columns c totals) p +ℤ z) < 2 ^ 63) (total_is c) (turn_fits rows order j p _ _ v (turn c));
    }

    pub passed : (new : List A) → HaveTaken columns totals p a new → AreRollingIn rows order (j + 1) amounts new
    passed new took = λ c.
        subst (AreRolling rows order (j + 1) (column_amounts columns c amounts))
        (ap (λ (z : ℤ). set (column_amounts columns c totals) p (amount_at (column_amounts columns c totals) p +ℤ z)) (total_is c) ∙ sym (took c))
        (turn_taken rows order j p _ _ v (turn c))

  pub top_passed : (rows : List ItemRow) (order : List ℕ) (j : ℕ) (amounts totals : List A) (v : ℕ) → AreRollingIn rows order j amounts totals →
      (i : ℕ) × (i < length order) × (i + j + 1 ≡ length order) × (slice_index order i ≡ v) → parent_of rows v ≡ None →
      AreRollingIn rows order (j + 1) amounts totals
  top_passed rows order j amounts totals v so_far place up = λ c.
      top_taken rows order j _ _ v (so_far c) place up

  pub rolled_all : (rows : List ItemRow) (order : List ℕ) (j : ℕ) (amounts totals : List A) → CanBeRolled columns rows amounts → length order ≤ j →
      AreRollingIn rows order j amounts totals → AreRolled columns rows amounts totals
  rolled_all rows order j amounts totals can all so_far = λ c. gathered_all rows order j _ _ (can.at_leaves c) all (so_far c)

-- n columns without amounts
pub zeros_at : (n c : ℕ) → amount_at (replicate n (pos 0)) c ≡ pos 0
zeros_at zero c = refl
zeros_at (suc n) zero = refl
zeros_at (suc n) (suc c) = zeros_at n c

-- amounts and where they are placed, as a list
abbrev pub listed : (ℕ → ℕ) → (ℕ → ℤ) → ℕ → List Placed
listed place amount n =
    map (λ a. record { item = place a; amount = amount a }) (range_with_len 0 n)

module _ (place : ℕ → ℕ) (amount : ℕ → ℤ) where
  listed_at : (n k : ℕ) → k < n → placed_at (listed place amount n) k ≡ record { item = place k; amount = amount k }
  listed_at n k lt =
      get_or-map-range_with_len (λ a. record { item = place a; amount = amount a }) 0 n k k (record { item = 0; amount = pos 0 }) lt (omega arith)

  length-listed : (n : ℕ) → length (listed place amount n) ≡ n
  length-listed n = length-map-range_with_len (λ a. record { item = place a; amount = amount a }) 0 n

  magnitude-listed : (n : ℕ) → magnitude_of (listed place amount n) ≡ sum_to n (λ k. unsigned_abs (amount k))
  magnitude-listed zero = refl
  magnitude-listed (suc n) =
      let more = sum_by-map-range_with_len_more (λ (p : Placed). unsigned_abs p.amount) (λ a. record { item = place a; amount = amount a }) 0 n n (omega arith) in
      let next : n + 1 ≡ suc n = omega arith in
      ap (λ (m : ℕ). magnitude_of (listed place amount m)) (sym next) ∙ more ∙ ap (λ (m : ℕ). m + unsigned_abs (amount n)) (magnitude-listed n)

-- each of `count` numbers has amounts, which are placed on an item
module _ {A : Type 0} (columns : A → List ℤ) (place : ℕ → ℕ) (has : ℕ → A) (count : ℕ) where
  abbrev placed : ℕ → List Placed
  placed c = listed place (λ k. amount_at (columns (has k)) c) count

  -- in each column all of them together fit
  abbrev pub Fit : Type 0
  Fit = (c : ℕ) → sum_to count (λ k. unsigned_abs (amount_at (columns (has k)) c)) < 2 ^ 63

  -- in each column the items have the amounts of the first n numbers
  abbrev pub AreSummedTo : ℕ → ℕ → List A → Type 0
  AreSummedTo items n sums = (c : ℕ) → AreSummed items (placed c) n (column_amounts columns c sums)

  pub summed_none : (items : ℕ) (none : A) → ((c : ℕ) → amount_at (columns none) c ≡ pos 0) → AreSummedTo items 0 (replicate items none)
  summed_none items none zeros = λ c.
      subst (AreSummed items (placed c) 0) (sym (column_amounts-replicate columns c items none ∙ ap (replicate items) (zeros c))) (record {
        sums = record { one_each = length-replicate items (pos 0); each = λ x lt. get_or-replicate items x (pos 0) (pos 0) lt };
        small = omega (arith, sum_by-replicate unsigned_abs items (pos 0));
      })

  magnitude_fits : (c : ℕ) → Fit → magnitude_of (placed c) < 2 ^ 63
  magnitude_fits c fit =
      omega (arith, fit c, magnitude-listed place (λ k. amount_at (columns (has k)) c) count)

  counted : (items n : ℕ) (sums : List A) → AreSummedTo items n sums → length sums ≡ items
  counted items n sums so_far =
      sym (length-map sums (λ (a : A). amount_at (columns a) 0)) ∙ (so_far 0).sums.one_each

  -- the next ones can be added
  pub can_take : (items n : ℕ) (sums : List A) → Fit → n < count → place n < items → AreSummedTo items n sums → CanTake columns sums (place n) (has n)
  can_take items n sums fit lt known so_far = record {
    known = omega (arith, known, counted items n sums so_far);
    fits = λ c.
        let within : n < length (placed c) = omega (arith, lt, length-listed place (λ k. amount_at (columns (has k)) c) count) in
        let is = ap (λ (p : Placed). p.amount) (listed_at place (λ k. amount_at (columns (has k)) c) count n lt) in
        (sums_fit items (placed c) n (place n) (column_amounts columns c sums) (amount_at (column_amounts columns c sums) (place n)) (amount_at (columns (has n)) c) (so_far c) (magnitude_fits c fit)
        within known refl (sym is)).2;
  }

  -- they are added
  pub taken : (items n : ℕ) (old new : List A) → n < count → place n < items → AreSummedTo items n old → HaveTaken columns old (place n) (has n) new → AreSummedTo items (n + 1) new
  taken items n old new lt known so_far took = λ c.
      let within : n < length (placed c) = omega (arith, lt, length-listed place (λ k. amount_at (columns (has k)) c) count) in
      let is = listed_at place (λ k. amount_at (columns (has k)) c) count n lt in
      subst (AreSummed items (placed c) (n + 1)) (sym (took c))
      (AreSummed-more items (placed c) n (place n) (column_amounts columns c old) (amount_at (column_amounts columns c old) (place n)) (amount_at (columns (has n)) c)
      (so_far c) within (ap (λ (p : Placed). p.item) (sym is)) known refl (ap (λ (p : Placed). p.amount) (sym is)))

  whole : (items n : ℕ) (sums : List A) (c : ℕ) → n ≡ count → AreSummedTo items n sums → ArePlacedSums items (placed c) (length (placed c)) (column_amounts columns c sums)
  whole items n sums c all so_far =
      subst (λ (m : ℕ). ArePlacedSums items (placed c) m (column_amounts columns c sums)) (all ∙ sym (length-listed place (λ k. amount_at (columns (has k)) c) count)) (so_far c).sums

  -- the same if the code borrows a list as a slice, and what is added is as it was computed
  pub taken_from : (items n size : ℕ) (old read new : List A) (more : A) → n < count → place n < items → AreSummedTo items n old → read ≡ old → more ≡ has n →
      length old ≡ size → HaveTaken columns read (place n) more new → AreSummedTo items (n + 1) (take size (new ++ drop (length new) old))
  taken_from items n size old read new more lt known so_far lent is as_long took =
      let same = subst (λ (a : A). HaveTaken columns old (place n) a new) is (subst (λ (l : List A). HaveTaken columns l (place n) more new) lent took) in
      let long = length_taken columns old new (place n) (has n) same in
      subst (AreSummedTo items (n + 1)) (sym (take_at new (drop (length new) old) size (long ∙ as_long))) (taken items n old new lt known so_far same)

  module _ (tree : List ItemRow) (known : (k : ℕ) → k < count → place k < length tree) (leaves : (k : ℕ) → k < count → IsLeaf tree (place k)) where
    on_leaves : (c : ℕ) → AreOnLeaves tree (placed c)
    on_leaves c = record {
      known = λ k lt. subst (λ (x : ℕ). x < length tree) (sym (at k lt)) (known k (inside k lt));
      leaves = λ k lt. subst (IsLeaf tree) (sym (at k lt)) (leaves k (inside k lt));
    }
      where
        inside : (k : ℕ) → k < length (placed c) → k < count
        inside k lt = omega (arith, lt, length-listed place (λ k. amount_at (columns (has k)) c) count)

        at : (k : ℕ) → k < length (placed c) → placed_item (placed c) k ≡ place k
        at k lt =
            ap (λ (p : Placed). p.item) (listed_at place (λ k. amount_at (columns (has k)) c) count k (inside k lt))

    -- all of them can be rolled up
    pub can_roll : (n : ℕ) (sums : List A) → Fit → n ≡ count → AreSummedTo (length tree) n sums → CanBeRolled columns tree sums
    can_roll n sums fit all so_far = record {
      one_each = counted (length tree) n sums so_far;
      at_leaves = λ c. amounts_at_leaves tree (placed c) (column_amounts columns c sums) (on_leaves c) (whole (length tree) n sums c all so_far);
      small = λ c. omega (arith, (so_far c).small, sum_by-take-le (λ (p : Placed). unsigned_abs p.amount) (placed c) n, magnitude_fits c fit);
    }

    -- each item has then the sum of what is placed on it or below it
    pub below_sum : (n : ℕ) (sums totals : List A) → n ≡ count → AreSummedTo (length tree) n sums → AreRolled columns tree sums totals →
        (c y : ℕ) → y < length tree →
        IsSumOver (λ k. IsBelow tree (place k) y) count (λ k. amount_at (columns (has k)) c) (amount_at (column_amounts columns c totals) y)
    below_sum n sums totals all so_far rolled c y lt =
        let count_is = length-listed place (λ k. amount_at (columns (has k)) c) count in
        let at : (k : ℕ) → k < length (placed c) → placed_at (placed c) k ≡ record { item = place k; amount = amount_at (columns (has k)) c } =
        λ k h. listed_at place (λ k. amount_at (columns (has k)) c) count k (omega arith) in
        let total = amount_at (column_amounts columns c totals) y in
        let sums_of = totals_are tree (placed c) (column_amounts columns c sums) (column_amounts columns c totals) (on_leaves c) (whole (length tree) n sums c all so_far) (rolled c) in
        subst (λ (m : ℕ). IsSumOver (λ k. IsBelow tree (place k) y) m (λ k. amount_at (columns (has k)) c) total) count_is
        (IsSumOver-amounts (λ k. IsBelow tree (place k) y) (length (placed c)) (placed_amount (placed c)) (λ k. amount_at (columns (has k)) c) total
        (λ k h. ap (λ (p : Placed). p.amount) (at k h))
        (IsSumOver-same (λ k. IsBelow tree (placed_item (placed c) k) y) (λ k. IsBelow tree (place k) y) (length (placed c)) (placed_amount (placed c)) total
        (λ k h below. subst (λ (x : ℕ). IsBelow tree x y) (ap (λ (p : Placed). p.item) (at k h)) below)
        (λ k h below. subst (λ (x : ℕ). IsBelow tree x y) (sym (ap (λ (p : Placed). p.item) (at k h))) below)
        (sums_of.each y lt)))

-- a list of plain numbers, as amounts of one column
abbrev pub plain : ℤ → List ℤ
plain amount = amount ∷ []

plain_first : (amounts : List ℤ) → column_amounts plain 0 amounts ≡ amounts
plain_first [] = refl
plain_first (a ∷ amounts) = ap (λ (l : List ℤ). a ∷ l) (plain_first amounts)

plain_other : (c : ℕ) (amounts : List ℤ) → column_amounts plain (suc c) amounts ≡ replicate (length amounts) (pos 0)
plain_other c [] = refl
plain_other c (a ∷ amounts) = ap (λ (l : List ℤ). pos 0 ∷ l) (plain_other c amounts)

pub plain_can_roll : (rows : List ItemRow) (amounts : List ℤ) → length amounts ≡ length rows → AreAtLeaves rows amounts →
    sum_by unsigned_abs amounts < 2 ^ 63 → CanBeRolled plain rows amounts
plain_can_roll rows amounts one_each at_leaves small = record {
  one_each = one_each;
  at_leaves = leaves;
  small = fits;
}
  where
    leaves : (c : ℕ) → AreAtLeaves rows (column_amounts plain c amounts)
    leaves zero = subst (AreAtLeaves rows) (sym (plain_first amounts)) at_leaves
    leaves (suc c) = λ x lt no_leaf. ap (λ (l : List ℤ). amount_at l x) (plain_other c amounts) ∙ get_or-replicate (length amounts) x (pos 0) (pos 0) (omega arith)

    fits : (c : ℕ) → sum_by unsigned_abs (column_amounts plain c amounts) < 2 ^ 63
    fits zero = subst (λ (l : List ℤ). sum_by unsigned_abs l < 2 ^ 63) (sym (plain_first amounts)) small
    fits (suc c) = omega (arith, ap (sum_by unsigned_abs) (plain_other c amounts), sum_by-replicate unsigned_abs (length amounts) (pos 0))

pub plain_rolled : (rows : List ItemRow) (amounts totals : List ℤ) → AreRolled plain rows amounts totals → AreRolledUp rows amounts totals
plain_rolled rows amounts totals rolled =
    subst (λ (l : List ℤ). AreRolledUp rows l totals) (plain_first amounts)
    (subst (AreRolledUp rows (column_amounts plain 0 amounts)) (plain_first totals) (rolled 0))
