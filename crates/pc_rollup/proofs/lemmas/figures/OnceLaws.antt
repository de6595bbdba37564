-- The figures of a project are one: each sum, each least, the order of the items, and the value of each account.
use Rattle.std.proofs.Common.{◌≡◌, ℕ, ◌+◌, ◌<◌, List, length, Option, Some, None, inl, inr, refl, sym, ap, ◌∙◌, subst, arith}
use Rattle.std.specs.Prelude.{ℤ, pos}
use Rattle.std.proofs.lemmas.Int.{ints}
use Rattle.std.proofs.lemmas.List.{ext_get_or}
use Rattle.pc_wbs.specs.declared.tree.ItemRow.{ItemRow}
use Rattle.pc_wbs.specs.Climb.{AreInRange, HasLevel, IsBelow, IsTree}
use Rattle.pc_wbs.proofs.ClimbLaws.{HasLevel-same}
use Rattle.pc_wbs.proofs.OnePreorderLaws.{one_preorder}
use Rattle.pc_accounts.specs.declared.book.AcctRow.{AcctRow}
use Rattle.pc_accounts.specs.declared.book.Entry.{Entry}
use Rattle.pc_accounts.specs.Amounts.{item_of}
use Rattle.pc_rollup.specs.Totals.{amount_at}
use Rattle.pc_rollup.specs.Least.{IsLeastOver, least_at}
use Rattle.pc_rollup.proofs.SumLaws.{IsSumOver-only}
use Rattle.pc_times.specs.declared.forecasts.ActState.{ActState}
use Rattle.pc_rollup.specs.declared.figures.outline.OutlineRow.{OutlineRow}
use Rattle.pc_rollup.specs.figures.Columns.{AreOnTree, AreItemSums, AmountColumn, IsColumn, IsLevelSum}
use Rattle.pc_rollup.specs.inside.figures.Columns.{IsAccountTotal}
use Rattle.pc_rollup.specs.figures.Figures.{account_summary_at, actual_at, budget_at}
use Rattle.pc_rollup.specs.figures.Outline.{AreOutlineRows, IsOutline, outline_row_at}
use Rattle.pc_rollup.specs.figures.Packages.{IsValueOf, overrun_at}
use Rattle.pc_rollup.specs.figures.Slacks.{AreLeastSlacks}
use Rattle.pc_rollup.specs.figures.Summary.{IsSummaryOf, Summary}
use Rattle.pc_rollup.specs.figures.Worth.{IsWorthOf, Worth}
use Rattle.pc_rollup.proofs.lemmas.figures.DepthLaws.{levels_same}
use Rattle.pc_rollup.proofs.lemmas.figures.SumLaws.{lines_are_whole}

-- ---- sums by item and by level

one_item_sums : (tree : List ItemRow) (accounts : List AcctRow) (amount : ℕ → ℤ) (s t : List ℤ) → AreItemSums tree accounts amount s → AreItemSums tree accounts amount t → s ≡ t
one_item_sums tree accounts amount s t x y =
    ext_get_or (pos 0) s t (x.one_each ∙ sym y.one_each)
    (λ k lt. IsSumOver-only (λ a. IsBelow tree (item_of accounts a) k) (length accounts) amount (amount_at s k) (amount_at t k)
    (x.each k (omega (arith, lt, x.one_each))) (y.each k (omega (arith, lt, x.one_each))))

module _ (tree : List ItemRow) (accounts : List AcctRow) (ranged : AreInRange tree) (sound : IsTree tree) (on_tree : AreOnTree tree accounts) where
  level_sum_is : (amount : ℕ → ℤ) (totals : List ℤ) (level : ℕ) (sum : ℤ) → AreItemSums tree accounts amount totals → IsLevelSum tree totals (level + 1) sum → IsAccountTotal accounts amount sum
  level_sum_is amount totals level sum sums (lines, (are, is)) =
      subst (λ (z : ℤ). IsAccountTotal accounts amount z) (sym is) (lines_are_whole tree accounts amount totals (level + 1) lines ranged sound on_tree sums (omega arith) are)

  one_column : (amount : ℕ → ℤ) (c d : AmountColumn) → IsColumn tree accounts amount c → IsColumn tree accounts amount d → c ≡ d
  one_column amount c d x y =
      let make : List ℤ → List ℤ → AmountColumn = λ items levels. record { items = items; levels = levels } in
      let depth = levels_same tree accounts amount amount c d x y in
      ap (λ items. make items c.levels) (one_item_sums tree accounts amount c.items d.items x.items y.items)
      ∙ ap (λ levels. make d.items levels)
      (ext_get_or (pos 0) c.levels d.levels depth
      (λ k lt. IsSumOver-only (λ a. a < length accounts) (length accounts) amount (amount_at c.levels k) (amount_at d.levels k)
      (level_sum_is amount c.items k (amount_at c.levels k) x.items (x.levels.each k lt))
      (level_sum_is amount d.items k (amount_at d.levels k) y.items (y.levels.each k (omega (arith, lt, depth))))))

-- ---- the order of the items

one_row : (l m : OutlineRow) → l.item ≡ m.item → l.level ≡ m.level → l ≡ m
one_row l m items levels =
    let make : ℕ → ℕ → OutlineRow = λ item level. record { item = item; level = level } in
    ap (λ item. make item l.level) items ∙ ap (λ level. make m.item level) levels

rows_in_order : (tree : List ItemRow) (order : List ℕ) (xs ys : List OutlineRow) → AreOutlineRows tree order xs → AreOutlineRows tree order ys → xs ≡ ys
rows_in_order tree order xs ys a b =
    ext_get_or (record { item = 0; level = 0 }) xs ys (a.one_each ∙ sym b.one_each)
    (λ k lt. let p = a.each k (omega (arith, lt, a.one_each)) in
    let q = b.each k (omega (arith, lt, a.one_each)) in
    let same = p.item ∙ sym q.item in
    one_row (outline_row_at xs k) (outline_row_at ys k) same
    (HasLevel-same tree (outline_row_at ys k).item (outline_row_at xs k).level (outline_row_at ys k).level (subst (λ (x : ℕ). HasLevel tree x (outline_row_at xs k).level) same p.level) q.level))

pub one_outline : (tree : List ItemRow) (xs ys : List OutlineRow) → IsTree tree → IsOutline tree xs → IsOutline tree ys → xs ≡ ys
one_outline tree xs ys sound (order, (preorder, are)) (other, (also, in_order)) =
    rows_in_order tree other xs ys (subst (λ (o : List ℕ). AreOutlineRows tree o xs) (one_preorder tree sound order other preorder also) are) in_order

-- ---- the summary

abbrev make_summary : List OutlineRow → AmountColumn → AmountColumn → AmountColumn → AmountColumn → AmountColumn → Summary
make_summary o b a t l v = record { outline = o; budget = b; actual = a; to_go = t; latest = l; overrun = v }

same_parts : {o p : List OutlineRow} {b c a d t u l m v w : AmountColumn} → o ≡ p → b ≡ c → a ≡ d → t ≡ u → l ≡ m → v ≡ w → make_summary o b a t l v ≡ make_summary p c d u m w
same_parts f g h i j k = rw (f, g, h, i, j, k) refl

pub one_summary : (tree : List ItemRow) (accounts : List AcctRow) (entries : List Entry) (s t : Summary) → AreInRange tree → IsTree tree →
    AreOnTree tree accounts → IsSummaryOf tree accounts entries s → IsSummaryOf tree accounts entries t → s ≡ t
one_summary tree accounts entries s t ranged sound on_tree x y =
    same_parts (one_outline tree s.outline t.outline sound x.outline y.outline)
    (one_column tree accounts ranged sound on_tree (λ a. (account_summary_at entries a).budget) s.budget t.budget x.budget y.budget)
    (one_column tree accounts ranged sound on_tree (λ a. (account_summary_at entries a).actual) s.actual t.actual x.actual y.actual)
    (one_column tree accounts ranged sound on_tree (λ a. (account_summary_at entries a).to_go) s.to_go t.to_go x.to_go y.to_go)
    (one_column tree accounts ranged sound on_tree (λ a. (account_summary_at entries a).latest) s.latest t.latest x.latest y.latest)
    (one_column tree accounts ranged sound on_tree (λ a. (account_summary_at entries a).overrun) s.overrun t.overrun x.overrun y.overrun)

-- ---- the worth of the work

one_value : (places : List ℕ) (states : List ActState) (accounts : List AcctRow) (entries : List Entry) (a : ℕ) (v w : ℤ) →
    IsValueOf places states accounts entries a v → IsValueOf places states accounts entries a w → v ≡ w
one_value places states accounts entries a v w (inl (p, is)) (inl (q, also)) = is ∙ sym also
one_value places states accounts entries a v w (inl (p, is)) (inr (none, also)) = absurd (none p)
one_value places states accounts entries a v w (inr (none, is)) (inl (q, also)) = absurd (none q)
one_value places states accounts entries a v w (inr (none, is)) (inr (never, also)) = is ∙ sym also

abbrev make_worth : List ℤ → List ℤ → List ℤ → List ℤ → Worth
make_worth b a v o = record { budget = b; actual = a; value = v; overrun = o }

same_worth : {b c a d v w o p : List ℤ} → b ≡ c → a ≡ d → v ≡ w → o ≡ p → make_worth b a v o ≡ make_worth c d w p
same_worth f g h i = rw (f, g, h, i) refl

pub one_worth : (tree : List ItemRow) (places : List ℕ) (states : List ActState) (accounts : List AcctRow) (entries : List Entry)
    (v w : Worth) → IsWorthOf tree places states accounts entries v → IsWorthOf tree places states accounts entries w → v ≡ w
one_worth tree places states accounts entries v w x y =
    let values : x.values ≡ y.values =
    ext_get_or (pos 0) x.values y.values (x.are_values.one_each ∙ sym y.are_values.one_each)
    (λ a lt. one_value places states accounts entries a (amount_at x.values a) (amount_at y.values a)
    (x.are_values.each a (omega (arith, lt, x.are_values.one_each))) (y.are_values.each a (omega (arith, lt, x.are_values.one_each)))) in
    same_worth
    (one_item_sums tree accounts (budget_at entries) v.budget w.budget x.budget y.budget)
    (one_item_sums tree accounts (actual_at entries) v.actual w.actual x.actual y.actual)
    (one_item_sums tree accounts (amount_at y.values) v.value w.value (subst (λ (vs : List ℤ). AreItemSums tree accounts (amount_at vs) v.value) values x.value) y.value)
    (one_item_sums tree accounts (overrun_at entries y.values) v.overrun w.overrun (subst (λ (vs : List ℤ). AreItemSums tree accounts (overrun_at entries vs) v.overrun) values x.overrun) y.overrun)

-- ---- the least slacks

one_least : (P : ℕ → Type 0) (n : ℕ) (f : ℕ → ℤ) (o p : Option ℤ) → IsLeastOver P n f o → IsLeastOver P n f p → o ≡ p
one_least P n f None None none never = refl
one_least P n f None (Some b) none ((x, (lt, q, e)), bound) = absurd (none x lt q)
one_least P n f (Some a) None ((x, (lt, q, e)), bound) none = absurd (none x lt q)
one_least P n f (Some a) (Some b) ((x, (lt, p, e)), bound) ((y, (less, q, g)), limit) =
    let above = bound y less q in
    let below = limit x lt p in
    ap Some (omega (arith, ints, above, below, e, g))

pub one_slacks : (tree : List ItemRow) (places : List ℕ) (slack : ℕ → ℤ) (s t : List (Option ℤ)) → AreLeastSlacks tree places slack s → AreLeastSlacks tree places slack t → s ≡ t
one_slacks tree places slack s t x y =
    ext_get_or None s t (x.one_each ∙ sym y.one_each)
    (λ k lt. one_least _ (length places) slack (least_at s k) (least_at t k) (x.each k (omega (arith, lt, x.one_each))) (y.each k (omega (arith, lt, x.one_each))))
