-- What the items of a work breakdown structure add up to.
-- Here is what no clause of a top call and no law reaches.
use Rattle.std.specs.Prelude.{◌≡◌, ℕ, ◌<◌, ℤ, pos, List, length, slice_index_or}
use Rattle.pc_wbs.specs.declared.tree.ItemRow.{ItemRow}
use Rattle.pc_wbs.specs.Climb.{IsBelow, IsLeaf}
use Rattle.pc_rollup.specs.declared.totals.Placed.{Placed}
use Rattle.pc_rollup.specs.Sums.{IsSumOver}
use Rattle.pc_rollup.specs.Totals.{amount_at}

-- an item that is no leaf has no amount of its own
abbrev pub AreAtLeaves : List ItemRow → List ℤ → Type 0
AreAtLeaves rows amounts = (x : ℕ) → x < length rows → (IsLeaf rows x → ⊥) → amount_at amounts x ≡ pos 0

-- one total for each item, the sum of the amounts of the leaves that are it or are below it
pub record AreRolledUp (rows : List ItemRow) (amounts totals : List ℤ) : Type 0 where
  pub one_each : length totals ≡ length rows
  pub each : (y : ℕ) → y < length rows → IsSumOver (λ x. IsLeaf rows x × IsBelow rows x y) (length rows) (amount_at amounts) (amount_at totals y)

-- the totals are rolled up from some amounts of the leaves
abbrev pub IsRolledUp : List ItemRow → List ℤ → Type 0
IsRolledUp rows totals = (amounts : List ℤ) × AreRolledUp rows amounts totals

-- the k-th amount and the item that it is placed on; past the end of the list none on item 0
abbrev pub placed_at : List Placed → ℕ → Placed
placed_at placed k = slice_index_or placed k (record { item = 0; amount = pos 0 })

-- the item that the k-th amount is placed on
abbrev pub placed_item : List Placed → ℕ → ℕ
placed_item placed k = (placed_at placed k).item

-- the k-th amount
abbrev pub placed_amount : List Placed → ℕ → ℤ
placed_amount placed k = (placed_at placed k).amount

-- one total for each item, the sum of the amounts that are placed on it or below it
pub record AreTotalsOf (rows : List ItemRow) (placed : List Placed) (totals : List ℤ) : Type 0 where
  pub one_each : length totals ≡ length rows
  pub each : (y : ℕ) → y < length rows → IsSumOver (λ k. IsBelow rows (placed_item placed k) y) (length placed) (placed_amount placed) (amount_at totals y)

-- one amount for each of `items` items, the sum of those that are placed on it
pub record ArePlacedSums (items : ℕ) (placed : List Placed) (n : ℕ) (amounts : List ℤ) : Type 0 where
  pub one_each : length amounts ≡ items
  pub each : (x : ℕ) → x < items → IsSumOver (λ k. placed_item placed k ≡ x) n (placed_amount placed) (amount_at amounts x)

-- each amount is placed on a leaf
pub record AreOnLeaves (rows : List ItemRow) (placed : List Placed) : Type 0 where
  pub known : (k : ℕ) → k < length placed → placed_item placed k < length rows
  pub leaves : (k : ℕ) → k < length placed → IsLeaf rows (placed_item placed k)
