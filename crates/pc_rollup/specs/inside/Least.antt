-- The least of amounts that are placed on items.
-- Here is what no clause of a top call and no law reaches.
use Rattle.std.specs.Prelude.{◌≡◌, ℕ, ◌<◌, ℤ, int_lt, if◌then◌else◌, List, length, Option, Some, None}
use Rattle.pc_wbs.specs.declared.tree.ItemRow.{ItemRow}
use Rattle.pc_wbs.specs.Climb.{IsBelow}
use Rattle.pc_rollup.specs.declared.totals.Placed.{Placed}
use Rattle.pc_rollup.specs.inside.Totals.{placed_item, placed_amount}
use Rattle.pc_rollup.specs.Least.{IsLeastOver, least_at}

-- one for each item: the least of the amounts that are placed on it or below it
pub record AreLeastOf (rows : List ItemRow) (placed : List Placed) (least : List (Option ℤ)) : Type 0 where
  pub one_each : length least ≡ length rows
  pub each : (y : ℕ) → y < length rows → IsLeastOver (λ k. IsBelow rows (placed_item placed k) y) (length placed) (placed_amount placed) (least_at least y)

-- one for each of `items` items: the least of the first n amounts that are placed on it
pub record AreLeastOn (items : ℕ) (placed : List Placed) (n : ℕ) (least : List (Option ℤ)) : Type 0 where
  pub one_each : length least ≡ items
  pub each : (x : ℕ) → x < items → IsLeastOver (λ k. placed_item placed k ≡ x) n (placed_amount placed) (least_at least x)

-- the lesser of two amounts, one of which may be missing
abbrev pub lesser_amount : Option ℤ → Option ℤ → Option ℤ
lesser_amount (Some a) (Some b) = if int_lt b a then Some b else Some a
lesser_amount None b = b
lesser_amount (Some a) None = Some a
