-- Amounts that are added column by column.
-- Here is what no clause of a top call and no law reaches.
use Rattle.std.specs.Prelude.{◌≡◌, ℕ, ◌<◌, ◌^◌, ℤ, ◌+ℤ◌, unsigned_abs, List, length, map, set, sum_by}
use Rattle.pc_wbs.specs.declared.tree.ItemRow.{ItemRow}
use Rattle.pc_rollup.specs.Totals.{amount_at}
use Rattle.pc_rollup.specs.inside.Totals.{AreAtLeaves, AreRolledUp}

-- in each column the sum fits
abbrev pub CanBeAdded : List ℤ → List ℤ → Type 0
CanBeAdded some more =
    (c : ℕ) → unsigned_abs (amount_at some c +ℤ amount_at more c) < 2 ^ 63

-- in each column the sum is that of both
abbrev pub IsSum : List ℤ → List ℤ → List ℤ → Type 0
IsSum some more sum =
    (c : ℕ) → amount_at sum c ≡ amount_at some c +ℤ amount_at more c

-- column c of the amounts of items
abbrev pub column_amounts : {A : Type 0} → (A → List ℤ) → ℕ → List A → List ℤ
column_amounts columns c items = map (λ a. amount_at (columns a) c) items

-- item x is known, and the amounts can be added to its own
pub record CanTake {A : Type 0} (columns : A → List ℤ) (items : List A) (x : ℕ) (more : A) : Type 0 where
  pub known : x < length items
  pub fits : (c : ℕ) → unsigned_abs (amount_at (column_amounts columns c items) x +ℤ amount_at (columns more) c) < 2 ^ 63

-- in each column item x has as much more
abbrev pub HaveTaken : {A : Type 0} → (A → List ℤ) → List A → ℕ → A → List A → Type 0
HaveTaken columns old x more new =
    (c : ℕ) → column_amounts columns c new ≡ set (column_amounts columns c old) x (amount_at (column_amounts columns c old) x +ℤ amount_at (columns more) c)

-- in each column the amounts are on leaves, and fit when they are added up
pub record CanBeRolled {A : Type 0} (columns : A → List ℤ) (rows : List ItemRow) (items : List A) : Type 0 where
  pub one_each : length items ≡ length rows
  pub at_leaves : (c : ℕ) → AreAtLeaves rows (column_amounts columns c items)
  pub small : (c : ℕ) → sum_by unsigned_abs (column_amounts columns c items) < 2 ^ 63

-- in each column the totals are rolled up
abbrev pub AreRolled : {A : Type 0} → (A → List ℤ) → List ItemRow → List A → List A → Type 0
AreRolled columns rows amounts totals =
    (c : ℕ) → AreRolledUp rows (column_amounts columns c amounts) (column_amounts columns c totals)
