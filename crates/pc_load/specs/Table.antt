-- Tables of amounts by row and period.
use Rattle.std.specs.Prelude.{ℕ, zero, suc, ◌*◌, ℤ, pos, ◌+ℤ◌, List, take, drop}
use Rattle.pc_rollup.specs.Totals.{amount_at}

-- ---- tables

-- an amount for each of `rows` rows in each of `periods` periods: those of the first period row by row, then those of
-- the next
pub record Table : Type 0 where
  pub rows : ℕ
  pub periods : ℕ
  pub cells : List ℤ

-- the amounts of period k, one for each of `rows` rows
abbrev pub cells_of_period : ℕ → List ℤ → ℕ → List ℤ
cells_of_period rows cells k = take rows (drop (k * rows) cells)

-- the amounts of period k of a table
abbrev pub column : Table → ℕ → List ℤ
column table k = cells_of_period table.rows table.cells k

-- the amount of a row in period k
abbrev pub amount_in : Table → ℕ → ℕ → ℤ
amount_in table row k = amount_at (column table k) row

-- f 0 + f 1 + .. + f (n - 1)
abbrev pub sum_before : ℕ → (ℕ → ℤ) → ℤ
sum_before zero f = pos 0
sum_before (suc n) f = sum_before n f +ℤ f n

-- what a row has in all periods
abbrev pub total_of : Table → ℕ → ℤ
total_of table row = sum_before table.periods (amount_in table row)
