-- What adding an entry to a table does.
use Rattle.std.specs.Prelude.{◌≡◌, ℕ, ◌+◌, ◌*◌, ◌<◌, ℤ, pos, ◌+ℤ◌, ◌^◌, unsigned_abs, List, length, set}
use Rattle.pc_rollup.specs.Totals.{amount_at}
use Rattle.pc_load.specs.declared.table.LoadRow.{LoadRow}
use Rattle.pc_load.specs.Share.{part}
use Rattle.pc_load.specs.Table.{cells_of_period}

-- a further amount fits into each cell of the row
abbrev pub CanGrowRow : ℕ → ℕ → ℕ → List ℤ → Type 0
CanGrowRow rows periods row cells =
    (k : ℕ) → k < periods → unsigned_abs (amount_at (cells_of_period rows cells k) row) < 2 ^ 62

-- the amount of a row in period k grew by the entry's part, and the other rows are as they were
abbrev pub IsGrown : ℕ → LoadRow → ℕ → List ℤ → List ℤ → ℕ → Type 0
IsGrown rows entry width old new k =
    cells_of_period rows new k ≡ set (cells_of_period rows old k) entry.row (amount_at (cells_of_period rows old k) entry.row +ℤ pos (part entry.spread (width * k) (width * (k + 1))))

-- the same in each of `periods` periods
pub record IsAdded (rows periods : ℕ) (entry : LoadRow) (width : ℕ) (old new : List ℤ) : Type 0 where
  pub one_each : length new ≡ length old
  pub each : (k : ℕ) → k < periods → IsGrown rows entry width old new k
