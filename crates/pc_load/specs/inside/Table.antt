-- Tables of amounts by row and period.
-- Here is what no clause of a top call and no law reaches.
use Rattle.std.specs.Prelude.{◌≡◌, ℕ, ◌+◌, ◌*◌, ◌<◌, ◌≤◌, pos, ◌≤ℤ◌, List, length, slice_index_or}
use Rattle.pc_model.specs.declared.limits.TheConstants.{MAX_ITEMS, MAX_LOADS}
use Rattle.pc_rollup.specs.Sums.{IsSumOver}
use Rattle.pc_load.specs.declared.spread.Spread.{Spread}
use Rattle.pc_load.specs.declared.table.LoadRow.{LoadRow}
use Rattle.pc_load.specs.declared.table.TheConstants.{MAX_PERIODS}
use Rattle.pc_load.specs.Share.{part}
use Rattle.pc_load.specs.inside.Share.{IsSpread}
use Rattle.pc_load.specs.Table.{Table, amount_in, total_of}

-- ---- entries

-- the e-th entry; past the end of the list one without an amount
abbrev pub load_entry_at : List LoadRow → ℕ → LoadRow
load_entry_at entries e = slice_index_or entries e (record { row = 0; spread = record { begin = 0; length = 0; amount = 0 } })

-- the row that the e-th entry counts on
abbrev pub row_of_entry : List LoadRow → ℕ → ℕ
row_of_entry entries e = (load_entry_at entries e).row

-- its spread
abbrev pub spread_of : List LoadRow → ℕ → Spread
spread_of entries e = (load_entry_at entries e).spread

-- no more entries than a project may have loads, each on one of `rows` rows, with a spread of a project
pub record AreEntries (rows : ℕ) (entries : List LoadRow) : Type 0 where
  pub few : length entries ≤ MAX_LOADS
  pub known : (e : ℕ) → e < length entries → row_of_entry entries e < rows
  pub spreads : (e : ℕ) → e < length entries → IsSpread (spread_of entries e)

-- ---- tables

-- the table has a cell for each row and period, and no amount is negative
pub record IsTable (table : Table) : Type 0 where
  pub rows : table.rows ≤ MAX_ITEMS
  pub periods : table.periods ≤ MAX_PERIODS
  pub whole : length table.cells ≡ table.periods * table.rows
  pub natural : (row k : ℕ) → row < table.rows → k < table.periods → pos 0 ≤ℤ amount_in table row k

-- the row is one of the table, which has no more periods than a table may have
pub record IsRowOf (table : Table) (row : ℕ) : Type 0 where
  pub known : row < table.rows
  pub periods : table.periods ≤ MAX_PERIODS

-- ---- the table of entries

-- the part of the e-th entry in period k, with periods of this width
abbrev pub part_in : List LoadRow → ℕ → ℕ → ℕ → ℕ
part_in entries width k e = part (spread_of entries e) (width * k) (width * (k + 1))

-- in each period each row has the sum of the parts of the entries that count on it
pub record IsTableOf (rows : ℕ) (entries : List LoadRow) (width periods : ℕ) (table : Table) : Type 0 where
  pub row_count : table.rows ≡ rows
  pub period_count : table.periods ≡ periods
  pub each : (row k : ℕ) → row < rows → k < periods → IsSumOver (λ e. row_of_entry entries e ≡ row) (length entries) (λ e. pos (part_in entries width k e)) (amount_in table row k)

-- the spread is over by the time: it has begun before, and ends no later
abbrev pub IsOver : Spread → ℕ → Type 0
IsOver s time = (s.begin < time) × (s.begin + s.length ≤ time)

-- if the last period contains the end of all entries, the amounts of each row in all periods add up to those of its
-- entries
abbrev pub RowsAddUp : ℕ → List LoadRow → ℕ → ℕ → Table → Type 0
RowsAddUp rows entries width periods table =
    ((e : ℕ) → e < length entries → IsOver (spread_of entries e) (width * periods))
    → (row : ℕ) → row < rows → IsSumOver (λ e. row_of_entry entries e ≡ row) (length entries) (λ e. pos (spread_of entries e).amount) (total_of table row)
