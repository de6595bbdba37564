-- The table of items: what their leaves add up to in each period.
-- Here is what no clause of a top call and no law reaches.
use Rattle.std.specs.Prelude.{◌≡◌, ℕ, ◌<◌, List, length}
use Rattle.pc_wbs.specs.declared.tree.ItemRow.{ItemRow}
use Rattle.pc_rollup.specs.inside.Totals.{AreRolledUp}
use Rattle.pc_load.specs.Table.{Table, column}

-- in each period each item has the sum of the amounts of the leaves that are it or are below it
pub record IsItemTable (tree : List ItemRow) (leaves items : Table) : Type 0 where
  pub rows : items.rows ≡ length tree
  pub periods : items.periods ≡ leaves.periods
  pub each : (k : ℕ) → k < leaves.periods → AreRolledUp tree (column leaves k) (column items k)
