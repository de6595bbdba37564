-- What the parts of a `Table` hold.
use Rattle.pc_load.specs.declared.table.Table.TheInside.{Inside}
use Rattle.pc_load.specs.Table.{Table}
use Rattle.pc_load.specs.inside.Table.{IsTable}

abbrev pub table_from : Inside → Table
table_from a = record { rows = a.rows; periods = a.periods; cells = a.cells.items }

abbrev pub IsTableInside : Inside → Type 0
IsTableInside a = IsTable (table_from a)
