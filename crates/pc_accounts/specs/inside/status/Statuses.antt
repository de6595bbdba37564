-- What STATUS cards say of activities: which of them are in disorder (F30), and how far each activity is.
-- Here is what no clause of a top call and no law reaches.
use Rattle.std.specs.Prelude.{ℕ, List}
use Rattle.pc_accounts.specs.declared.status.StatusRow.{StatusRow}

-- the statuses of a number of activities
pub record StatusLog : Type 0 where
  pub activities : ℕ
  pub statuses : List StatusRow
