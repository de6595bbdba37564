-- Amounts to go of one account and one day.
-- Here is what no clause of a top call and no law reaches.
use Rattle.std.specs.Prelude.{List}
use Rattle.pc_model.specs.Greatest.{IsFirst}
use Rattle.pc_accounts.specs.declared.book.MoneyRow.{MoneyRow}
use Rattle.pc_accounts.specs.declared.book.BookError.{BookError}
use Rattle.pc_accounts.specs.declared.book.BookError.TheVariants.{SecondToGo, OutOfMemory}
use Rattle.pc_accounts.specs.Second.{Repeats, IsRepeated}

-- `second` is the first row that repeats an earlier one, and `first` is the earliest that it repeats; memory may run
-- out at any time
abbrev pub IsRefusal : List MoneyRow → BookError → Type 0
IsRefusal togos (SecondToGo first second) = IsFirst (IsRepeated togos) second × IsFirst (Repeats togos second) first
IsRefusal togos OutOfMemory = Unit {0}
