use Rattle.std.proofs.Common.{length}
use Rattle.pc_low_tests.proofs.records.spell_rows.Given as goal

-- each turn takes one record
abbrev pub decreases-rows : goal.decreases-rows
decreases-rows l = length l.rows
