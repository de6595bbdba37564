use Rattle.std.proofs.Common.{◌≡◌, ℕ, ◌<◌, length}
use Rattle.pc_certify.specs.inside.fast.Spelled.{SpellsAct, act_row_at}
use Rattle.pc_certify.proofs.fast.last_lines.act_rows.Given as goal

abbrev pub invariant-loop-a : goal.invariant-loop-a
invariant-loop-a l = record {
  one_each : length l.rows.items ≡ l.a;
  each : (i : ℕ) → i < l.a → SpellsAct l.net i (act_row_at l.rows.items i);
}
