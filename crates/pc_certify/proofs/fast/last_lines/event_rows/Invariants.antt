use Rattle.std.proofs.Common.{◌≡◌, ℕ, ◌<◌, length}
use Rattle.pc_model.specs.Codes.{text_at}
use Rattle.pc_certify.specs.inside.fast.Spelled.{SpellsEvent, event_row_at}
use Rattle.pc_certify.proofs.fast.last_lines.event_rows.Given as goal

abbrev pub invariant-loop-e : goal.invariant-loop-e
invariant-loop-e l = record {
  one_each : length l.rows.items ≡ l.e;
  each : (i : ℕ) → i < l.e → SpellsEvent (text_at l.net.events i) (event_row_at l.rows.items i);
}
