use Rattle.std.proofs.Common.{◌≡◌, ◌+◌, drop}
use Rattle.pc_text.specs.Fields.{run_len}
use Rattle.pc_text.proofs.fields.run_len.Given as goal

abbrev pub invariant-loop-i : goal.invariant-loop-i
invariant-loop-i l = l.i + run_len l.stop (drop l.i l.bytes) ≡ run_len l.stop l.bytes
