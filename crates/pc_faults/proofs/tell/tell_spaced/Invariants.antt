use Rattle.std.proofs.Common.{◌≡◌, ◌+◌, ◌*◌, ◌≤◌, ◌++◌, drop, length}
use Rattle.pc_faults.specs.FaultText.{spaced_codes}
use Rattle.pc_faults.proofs.tell.tell_spaced.Given as goal

-- the bytes so far and those of the codes that are left are those of all codes, and the capacity is enough for them
abbrev pub invariant-loop-code : goal.invariant-loop-code
invariant-loop-code l = record {
  told : l.line.bytes ++ spaced_codes (drop l.code-index l.codes) ≡ l.fn.line.bytes ++ spaced_codes l.codes;
  room : l.line.room ≡ l.fn.line.room;
  short : length l.line.bytes ≤ length l.fn.line.bytes + 17 * l.code-index;
}
