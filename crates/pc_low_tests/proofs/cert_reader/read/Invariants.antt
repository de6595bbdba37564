use Rattle.std.proofs.Common.{◌≡◌, ◌≤◌, None, length}
use Rattle.pc_low_tests.proofs.cert_reader.read.Given as goal

abbrev pub invariant-loop : goal.invariant-loop
invariant-loop l = (l.at ≤ length l.text) × (l.left ≤ 4096) × (l.reader.malformed ≡ None) × (l.reader.lines ≤ l.counter)
