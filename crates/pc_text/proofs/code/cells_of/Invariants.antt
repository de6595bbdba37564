use Rattle.std.proofs.Common.{◌≡◌, ◌-◌, ◌++◌, map, take, replicate}
use Rattle.pc_text.proofs.CodeLemmas.{byte_or_comma}
use Rattle.pc_text.proofs.code.cells_of.Given as goal

abbrev pub invariant-loop-i : goal.invariant-loop-i
invariant-loop-i l = l.cells ≡ take l.i (map byte_or_comma l.field) ++ replicate (16 - l.i) 0
