use Rattle.std.proofs.Common.{◌≡◌, take}
use Rattle.pc_names.proofs.names.Names.build.Given as goal

abbrev pub invariant-loop-code : goal.invariant-loop-code
invariant-loop-code l = l.names ≡ take l.code-index l.codes
