use Rattle.pc_check.specs.inside.fast.Passed.{FitsWithin}
use Rattle.pc_check.proofs.fast.passed.gaps_of.Given as goal

abbrev pub invariant-loop-k : goal.invariant-loop-k
invariant-loop-k l = FitsWithin l.crash l.knees l.flows l.k l.low l.high
