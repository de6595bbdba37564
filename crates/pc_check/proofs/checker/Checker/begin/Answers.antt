use Rattle.std.proofs.Common.{refl, arith}
use Rattle.pc_check.proofs.checker.Checker.begin.Goals as goal

pub invariant_of-result : goal.invariant_of-result
invariant_of-result c = record { safe = c.in_ok-kept_of.ensures.safe; bounded = c.in_ok-kept_of.ensures.bounded; fronts = c.in_ok-fronts_of.ensures }

pub returns-clause-net : goal.returns-clause-net
returns-clause-net c = refl

pub returns-clause-no_fail : goal.returns-clause-no_fail
returns-clause-no_fail c = refl

pub returns-clause-few : goal.returns-clause-few
returns-clause-few c = omega (arith, c.in_ok-kept_of.ensures.lines)
