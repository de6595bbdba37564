use Rattle.std.proofs.Common.{arith}
use Rattle.pc_check.proofs.advancing.add_act.Goals as goal

pub cut_of-more-requires-clause-crossing : goal.cut_of-more-requires-clause-crossing
cut_of-more-requires-clause-crossing c = c.requires.crossing

pub renew-requires-clause-safe : goal.renew-requires-clause-safe
renew-requires-clause-safe c = c.requires.safe

pub renew-requires-clause-passed : goal.renew-requires-clause-passed
renew-requires-clause-passed c = c.requires.passed

pub add-requires-clause-forward : goal.add-requires-clause-forward
add-requires-clause-forward c =
    omega (arith, c.renew.ensures.safe.forward, c.renew.ensures.safe.acts, c.facts.ensures.activities, c.cut_of-more.ensures.small_forward)

pub add-requires-clause-backward : goal.add-requires-clause-backward
add-requires-clause-backward c =
    omega (arith, c.renew.ensures.safe.backward, c.renew.ensures.safe.acts, c.facts.ensures.activities, c.cut_of-more.ensures.small_backward)

pub overflow_add-tally : goal.overflow_add-tally
overflow_add-tally c = omega (arith, c.renew.ensures.safe.acts, c.facts.ensures.activities)
