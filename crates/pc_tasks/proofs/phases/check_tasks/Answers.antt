use Rattle.std.proofs.Common.{◌<◌, length, arith}
use Rattle.std.proofs.lemmas.Bool.Decides.{nat_tests}
use Rattle.pc_tasks.specs.Refusal.{of_cycle}
use Rattle.pc_tasks.proofs.phases.check_tasks.Goals as goal

pub circle_fault-requires-clause-faultless : goal.circle_fault-requires-clause-faultless
circle_fault-requires-clause-faultless c = c.requires.items.cards

pub circle_fault-requires-clause-some : goal.circle_fault-requires-clause-some
circle_fault-requires-clause-some c = grind (arith, nat_tests)

pub circle_fault-requires-clause-afters : goal.circle_fault-requires-clause-afters
circle_fault-requires-clause-afters c = c.requires.afters

pub returns-in-Some-clause-refused : goal.returns-in-Some-clause-refused
returns-in-Some-clause-refused c =
    let some : 0 < length c.args.cards.now.tasks = grind (arith, nat_tests) in
    of_cycle c.requires.items some (rw c.in-Some.is at c.in_ok-fault.ensures)

pub returns-in-None-clause-sound : goal.returns-in-None-clause-sound
returns-in-None-clause-sound c =
    let some : 0 < length c.args.cards.now.tasks = grind (arith, nat_tests) in
    record { items = c.requires.items; some = some; no_cycle = rw c.in-None.is at c.in_ok-fault.ensures }
