use Rattle.std.proofs.Common.{ap, length, arith}
use Rattle.pc_tasks.proofs.WithinLemmas.{few-tasks}
use Rattle.pc_tasks.proofs.draw.put_acts.Goals as goal

pub put_tasks-requires : goal.put_tasks-requires
put_tasks-requires c = omega (arith, ap length c.tasks.ensures.cards, few-tasks c.args.cards.now c.tasks.ensures.within)
