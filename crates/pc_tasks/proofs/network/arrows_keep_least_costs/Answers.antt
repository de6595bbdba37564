use Rattle.pc_tasks.proofs.lemmas.network.Keeping.{drawn_least, read_least}
use Rattle.pc_tasks.proofs.network.arrows_keep_least_costs.Goals as goal

pub returns-clause-drawn : goal.returns-clause-drawn
returns-clause-drawn c terms pieces afters limit cost among named sound least = drawn_least terms afters limit among pieces named cost sound least

pub returns-clause-read : goal.returns-clause-read
returns-clause-read c terms pieces afters limit cost among named sound least = read_least terms afters limit among pieces named cost sound least
