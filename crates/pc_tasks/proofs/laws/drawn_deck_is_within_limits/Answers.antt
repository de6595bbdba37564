use Rattle.pc_tasks.proofs.WithinLemmas.{drawn-within}
use Rattle.pc_tasks.proofs.laws.drawn_deck_is_within_limits.Goals as goal

pub returns : goal.returns
returns c deck within can = drawn-within deck within can
