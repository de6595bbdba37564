use Rattle.pc_tasks.specs.network.Arrows.{firsts, lasts}
use Rattle.pc_tasks.proofs.lemmas.network.Outer.{ends, narrow_outer, joined_in_range}
use Rattle.pc_tasks.proofs.lemmas.network.Sound as sound
use Rattle.pc_tasks.proofs.network.arrows_are_sound.Goals as goal

pub returns-clause-range : goal.returns-clause-range
returns-clause-range c n afters among = joined_in_range n afters among (ends n (firsts n afters) (lasts n afters)) (narrow_outer n afters)

pub returns-clause-sound : goal.returns-clause-sound
returns-clause-sound c n afters among some acyclic = sound.arrows_are_sound n afters among some acyclic
