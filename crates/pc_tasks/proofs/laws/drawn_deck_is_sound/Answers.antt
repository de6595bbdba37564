use Rattle.std.proofs.Common.{subst}
use Rattle.pc_tasks.specs.network.Tasks.{AreAmong}
use Rattle.pc_tasks.specs.Lists.{afters_in}
use Rattle.pc_tasks.proofs.DrawnLemmas.{afters-among, tasks-terms}
use Rattle.pc_tasks.proofs.KeepLemmas.{keeps_tasks}
use Rattle.pc_tasks.proofs.KnownLemmas.{can_be_drawn}
use Rattle.pc_tasks.proofs.SoundLemmas.{drawn-sound}
use Rattle.pc_tasks.proofs.laws.drawn_deck_is_sound.Goals as goal

pub returns-clause-sound : goal.returns-clause-sound
returns-clause-sound c = λ deck within sound.
    let can = can_be_drawn deck sound.items.cards within in
    let among = subst (λ n. AreAmong n (afters_in deck)) (tasks-terms deck can) (afters-among deck can) in
    drawn-sound deck within sound.items.cards sound.items.tree (c.arrows_are_sound.ensures.sound _ (afters_in deck) among sound.some sound.no_cycle)

pub returns-clause-keeps : goal.returns-clause-keeps
returns-clause-keeps c = λ deck project within sound is.
    let can = can_be_drawn deck sound.items.cards within in
    keeps_tasks deck project is
    (λ limit. c.drawn_deck_keeps_least_costs.ensures.schedules deck limit can sound.no_cycle)
    (λ limit cost. c.drawn_deck_keeps_least_costs.ensures.costs deck limit cost can sound.no_cycle)
