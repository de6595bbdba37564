use Rattle.pc_rollup.specs.figures.Slacks.{slack_at}
use Rattle.pc_rollup.proofs.lemmas.figures.PushLaws.{if_answered}
use Rattle.pc_rollup.proofs.lemmas.figures.SlackLaws.{least_slacks_are}
use Rattle.pc_rollup.proofs.figures.slacks.least_slacks.Goals as goal

pub returns : goal.returns
returns c =
    if_answered c.least_of.result _ _
    (λ slacks least. least_slacks_are c.args.tree.now c.args.places.now
    (slack_at c.args.net.now c.args.late.now c.args.expected.now.finishes) c.deref.result.now slacks.items
    (rw c.deref.ensures.value c.in_ok-placed.ensures) least)
    c.least_of.ensures
