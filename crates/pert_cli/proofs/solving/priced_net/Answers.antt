use Rattle.pc_project.proofs.lemmas.shell.PricedLaws.{priced_is}
use Rattle.pert_cli.proofs.solving.priced_net.Goals as goal

pub returns : goal.returns
returns c =
    let has = c.in_ok-net.ensures in
    priced_is c.in_ok-net.net c.args.project.now has.network has.terms has.pieces has.project has.events has.activities
