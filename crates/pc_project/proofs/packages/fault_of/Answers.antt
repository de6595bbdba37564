use Rattle.std.proofs.Common.{length, ap, subst, arith}
use Rattle.pc_accounts.specs.inside.Packages.{IsFirstUneven}
use Rattle.pc_project.specs.Project.{accounts_in, work_in}
use Rattle.pc_project.proofs.FigureLaws.{work_known}
use Rattle.pc_project.proofs.packages.fault_of.Goals as goal

pub item_card-card-requires : goal.item_card-card-requires
item_card-card-requires c =
    let deck = c.args.cards.now in
    let work = (subst (IsFirstUneven (accounts_in deck) (work_in deck)) c.in-Item.is c.requires.first).0.holds.0 in
    omega (arith, ap length c.items.ensures.cards, work_known deck c.requires.faultless work.0 work.1, work.2)
