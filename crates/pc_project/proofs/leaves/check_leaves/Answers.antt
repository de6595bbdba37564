use Rattle.std.proofs.Common.{◌∙◌, sym, subst}
use Rattle.pc_faults.specs.inside.First.{IsFirstIn}
use Rattle.pc_project.specs.PackageFaults.{HasLeafFault}
use Rattle.pc_project.proofs.BranchLaws.{first_of_leaves}
use Rattle.pc_project.proofs.leaves.check_leaves.Goals as goal

pub returns-in-Some-clause-first : goal.returns-in-Some-clause-first
returns-in-Some-clause-first c =
    subst (IsFirstIn (HasLeafFault c.args.cards.now)) (sym c.earliest.ensures ∙ c.in-Some.is)
    (first_of_leaves c.args.cards.now c.act_fault-of_acts.result c.account_fault-of_accounts.result c.act_fault-of_acts.ensures c.account_fault-of_accounts.ensures)

pub returns-in-None-clause-none : goal.returns-in-None-clause-none
returns-in-None-clause-none c =
    subst (IsFirstIn (HasLeafFault c.args.cards.now)) (sym c.earliest.ensures ∙ c.in-None.is)
    (first_of_leaves c.args.cards.now c.act_fault-of_acts.result c.account_fault-of_accounts.result c.act_fault-of_acts.ensures c.account_fault-of_accounts.ensures)
