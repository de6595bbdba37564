use Rattle.pc_faults.specs.inside.First.{Refuses}
use Rattle.pc_project.specs.Refusal.{IsRefusedWith}
use Rattle.pc_project.proofs.RefusalLaws.{handed_on, refused_by_leaves, refused_by_packages}
use Rattle.pc_project.proofs.phases.check_items.Goals as goal

pub returns-in_err-check_leaves-clause-refused : goal.returns-in_err-check_leaves-clause-refused
returns-in_err-check_leaves-clause-refused c =
    handed_on (Refuses (IsRefusedWith c.args.cards.now)) c.from_residual.result c.in_err-check_leaves.field-0.0 c.from_residual.ensures.1
    (refused_by_leaves c.args.cards.now c.in_err-check_leaves.field-0.0 c.requires.plan c.in_err-check_leaves.ensures.first)

pub returns-in_err-check_packages-clause-refused : goal.returns-in_err-check_packages-clause-refused
returns-in_err-check_packages-clause-refused c =
    handed_on (Refuses (IsRefusedWith c.args.cards.now)) c.from_residual-in_err-check_packages.result c.in_err-check_packages.field-0.0
    c.from_residual-in_err-check_packages.ensures.1
    (refused_by_packages c.args.cards.now c.in_err-check_packages.field-0.0 c.requires.plan c.in_ok-check_leaves.ensures.none c.in_err-check_packages.ensures.first)
