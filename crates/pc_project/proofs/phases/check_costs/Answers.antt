use Rattle.std.proofs.Common.{◌∙◌, sym}
use Rattle.pc_faults.specs.inside.First.{Refuses}
use Rattle.pc_project.specs.Refusal.{IsRefusedWith, of_terms}
use Rattle.pc_project.proofs.CardLaws.{first_bonus}
use Rattle.pc_project.proofs.RefusalLaws.{handed_on, refused_by_pieces}
use Rattle.pc_project.proofs.phases.check_costs.Goals as goal

pub returns-in_err-check_pieces-clause-refused : goal.returns-in_err-check_pieces-clause-refused
returns-in_err-check_pieces-clause-refused c =
    handed_on (Refuses (IsRefusedWith c.args.cards.now)) c.from_residual.result c.in_err-check_pieces.field-0.0 c.from_residual.ensures.1
    (refused_by_pieces c.args.cards.now c.in_err-check_pieces.field-0.0 c.requires.plan c.requires.figures c.in_err-check_pieces.ensures.first)

pub returns-in-Some-clause-refused : goal.returns-in-Some-clause-refused
returns-in-Some-clause-refused c =
    of_terms c.requires.plan c.requires.figures c.in_ok-check_pieces.ensures.none
    (first_bonus c.args.cards.now c.in-Some.card c.new.result (sym c.terms.ensures.terms ∙ c.in-Some.is) c.if-card.true c.new.ensures)
