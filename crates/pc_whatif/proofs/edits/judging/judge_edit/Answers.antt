use Rattle.std.proofs.Common.{◌≡◌, sym, ap, ◌∙◌}
use Rattle.pc_model.specs.Pieces.{pieces_of}
use Rattle.pc_model.specs.Schedule.{term_at}
use Rattle.pc_whatif.specs.edits.Plans.{nth_estimates, estimates_with, term_with}
use Rattle.pc_whatif.specs.edits.Refusal.{is_over, refusal_of}
use Rattle.pc_whatif.proofs.lemmas.edits.JudgeLaws.{edit_fits, edit_refusal-is, reason_same}
use Rattle.pc_whatif.proofs.edits.judging.judge_edit.Goals.{After-first_reason}
use Rattle.pc_whatif.proofs.edits.judging.judge_edit.Goals as goal

reason_is : (c : After-first_reason) → c.first_reason.result ≡ refusal_of (is_over c.args.edit.now.change) (term_with c.args.edit.now.change (term_at c.args.net.now.terms c.in-Some.a))
    (estimates_with c.args.edit.now.change (nth_estimates c.args.estimates.now c.in-Some.a)) (pieces_of c.args.net.now.pieces c.in-Some.a)
reason_is c =
    reason_same _ _ c.is_over.ensures (c.term_with-term.ensures ∙ ap (term_with c.args.edit.now.change) c.term.ensures) c.estimates_with-own.ensures c.first_reason.ensures

pub returns-in-None-clause-fits : goal.returns-in-None-clause-fits
returns-in-None-clause-fits c =
    edit_fits c.args.net.now c.args.estimates.now c.requires c.in-Some.a c.in-Some.ensures.known _ c.args.edit.now (sym c.named.ensures.value ∙ c.in-Some.is)
    (reason_is (goal.at.returns-in-None-clause-fits c).After-first_reason) c.in-None.is

pub returns-in-None-clause-accepted : goal.returns-in-None-clause-accepted
returns-in-None-clause-accepted c =
    edit_refusal-is c.args.net.now c.args.estimates.now c.requires c.in-Some.a c.in-Some.ensures.known _ c.args.edit.now (sym c.named.ensures.value ∙ c.in-Some.is)
    (reason_is (goal.at.returns-in-None-clause-accepted c).After-first_reason)
    ∙ c.in-None.is

pub returns-in-Some-first_reason-clause-refused : goal.returns-in-Some-first_reason-clause-refused
returns-in-Some-first_reason-clause-refused c =
    edit_refusal-is c.args.net.now c.args.estimates.now c.requires c.in-Some.a c.in-Some.ensures.known _ c.args.edit.now (sym c.named.ensures.value ∙ c.in-Some.is)
    (reason_is (goal.at.returns-in-Some-first_reason-clause-refused c).After-first_reason)
    ∙ c.in-Some-first_reason.is
