use Rattle.std.proofs.Common.{◌≡◌, refl, sym, ap, ◌∙◌}
use Rattle.pc_model.specs.Pieces.{pieces_of}
use Rattle.pc_model.specs.Schedule.{term_at}
use Rattle.pc_whatif.specs.edits.Plans.{nth_estimates, term_tried}
use Rattle.pc_whatif.specs.edits.Refusal.{is_trial_over, refusal_of}
use Rattle.pc_whatif.proofs.lemmas.edits.JudgeLaws.{MayTry-is, trial_refusal-is, reason_same}
use Rattle.pc_whatif.proofs.edits.judging.judge_trial.Goals.{After-first_reason}
use Rattle.pc_whatif.proofs.edits.judging.judge_trial.Goals as goal

term_is : (c : After-first_reason) → c.term_tried-term.result ≡ term_tried c.args.trial.now (term_at c.args.net.now.terms c.in-Some.a)
term_is c = c.term_tried-term.ensures ∙ ap (term_tried c.args.trial.now) c.term.ensures

reason_is : (c : After-first_reason) → c.first_reason.result ≡ refusal_of (is_trial_over c.args.trial.now) (term_tried c.args.trial.now (term_at c.args.net.now.terms c.in-Some.a))
    (nth_estimates c.args.estimates.now c.in-Some.a) (pieces_of c.args.net.now.pieces c.in-Some.a)
reason_is c = reason_same {estimates = nth_estimates c.args.estimates.now c.in-Some.a} _ _ c.is_trial_over.ensures (term_is c) refl c.first_reason.ensures

pub returns-in-None-clause-fits : goal.returns-in-None-clause-fits
returns-in-None-clause-fits c =
    let found = (goal.at.returns-in-None-clause-fits c).After-first_reason in
    MayTry-is c.args.net.now c.args.estimates.now c.requires c.in-Some.a c.in-Some.ensures.known _ c.args.trial.now (sym c.named.ensures.value ∙ c.in-Some.is)
    (reason_is found) c.term_tried-term.result (term_is found) c.in-None.is

pub returns-in-None-clause-accepted : goal.returns-in-None-clause-accepted
returns-in-None-clause-accepted c =
    trial_refusal-is c.args.net.now c.args.estimates.now c.requires c.in-Some.a c.in-Some.ensures.known _ c.args.trial.now (sym c.named.ensures.value ∙ c.in-Some.is)
    (reason_is (goal.at.returns-in-None-clause-accepted c).After-first_reason)
    ∙ c.in-None.is

pub returns-in-Some-first_reason-clause-refused : goal.returns-in-Some-first_reason-clause-refused
returns-in-Some-first_reason-clause-refused c =
    trial_refusal-is c.args.net.now c.args.estimates.now c.requires c.in-Some.a c.in-Some.ensures.known _ c.args.trial.now (sym c.named.ensures.value ∙ c.in-Some.is)
    (reason_is (goal.at.returns-in-Some-first_reason-clause-refused c).After-first_reason)
    ∙ c.in-Some-first_reason.is
