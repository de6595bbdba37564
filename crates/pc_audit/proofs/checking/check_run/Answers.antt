use Rattle.pc_audit.proofs.CheckLaws.{one_finding, one_verdict}
use Rattle.pc_audit.proofs.CheckDecided.{found_certified, found_failing, headline, check_cut, not_refused_accepts, refused_deck_ends, right_ends, wrong_ends}
use Rattle.pc_project.proofs.lemmas.shell.VerdictLaws.{not_both}
use Rattle.pc_audit.proofs.checking.check_run.Goals as goal

pub returns-clause-certified : goal.returns-clause-certified
returns-clause-certified g c = found_certified c.args.words.now _ _ _ _ c.code.result c.check_outcome.result c.check_outcome.ensures.outcome c.code.ensures

pub returns-clause-not_certified : goal.returns-clause-not_certified
returns-clause-not_certified g c = found_failing c.args.words.now _ _ _ _ c.code.result c.check_outcome.result c.check_outcome.ensures.outcome c.code.ensures

pub returns-clause-headline : goal.returns-clause-headline
returns-clause-headline g c = headline c.args.words.now _ _ _ _ c.code.result c.check_outcome.result c.check_outcome.ensures.outcome c.code.ensures

pub returns-clause-write_fault : goal.returns-clause-write_fault
returns-clause-write_fault g c = check_cut c.args.words.now _ _ _ _ c.code.result c.check_outcome.result c.check_outcome.ensures.outcome c.code.ensures

pub returns-clause-one_verdict : goal.returns-clause-one_verdict
returns-clause-one_verdict g c = one_verdict

pub returns-clause-one_finding : goal.returns-clause-one_finding
returns-clause-one_finding g c = one_finding

pub returns-clause-one_deck_verdict : goal.returns-clause-one_deck_verdict
returns-clause-one_deck_verdict g c = λ bytes accepted refused. not_both bytes accepted.0 refused.0 accepted.1 refused.1

pub returns-clause-acceptance : goal.returns-clause-acceptance
returns-clause-acceptance g c = λ asked reads. not_refused_accepts c.args.words.now _ _ _ _ c.code.result asked reads c.check_outcome.result c.check_outcome.ensures.outcome c.code.ensures

pub returns-clause-deck_refused : goal.returns-clause-deck_refused
returns-clause-deck_refused g c = λ asked. refused_deck_ends c.args.words.now _ _ _ _ c.code.result asked c.check_outcome.result c.check_outcome.ensures.outcome c.code.ensures

pub returns-clause-certificate_right : goal.returns-clause-certificate_right
returns-clause-certificate_right g c = λ asked. right_ends c.args.words.now _ _ _ _ c.code.result asked c.check_outcome.result c.check_outcome.ensures.outcome c.code.ensures

pub returns-clause-certificate_wrong : goal.returns-clause-certificate_wrong
returns-clause-certificate_wrong g c = λ asked. wrong_ends c.args.words.now _ _ _ _ c.code.result asked c.check_outcome.result c.check_outcome.ensures.outcome c.code.ensures
