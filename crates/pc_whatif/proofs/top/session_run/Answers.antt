use Rattle.pc_whatif.specs.Planning.{AnswersLines}
use Rattle.pc_project.proofs.lemmas.shell.VerdictLaws.{not_both}
use Rattle.pc_whatif.proofs.DeckTextLaws.{one_text_on, in_order_on}
use Rattle.pc_whatif.proofs.SessionDecided.{ended, went_on, not_read, refused_is_read, session_cut, not_refused_accepts, refused_deck_ends, accepted_deck_ends, long_edits_end}
use Rattle.pc_whatif.proofs.top.session_run.Goals as goal

pub returns-clause-heard : goal.returns-clause-heard
returns-clause-heard g c = ended AnswersLines c.args.words.now _ _ _ _ c.code.result c.session_outcome.result c.session_outcome.ensures.outcome c.code.ensures

pub returns-clause-too_long : goal.returns-clause-too_long
returns-clause-too_long g c = went_on AnswersLines c.args.words.now _ _ _ _ c.code.result c.session_outcome.result c.session_outcome.ensures.outcome c.code.ensures

pub returns-clause-read_fault : goal.returns-clause-read_fault
returns-clause-read_fault g c = not_read AnswersLines c.args.words.now _ _ _ _ c.code.result c.session_outcome.result c.session_outcome.ensures.outcome c.code.ensures

pub returns-clause-write_fault : goal.returns-clause-write_fault
returns-clause-write_fault g c = session_cut AnswersLines c.args.words.now _ _ _ _ c.code.result c.session_outcome.result c.session_outcome.ensures.outcome c.code.ensures

pub returns-clause-acceptance : goal.returns-clause-acceptance
returns-clause-acceptance g c =
    λ asked reads. not_refused_accepts AnswersLines c.args.words.now _ _ _ _ c.code.result asked reads c.session_outcome.result
    c.session_outcome.ensures.outcome c.code.ensures

pub returns-clause-deck_refused : goal.returns-clause-deck_refused
returns-clause-deck_refused g c = λ asked. refused_deck_ends AnswersLines c.args.words.now _ _ _ _ c.code.result asked c.session_outcome.result c.session_outcome.ensures.outcome c.code.ensures

pub returns-clause-deck_accepted : goal.returns-clause-deck_accepted
returns-clause-deck_accepted g c = λ asked. accepted_deck_ends AnswersLines c.args.words.now _ _ _ _ c.code.result asked c.session_outcome.result c.session_outcome.ensures.outcome c.code.ensures

pub returns-clause-long_edits : goal.returns-clause-long_edits
returns-clause-long_edits g c = λ takes. long_edits_end AnswersLines c.args.words.now _ _ _ _ c.code.result takes c.session_outcome.result c.session_outcome.ensures.outcome c.code.ensures

pub returns-clause-refused_read : goal.returns-clause-refused_read
returns-clause-refused_read g c = refused_is_read AnswersLines c.args.words.now _ _ _ _ c.code.result c.session_outcome.result c.session_outcome.ensures.outcome c.code.ensures

pub returns-clause-one_verdict : goal.returns-clause-one_verdict
returns-clause-one_verdict g c = λ bytes accepted refused. not_both bytes accepted.0 refused.0 accepted.1 refused.1

pub returns-clause-one_text : goal.returns-clause-one_text
returns-clause-one_text g c = one_text_on

pub returns-clause-in_order : goal.returns-clause-in_order
returns-clause-in_order g c = in_order_on
