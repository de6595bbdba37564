use Rattle.std.proofs.Common.{refl}
use Rattle.pc_whatif.specs.Planning.{AnswersLines}
use Rattle.pc_whatif.proofs.SessionLaws.{after_hearing, after_no_project, none_taken_of}
use Rattle.pc_whatif.proofs.top.session_outcome.Goals as goal

pub returns-in-Ok-clause-outcome : goal.returns-in-Ok-clause-outcome
returns-in-Ok-clause-outcome g c =
    let named = c.in-Ok.ensures.project in
    after_hearing AnswersLines c.args.words.now _ _ _ _ c.in-Ok.project c.hear.result named.asked named.has named.quiet c.hear.ensures.hearing

pub returns-in-Err-clause-outcome : goal.returns-in-Err-clause-outcome
returns-in-Err-clause-outcome g c = after_no_project AnswersLines c.args.words.now _ _ _ _ c.in-Err.status c.in-Err.ensures.none refl refl

pub returns-in-Ok-clause-edits_stop : goal.returns-in-Ok-clause-edits_stop
returns-in-Ok-clause-edits_stop g c = c.hear.ensures.edits_stop

pub returns-in-Err-clause-edits_stop : goal.returns-in-Err-clause-edits_stop
returns-in-Err-clause-edits_stop g c = none_taken_of _ _ _ _ _ refl
