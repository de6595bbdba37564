use Rattle.std.proofs.Common.{List, ℕ, refl, sym, subst}
use Rattle.pc_whatif.specs.edits.Editing.{Editing}
use Rattle.pc_project.specs.Project.{Project}
use Rattle.pc_project.specs.declared.shell.status.Status.{Status}
use Rattle.pc_project.specs.shell.Sides.{side, pulled_side}
use Rattle.pc_edges.specs.inside.lines.Talk.{Answered}
use Rattle.pc_whatif.specs.Planning.{AnswersLines, AreAnswers}
use Rattle.pc_whatif.specs.inside.Planning.{AnswersLine}
use Rattle.pc_whatif.proofs.AnswerLaws.{answers_of}
use Rattle.pc_whatif.specs.inside.Hearing.{Hearing, no_room}
use Rattle.pc_whatif.proofs.SessionLaws.{heard, none_taken_of}
use Rattle.pc_whatif.proofs.top.hear.Goals as goal

pub returns-in_default-clause-hearing : goal.returns-in_default-clause-hearing
returns-in_default-clause-hearing g c = no_room refl refl

pub returns-in_default-begin-clause-hearing : goal.returns-in_default-begin-clause-hearing
returns-in_default-begin-clause-hearing g c = no_room refl refl

pub returns-in_default-clause-edits_stop : goal.returns-in_default-clause-edits_stop
returns-in_default-clause-edits_stop g c = none_taken_of _ _ _ _ _ refl

pub returns-in_default-begin-clause-edits_stop : goal.returns-in_default-begin-clause-edits_stop
returns-in_default-begin-clause-edits_stop g c = none_taken_of _ _ _ _ _ refl

pub returns-clause-edits_stop : goal.returns-clause-edits_stop
returns-clause-edits_stop g c = c.talk.ensures.within

pub returns-clause-hearing : goal.returns-clause-hearing
returns-clause-hearing g c =
    let project = c.args.project.now in
    let session = c.in-Ok-begin.session in
    let mean : (lines : List (List ℕ)) (text : List ℕ) → Answered AnswersLine session lines text c.talk.new.talker → AnswersLines project lines text =
    λ lines text h. subst (λ (e : Editing). AreAnswers project e lines text) c.in-Ok-begin.ensures.editing
    (subst (λ (p : Project). AreAnswers p session.editing lines text) c.in-Ok-begin.ensures.project (answers_of session c.talk.new.talker lines text h)) in
    subst (λ (status : Status). Hearing (AnswersLines project) (pulled_side g.C.Source.left g.C.Source.faults g.C.Source.pulls c.args.edits.now c.talk.new.source)
    (side g.O.Sink.taken g.O.Sink.faults c.args.out.now c.talk.new.out) status)
    (sym c.status_of.ensures)
    (heard AnswersLine g.C.Source.left g.C.Source.faults g.C.Source.pulls g.O.Sink.taken g.O.Sink.faults session c.talk.new.talker c.args.edits.now
    c.talk.new.source c.args.out.now c.talk.new.out (AnswersLines project) mean c.talk.result c.talk.ensures.ends)
