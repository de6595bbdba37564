use Rattle.std.proofs.Common.{refl, sym, subst}
use Rattle.pc_faults.specs.declared.fault.Fault.{Fault}
use Rattle.pc_faults.specs.inside.FaultText.{IsTold}
use Rattle.pc_project.specs.inside.shell.Refusing.{Refusal}
use Rattle.pc_project.specs.shell.Sides.{side, Took, TookFront}
use Rattle.pert_cli.specs.Outcome.{in_usage}
use Rattle.pert_cli.specs.inside.Outcome.{usage, no_memory, read_fault, write_fault}
use Rattle.pert_cli.proofs.OutcomeLaws.{after_refusal, after_reply}
use Rattle.pc_deck.specs.Limits.{longest_deck}
use Rattle.pc_edges.specs.declared.loading.TheConstants.{STREAM_ROOM}
use Rattle.pc_edges.proofs.PullLaws.{IsReadWithin_none}
use Rattle.pert_cli.proofs.top.outcome.Goals as goal

pub refuse-requires : goal.refuse-requires
refuse-requires g c =
    let why = rw c.in-Err-Refused.field-0-is at c.in-Err-Refused.ensures.none in
    subst IsTold (sym c.in-Err-Refused.fault-is) why.0

pub returns-in-Ok-clause-outcome : goal.returns-in-Ok-clause-outcome
returns-in-Ok-clause-outcome g c =
    usage c.in_default.ensures.none (subst (Took (side g.E.Sink.taken g.E.Sink.faults c.args.err.now c.send.new.sink)) c.usage.ensures c.in-Ok.ensures.ok) refl refl

pub returns-in-Err-clause-outcome : goal.returns-in-Err-clause-outcome
returns-in-Err-clause-outcome g c =
    write_fault (in_usage c.in_default.ensures.none
    (subst (TookFront (side g.E.Sink.taken g.E.Sink.faults c.args.err.now c.send.new.sink))
    c.usage.ensures c.in-Err.ensures.err) refl refl)

pub returns-in-Ok-project_for-clause-outcome : goal.returns-in-Ok-project_for-clause-outcome
returns-in-Ok-project_for-clause-outcome g c =
    after_reply c.args.words.now _ _ _ c.in-Some.form c.in-Some.ensures.form c.in-Ok-project_for.project c.answer.result c.in-Ok-project_for.ensures.project c.answer.ensures

pub returns-in-Err-Refused-clause-outcome : goal.returns-in-Err-Refused-clause-outcome
returns-in-Err-Refused-clause-outcome g c =
    let why = rw c.in-Err-Refused.field-0-is at c.in-Err-Refused.ensures.none in
    after_refusal c.args.words.now _ _ _ c.in-Some.form c.in-Some.ensures.form c.in-Err-Refused.fault c.refuse.result why.1 refl
    (subst (λ (fault : Fault). Refusal fault (side g.E.Sink.taken g.E.Sink.faults c.args.err.now c.refuse.new.err) c.refuse.result) c.in-Err-Refused.fault-is c.refuse.ensures)

pub returns-in-Err-ReadFault-clause-outcome : goal.returns-in-Err-ReadFault-clause-outcome
returns-in-Err-ReadFault-clause-outcome g c =
    let why = rw c.in-Err-ReadFault.field-0-is at c.in-Err-ReadFault.ensures.none in
    read_fault (c.in-Some.form, c.in-Some.ensures.form, why.0) why.1 why.2 refl refl

pub returns-clause-outcome : goal.returns-clause-outcome
returns-clause-outcome g c =
    no_memory c.in-Some.form c.in-Some.ensures.form (rw c.in-Err-OutOfMemory.field-0-is at c.in-Err-OutOfMemory.ensures.none) refl refl

pub project_for-requires : goal.project_for-requires
project_for-requires g c = c.in-Some.ensures.form.numbered

pub returns-in-Ok-clause-stops : goal.returns-in-Ok-clause-stops
returns-in-Ok-clause-stops g c = IsReadWithin_none longest_deck STREAM_ROOM g.S.Source.left g.S.Source.faults g.S.Source.pulls c.args.source.now

pub returns-in-Err-clause-stops : goal.returns-in-Err-clause-stops
returns-in-Err-clause-stops g c = IsReadWithin_none longest_deck STREAM_ROOM g.S.Source.left g.S.Source.faults g.S.Source.pulls c.args.source.now

pub answer-requires : goal.answer-requires
answer-requires g c = c.in-Some.ensures.form.numbered

pub returns-in-Ok-project_for-clause-stops : goal.returns-in-Ok-project_for-clause-stops
returns-in-Ok-project_for-clause-stops g c = c.project_for.ensures.stops

pub returns-in-Err-Refused-clause-stops : goal.returns-in-Err-Refused-clause-stops
returns-in-Err-Refused-clause-stops g c = c.project_for.ensures.stops

pub returns-in-Err-ReadFault-clause-stops : goal.returns-in-Err-ReadFault-clause-stops
returns-in-Err-ReadFault-clause-stops g c = c.project_for.ensures.stops

pub returns-clause-stops : goal.returns-clause-stops
returns-clause-stops g c = c.project_for.ensures.stops
