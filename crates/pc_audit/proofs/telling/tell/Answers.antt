use Rattle.std.proofs.Common.{subst, ◌∙◌}
use Rattle.pc_audit.specs.inside.Certificate.{told, cut}
use Rattle.pc_project.specs.shell.Sides.{side, Took, TookFront}
use Rattle.pc_audit.proofs.telling.tell.Goals as goal

pub returns-in-Ok : goal.returns-in-Ok
returns-in-Ok g c =
    told c.status_for.result c.status_for.ensures
    (subst (Took (side g.O.Sink.taken g.O.Sink.faults c.args.out.now c.send.new.sink))
    (c.as_slice.ensures.value ∙ c.verdict_line.ensures) c.in-Ok.ensures.ok)

pub returns-in-Err : goal.returns-in-Err
returns-in-Err g c =
    cut (subst (TookFront (side g.O.Sink.taken g.O.Sink.faults c.args.out.now c.send.new.sink)) (c.as_slice.ensures.value ∙ c.verdict_line.ensures) c.in-Err.ensures.err)
