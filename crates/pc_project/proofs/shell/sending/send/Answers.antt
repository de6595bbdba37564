use Rattle.pc_edges.proofs.Writing.{Writes-flushed}
use Rattle.pc_project.proofs.shell.sending.send.Goals as goal

pub returns : goal.returns
returns g c =
    Writes-flushed c.flush.result c.in_ok-push_all.ensures.ok c.flush.ensures.bytes c.flush.ensures.no_fault c.flush.ensures.failed c.flush.ensures.count
