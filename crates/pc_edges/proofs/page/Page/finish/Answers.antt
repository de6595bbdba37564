use Rattle.pc_edges.proofs.Writing.{Writes-flushed}
use Rattle.pc_edges.proofs.page.Page.finish.Goals as goal

pub returns-clause-text : goal.returns-clause-text
returns-clause-text g c = λ start text begun put.
    Writes-flushed c.flush.result (c.in_ok-push_out.ensures.text start text begun put).ok
    c.flush.ensures.bytes c.flush.ensures.no_fault c.flush.ensures.failed c.flush.ensures.count
