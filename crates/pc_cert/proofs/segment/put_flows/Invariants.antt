use Rattle.pc_edges.specs.inside.page.Puts.{Puts}
use Rattle.pc_cert.specs.Lines.{numbers}
use Rattle.pc_cert.specs.Listed.{listed}
use Rattle.pc_cert.proofs.segment.put_flows.Given as goal

abbrev pub invariant-loop-k : goal.invariant-loop-k
invariant-loop-k g l =
    Puts g.O.Sink.taken g.O.Sink.faults l.fn.page l.fn.sink l.page l.sink (numbers (listed l.k ((g.V.SegmentView.segment l.view).flow l.a)))
