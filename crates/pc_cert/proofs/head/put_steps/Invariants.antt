use Rattle.std.proofs.Common.{take}
use Rattle.pc_cert.specs.Text.{text_of, AreWritable}
use Rattle.pc_edges.specs.inside.page.Puts.{Puts}
use Rattle.pc_cert.specs.Document.{steps}
use Rattle.pc_cert.proofs.head.put_steps.Given as goal

abbrev pub invariant-loop-a : goal.invariant-loop-a
invariant-loop-a g l = record {
  text : Puts g.O.Sink.taken g.O.Sink.faults l.fn.page l.fn.sink l.page l.sink (text_of (steps l.net (take l.a-index l.walk)));
  fit : AreWritable (steps l.net (take l.a-index l.walk));
}
