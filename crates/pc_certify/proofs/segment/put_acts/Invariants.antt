use Rattle.std.proofs.Common.{ℕ, ◌<◌}
use Rattle.pc_model.specs.Codes.{text_at}
use Rattle.pc_text.specs.Fields.{IsCode}
use Rattle.pc_cert.specs.Text.{text_of}
use Rattle.pc_edges.specs.inside.page.Puts.{desk}
use Rattle.pc_cert.specs.Listed.{listed}
use Rattle.pc_cert.specs.Document.{act_line}
use Rattle.pc_certify.specs.inside.fast.Gathers.{Gathers}
use Rattle.pc_certify.specs.inside.fast.Spelled.{AreActsSpelled}
use Rattle.pc_certify.proofs.segment.put_acts.Given as goal

abbrev pub invariant-loop-a : goal.invariant-loop-a
invariant-loop-a g l = record {
  text : Gathers (desk g.O.Sink.taken g.O.Sink.faults l.fn.page l.fn.sink) l.fn.gathered
      (desk g.O.Sink.taken g.O.Sink.faults l.page l.sink) l.gathered
      (text_of (listed l.a (act_line l.net (g.V.SegmentView.segment l.view))));
  codes : (a : ℕ) → a < l.a → IsCode (text_at l.net.activities a);
  rows : AreActsSpelled l.net l.rows.items;
}
