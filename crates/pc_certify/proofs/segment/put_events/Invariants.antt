use Rattle.std.proofs.Common.{ℕ, ◌<◌}
use Rattle.pc_model.specs.Codes.{text_at}
use Rattle.pc_text.specs.Fields.{IsCode}
use Rattle.pc_cert.specs.Text.{text_of}
use Rattle.pc_edges.specs.inside.page.Puts.{desk}
use Rattle.pc_cert.specs.Listed.{listed}
use Rattle.pc_cert.specs.Document.{event_line}
use Rattle.pc_certify.specs.inside.fast.Gathers.{Gathers}
use Rattle.pc_certify.specs.inside.fast.Spelled.{AreEventsSpelled}
use Rattle.pc_certify.proofs.segment.put_events.Given as goal

abbrev pub invariant-loop-e : goal.invariant-loop-e
invariant-loop-e g l = record {
  text : Gathers (desk g.O.Sink.taken g.O.Sink.faults l.fn.page l.fn.sink) l.fn.gathered
      (desk g.O.Sink.taken g.O.Sink.faults l.page l.sink) l.gathered
      (text_of (listed l.e (event_line l.net (g.V.SegmentView.segment l.view))));
  codes : (e : ℕ) → e < l.e → IsCode (text_at l.net.events e);
  rows : AreEventsSpelled l.net l.rows.items;
}
