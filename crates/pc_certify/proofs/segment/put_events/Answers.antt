use Rattle.std.proofs.Common.{below_more, arith}
use Rattle.pc_edges.specs.inside.page.Puts.{desk}
use Rattle.pc_certify.proofs.lemmas.fast.GatherLaws.{Gathers-nil, Gathers-as, Gathers-then}
use Rattle.pc_cert.specs.Document.{event_line}
use Rattle.pc_cert.proofs.WordLaws.{text_of-more}
use Rattle.pc_certify.proofs.segment.put_events.Goals as goal

pub loop-e-init : goal.loop-e-init
loop-e-init g c = record {
  text = Gathers-nil (desk g.O.Sink.taken g.O.Sink.faults c.args.page.now c.args.sink.now) c.args.gathered.now;
  codes = λ e lt. absurd (omega arith);
  rows = c.requires.rows;
}

pub loop-e-preserved : goal.loop-e-preserved
loop-e-preserved g c = record {
  text = Gathers-as (text_of-more c.loop-e.e (event_line c.args.net.now (g.V.SegmentView.segment c.args.view.now))) (Gathers-then c.loop-e.invariant.text c.put_event.ensures.text);
  codes = below_more _ _ c.loop-e.invariant.codes c.put_event.ensures.code;
  rows = c.put_event.ensures.rows;
}
