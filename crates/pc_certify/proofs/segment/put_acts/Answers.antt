use Rattle.std.proofs.Common.{below_more, arith}
use Rattle.pc_edges.specs.inside.page.Puts.{desk}
use Rattle.pc_certify.proofs.lemmas.fast.GatherLaws.{Gathers-nil, Gathers-as, Gathers-then}
use Rattle.pc_cert.specs.Document.{act_line}
use Rattle.pc_cert.proofs.WordLaws.{text_of-more}
use Rattle.pc_certify.proofs.segment.put_acts.Goals as goal

pub loop-a-init : goal.loop-a-init
loop-a-init g c = record {
  text = Gathers-nil (desk g.O.Sink.taken g.O.Sink.faults c.args.page.now c.args.sink.now) c.args.gathered.now;
  codes = λ a lt. absurd (omega arith);
  rows = c.requires.rows;
}

pub loop-a-preserved : goal.loop-a-preserved
loop-a-preserved g c = record {
  text = Gathers-as (text_of-more c.loop-a.a (act_line c.args.net.now (g.V.SegmentView.segment c.args.view.now))) (Gathers-then c.loop-a.invariant.text c.put_act.ensures.text);
  codes = below_more _ _ c.loop-a.invariant.codes c.put_act.ensures.code;
  rows = c.put_act.ensures.rows;
}
