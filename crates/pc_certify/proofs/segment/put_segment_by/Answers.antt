use Rattle.std.proofs.Common.{length}
use Rattle.pc_cert.specs.declared.line.CertLine.TheVariants.{Close}
use Rattle.pc_edges.proofs.lemmas.page.PageLaws.{Adds-as, ◌⨾◌}
use Rattle.pc_cert.specs.Listed.{listed}
use Rattle.pc_cert.specs.Document.{ends_line, event_line, act_line}
use Rattle.pc_cert.proofs.WordLaws.{text_of-between}
use Rattle.pc_certify.proofs.lemmas.fast.GatherLaws.{Gathers-all, Gathers-then}
use Rattle.pc_cert.proofs.FitLaws.{segment_fits}
use Rattle.pc_certify.proofs.segment.put_segment_by.Goals as goal

pub returns : goal.returns
returns g c =
    let net = c.args.net.now in
    let seg = g.V.SegmentView.segment c.args.view.now in
    let lines = Gathers-all c.clear.ensures (Gathers-then c.put_events.ensures.text c.put_acts.ensures.text) c.put_all.ensures.text in
    record {
      text = Adds-as _ (text_of-between (ends_line seg) (listed net.network.events (event_line net seg)) (listed (length net.network.arcs) (act_line net seg)) Close)
          (c.put_ends.ensures ⨾ lines ⨾ c.put.ensures);
      fit = λ small. segment_fits net c.facts.ensures.priced c.facts.ensures.pieces seg c.put_events.ensures.codes c.put_acts.ensures.codes small;
      events = c.put_events.ensures.rows;
      acts = c.put_acts.ensures.rows;
    }
