use Rattle.pc_edges.specs.inside.page.Puts.{desk}
use Rattle.pc_certify.proofs.DescentLaws.{IsPut, still_to_come}
use Rattle.pc_certify.specs.inside.fast.Spelled.{AreEventsSpelled, AreActsSpelled}
use Rattle.pc_certify.proofs.certificate.put_segments.Given as goal

abbrev pub invariant-loop-page : goal.invariant-loop-page
invariant-loop-page g l = record {
  put : IsPut l.net l.walks.normal.path l.walks.crash.path l.solver (desk g.O.Sink.taken g.O.Sink.faults l.fn.page l.fn.sink) (desk g.O.Sink.taken g.O.Sink.faults l.page l.sink);
  events : AreEventsSpelled l.net l.lines.events.items;
  acts : AreActsSpelled l.net l.lines.acts.items;
}

abbrev pub decreases-loop-page : goal.decreases-loop-page
decreases-loop-page g l = still_to_come l.solver
