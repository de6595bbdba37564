use Rattle.std.proofs.Common.{◌≡◌, ℕ, slice_index, ap, subst, sym, ◌∙◌, arith}
use Rattle.pc_model.specs.Network.{Network}
use Rattle.pc_times.specs.Late.{AreLate}
use Rattle.pc_reports.specs.Times.{end_to_meet}
use Rattle.pc_reports.proofs.times_report.TimesReport.build.Goals as goal

pub longest-requires : goal.longest-requires
longest-requires c = rw (c.net.ensures.network, c.expected.ensures.expected) c.net.ensures.planned.lengths

pub returns : goal.returns
returns c =
    let project = c.args.project.now in
    let found = c.in_ok-longest.longest in
    let end : c.length.result ≡ slice_index found.times project.network.end = c.length.ensures ∙ sym c.in_ok-longest.ensures.end_time
    ∙ ap (λ (n : Network). slice_index found.times n.end) c.net.ensures.network in
    record {
      early = rw (← c.net.ensures.network, ← c.expected.ensures.expected) c.in_ok-longest.ensures.times;
      late = subst (λ (n : ℕ). AreLate project.network project.expected (end_to_meet project.heading.directed n) c.in_ok-late.late.items) end c.in_ok-late.ensures.late;
      path = rw (← c.net.ensures.network, ← c.expected.ensures.expected) c.in_ok-longest.ensures.picked;
    }

pub invariant_of-result : goal.invariant_of-result
invariant_of-result c = record {
  early = c.in_ok-longest.ensures.limit;
  late = c.in_ok-late.ensures.limit;
  path = omega (arith, c.in_ok-longest.ensures.short, ap (λ (n : Network). n.events) c.net.ensures.network, c.net.ensures.planned.few_events);
}
