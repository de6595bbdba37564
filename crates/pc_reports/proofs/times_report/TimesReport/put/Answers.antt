use Rattle.std.proofs.Common.{pos, ap, subst, arith}
use Rattle.pc_edges.proofs.lemmas.page.PageLaws.{Adds-as}
use Rattle.pc_reports.specs.Times.{Times, IsTimes}
use Rattle.pc_reports.specs.inside.Times.{AreSmallTimes}
use Rattle.pc_reports.specs.TimesText.{times_text}
use Rattle.pc_times.proofs.PickedWalks.{picked_from_known}
use Rattle.pc_reports.proofs.times_report.TimesReport.put.Goals as goal

pub put_times-requires : goal.put_times-requires
put_times-requires g c =
    let project = c.args.project.now in
    let planned = c.facts.ensures.planned in
    let times : Times = c.args.self.now in
    let is : IsTimes project times = c.requires in
    let small : AreSmallTimes times = subst AreSmallTimes c.self.view_is c.self.invariant in
    rw (c.deref.ensures.value, c.self.view_is) (record {
      expected_each = planned.lengths.one_each;
      variance_each = planned.variance_each;
      early_each = is.early.one_each;
      late_each = is.late.one_each;
      expected = planned.lengths.small;
      variances = planned.small_variances;
      early = λ e below. omega (arith, small.early e 0 (omega (arith, is.early.one_each)));
      late = λ e below. omega (arith, small.late e (pos 0) (omega (arith, is.late.one_each)));
      known = λ k below. picked_from_known project.network project.expected project.network.start times.path k is.path below;
      few = small.path;
    })

pub returns : goal.returns
returns g c =
    Adds-as _ (ap (λ times. times_text c.args.project.now times) c.self.view_is) (rw (← c.deref.ensures.value) c.put_times.ensures)
