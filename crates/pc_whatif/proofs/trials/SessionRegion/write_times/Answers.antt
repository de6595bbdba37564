use Rattle.std.proofs.Common.{◌≡◌, ◌<◌, length, refl, sym, ◌∙◌, ap, subst, arith}
use Rattle.std.specs.Prelude.{slice_index}
use Rattle.pc_edges.specs.inside.Writes.{Writes}
use Rattle.pc_reports.specs.Times.{end_to_meet}
use Rattle.pc_reports.specs.TimesText.{times_text}
use Rattle.pc_reports.specs.inside.View.{IsShownOf, as_shown}
use Rattle.pc_model.specs.declared.limits.TheConstants.{MAX_VARIANCE}
use Rattle.pc_times.specs.declared.TheConstants.{MAX_ACTIVITY_LENGTH, MAX_TIME}
use Rattle.pc_whatif.specs.inside.trials.Laid.{AreAtMost}
use Rattle.pc_whatif.specs.inside.trials.SessionRegion.{path_in}
use Rattle.pc_whatif.proofs.lemmas.trials.TimesLaws.{path-known, shown_by, shown-is, shown-fits, read-back, small-back, times-are, text-same}
use Rattle.pc_whatif.proofs.trials.SessionRegion.write_times.Goals as goal

pub invariant_of-view : goal.invariant_of-view
invariant_of-view g c =
    let r = c.args.self.now in
    let net = c.args.project.now.network in
    record {
      by = small-back c.end_to_meet-by.result c.end_to_meet-by.ensures.limit;
      tails = c.tails.ensures.limit;
      path = λ k below.
          let here : k < length (path_in r) = omega (arith, below, ap length c.path.ensures.path) in
          omega (
            arith,
            ap (λ ys. slice_index ys k) c.path.ensures.path,
            path-known net r k c.requires.standing here,
            ap (λ n. length n.arcs) c.net-net.ensures.network,
            c.facts.ensures.activities,
          );
    }

pub write_times_on-requires-clause-view : goal.write_times_on-requires-clause-view
write_times_on-requires-clause-view g c =
    let r = c.args.self.now in
    let by = c.end_to_meet-by.result in
    let same = shown-is r c.expected.result.now c.variances.result.now c.early-early.result.now c.tails.result.now c.path.result.now _ by
    c.expected.ensures.list c.variances.ensures.list c.early-early.ensures.list c.tails.ensures.list c.path.ensures.path
    (read-back by c.end_to_meet-by.ensures.limit) in
    subst (IsShownOf c.args.project.now) (sym same)
    (shown-fits c.args.project.now r by c.requires.fits c.requires.standing
    (subst (AreAtMost MAX_ACTIVITY_LENGTH) c.expected.ensures.list c.expected.ensures.limit)
    (subst (AreAtMost MAX_VARIANCE) c.variances.ensures.list c.variances.ensures.limit)
    (subst (AreAtMost MAX_TIME) c.early-early.ensures.list c.early-early.ensures.limit)
    (subst (AreAtMost MAX_TIME) c.tails.ensures.list c.tails.ensures.limit)
    c.net-net.ensures.planned.few_events
    c.end_to_meet-by.ensures.limit)

pub returns-clause-text : goal.returns-clause-text
returns-clause-text g c = λ changed is.
    let project = c.args.project.now in
    let r = c.args.self.now in
    let by = c.end_to_meet-by.result in
    let same = shown-is r c.expected.result.now c.variances.result.now c.early-early.result.now c.tails.result.now c.path.result.now _ by
    c.expected.ensures.list c.variances.ensures.list c.early-early.ensures.list c.tails.ensures.list c.path.ensures.path
    (read-back by c.end_to_meet-by.ensures.limit) in
    let end = c.end.ensures.end ∙ ap (λ n. n.end) c.net-net.ensures.network in
    let by_is : by ≡ end_to_meet project.heading.directed (slice_index r.early project.network.end) =
    c.end_to_meet-by.ensures.end
    ∙ ap (λ d. end_to_meet d (slice_index c.early-early.result.now c.end.result)) c.directed.ensures.directed
    ∙ ap (λ ys. end_to_meet project.heading.directed (slice_index ys c.end.result)) c.early-early.ensures.list
    ∙ ap (λ e. end_to_meet project.heading.directed (slice_index r.early e)) end in
    let times = (shown_by r by).times in (
      times_text changed times,
      record { times = times; are = times-are project changed r by c.requires.fits c.requires.standing is by_is; told = refl },
      subst (λ text. Writes c.write_times_on.result (g.O.Sink.taken c.args.sink.now) (g.O.Sink.taken c.write_times_on.new.sink)
          (g.O.Sink.faults c.args.sink.now) (g.O.Sink.faults c.write_times_on.new.sink) text)
          (ap (λ s. times_text (as_shown project s) s.times) same ∙ text-same project changed r by is)
          c.write_times_on.ensures.text,
    )
