use Rattle.std.proofs.Common.{◌≡◌, ◌<◌, ◌≤◌, [], length, codes, refl, slice_index, slice_index_or, ap, ◌∙◌, arith}
use Rattle.std.proofs.lemmas.List.{get_or_read, take_all}
use Rattle.pc_edges.specs.Texts.{texts_to}
use Rattle.pc_model.specs.declared.limits.TheConstants.{MAX_VARIANCE}
use Rattle.pc_model.specs.Walk.{walk_sum}
use Rattle.pc_edges.specs.inside.page.Puts.{desk}
use Rattle.pc_edges.proofs.lemmas.page.PageLaws.{◌⨾◌, Adds-as, Adds-line, Adds-nil}
use Rattle.pc_edges.specs.page.Lines.{word_line, number_line}
use Rattle.pc_reports.specs.TimesText.{critical_row}
use Rattle.pc_reports.specs.inside.View.{as_shown}
use Rattle.pc_reports.proofs.PathLaws.{walk_sum-more}
use Rattle.pc_reports.proofs.times_rows.put_path.Goals as goal

pub loop-a-init : goal.loop-a-init
loop-a-init g c = record {
  put = Adds-nil (desk g.O.Sink.taken g.O.Sink.faults c.args.page.now c.args.sink.now);
  within = omega arith;
  summed = refl;
  small = omega arith;
}

pub loop-a-preserved : goal.loop-a-preserved
loop-a-preserved g c =
    let project = c.args.project.now in
    let shown = g.V.TimesView.shown c.args.view.now in
    let known : c.loop-a.k < length shown.times.path = c.in-Some.ensures.known in
    let is : c.in-Some.a ≡ slice_index shown.times.path c.loop-a.k = c.in-Some.ensures.activity in
    let here : c.in-Some.a < length project.network.arcs = omega (arith, is, c.requires.known c.loop-a.k known) in
    let inside : c.in-Some.a < length c.activity_codes-codes.result.now = omega (arith, here, c.activity_codes-codes.ensures.each) in
    let code : c.index-codes-a.result ≡ slice_index_or project.activities (slice_index shown.times.path c.loop-a.k) [] =
    get_or_read c.activity_codes-codes.result.now c.in-Some.a c.index-codes-a.result inside c.index-codes-a.is []
    ∙ ap (λ codes. slice_index_or codes c.in-Some.a []) c.activity_codes-codes.ensures.codes
    ∙ ap (λ a. slice_index_or project.activities a []) is in
    let variance : c.variance-variance.result ≡ slice_index shown.variances (slice_index shown.times.path c.loop-a.k) = c.variance-variance.ensures ∙ ap (slice_index shown.variances) is in
    let small : c.variance-variance.result ≤ MAX_VARIANCE = omega (arith, c.variance-variance.ensures, c.requires.variances c.in-Some.a here) in
    record {
      put =
          Adds-line c.loop-a.k (critical_row (as_shown project shown) shown.times) c.loop-a.invariant.put
          (Adds-as (critical_row (as_shown project shown) shown.times c.loop-a.k) (ap (word_line (codes "CRITICAL ")) code) c.put_code.ensures);
      within = omega (arith, known);
      summed = omega (arith, c.loop-a.invariant.summed, variance, walk_sum-more shown.variances shown.times.path c.loop-a.k known);
      small = omega (arith, small, c.loop-a.invariant.small);
    }

pub returns : goal.returns
returns g c =
    let project = c.args.project.now in
    let shown = g.V.TimesView.shown c.args.view.now in
    let path = shown.times.path in
    let past : length path ≤ c.loop-a.k = c.in_default.ensures.past.0 refl in
    let all : c.loop-a.k ≡ length path = omega (arith, past, c.loop-a.invariant.within) in
    let summed : c.loop-a.variance ≡ walk_sum shown.variances path = c.loop-a.invariant.summed ∙ ap (walk_sum shown.variances) (take_all c.loop-a.k path past) in
    Adds-as (texts_to (length path) (critical_row (as_shown project shown) shown.times)) (ap (λ n. texts_to n (critical_row (as_shown project shown) shown.times)) all) c.loop-a.invariant.put
    ⨾ Adds-as (number_line (codes "VARIANCE ") (walk_sum shown.variances path)) (ap (number_line (codes "VARIANCE ")) summed) c.put_number.ensures
