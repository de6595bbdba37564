use Rattle.std.proofs.Common.{◌≡◌, ◌<◌, [], length, slice_index_or, ap, ◌∙◌, to_z, of_z, w64, arith, rules}
use Rattle.std.proofs.lemmas.List.{get_or_read}
use Rattle.pc_edges.specs.Texts.{texts_to}
use Rattle.pc_edges.specs.inside.page.Puts.{desk}
use Rattle.pc_edges.proofs.lemmas.page.PageLaws.{◌⨾◌, Adds-as, Adds-line, Adds-nil}
use Rattle.pc_reports.specs.TimesText.{activity_row}
use Rattle.pc_reports.specs.inside.View.{as_shown}
use Rattle.pc_reports.proofs.RowLaws.{activity_cells-same}
use Rattle.pc_reports.proofs.times_rows.put_activities.Goals as goal

pub loop-i-init : goal.loop-i-init
loop-i-init g c = Adds-nil (desk g.O.Sink.taken g.O.Sink.faults c.put_head.new.page c.put_head.new.sink)

pub loop-i-preserved : goal.loop-i-preserved
loop-i-preserved g c =
    let project = c.args.project.now in
    let shown = g.V.TimesView.shown c.args.view.now in
    let inside : c.loop-i.i < length c.activity_codes-code-items.result.now = omega (arith, c.loop-i-test.true) in
    let code : c.code-item.result ≡ slice_index_or project.activities c.loop-i.i [] =
    get_or_read c.activity_codes-code-items.result.now c.loop-i.i c.code-item.result inside c.code-item.is []
    ∙ ap (λ codes. slice_index_or codes c.loop-i.i []) c.activity_codes-code-items.ensures.codes in
    let kept : to_z w64 (of_z w64 c.activity_slack-slack.result) ≡ c.activity_slack-slack.result = search rules in
    Adds-line c.loop-i.i (activity_row (as_shown project shown) shown.times) c.loop-i.invariant
    (Adds-as (activity_row (as_shown project shown) shown.times c.loop-i.i)
    (activity_cells-same code c.expected.ensures c.variance.ensures (kept ∙ c.activity_slack-slack.ensures)) c.put_activity.ensures)

pub returns : goal.returns
returns g c =
    let project = c.args.project.now in
    let shown = g.V.TimesView.shown c.args.view.now in
    let all : c.loop-i.i ≡ length project.activities = omega (arith, c.loop-i-test.false, c.loop-i.auto, ap length c.activity_codes-code-items.ensures.codes) in
    c.put_head.ensures ⨾ Adds-as (texts_to (length project.activities) (activity_row (as_shown project shown) shown.times))
    (ap (λ n. texts_to n (activity_row (as_shown project shown) shown.times)) all) c.loop-i.invariant
