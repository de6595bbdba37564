use Rattle.std.proofs.Common.{◌≡◌, ◌<◌, [], length, slice_index, slice_index_or, ap, ◌∙◌, to_z, of_z, w64, arith, rules}
use Rattle.std.proofs.lemmas.List.{get_or_read}
use Rattle.pc_edges.specs.Texts.{texts_to}
use Rattle.pc_edges.specs.inside.page.Puts.{desk}
use Rattle.pc_edges.proofs.lemmas.page.PageLaws.{◌⨾◌, Adds-as, Adds-line, Adds-nil}
use Rattle.pc_reports.specs.Times.{date_of}
use Rattle.pc_reports.specs.TimesText.{event_row}
use Rattle.pc_reports.specs.inside.View.{as_shown}
use Rattle.pc_reports.proofs.RowLaws.{event_cells-same}
use Rattle.pc_reports.proofs.times_rows.put_events.Goals as goal

pub early-early-requires : goal.early-early-requires
early-early-requires g c = omega (arith, c.loop-e-test.true, c.requires.early_each, c.event_codes-code-items.ensures.each)

pub late-late-requires : goal.late-late-requires
late-late-requires g c = omega (arith, c.loop-e-test.true, c.requires.late_each, c.event_codes-code-items.ensures.each)

pub loop-e-init : goal.loop-e-init
loop-e-init g c = Adds-nil (desk g.O.Sink.taken g.O.Sink.faults c.put_head.new.page c.put_head.new.sink)

pub loop-e-preserved : goal.loop-e-preserved
loop-e-preserved g c =
    let project = c.args.project.now in
    let shown = g.V.TimesView.shown c.args.view.now in
    let inside : c.loop-e.e < length c.event_codes-code-items.result.now = omega (arith, c.loop-e-test.true) in
    let code : c.code-item.result ≡ slice_index_or project.events c.loop-e.e [] =
    get_or_read c.event_codes-code-items.result.now c.loop-e.e c.code-item.result inside c.code-item.is [] ∙ ap (λ codes. slice_index_or codes c.loop-e.e []) c.event_codes-code-items.ensures.codes in
    let kept : to_z w64 (of_z w64 c.late-late.result) ≡ c.late-late.result = search rules in
    let date : c.date_text.result ≡ date_of project.heading.start_day (slice_index shown.times.early c.loop-e.e) =
    c.date_text.ensures.value ∙ ap (λ day. date_of day c.early-early.result) c.start_day-start.ensures ∙ ap (date_of project.heading.start_day) c.early-early.ensures in
    Adds-line c.loop-e.e (event_row (as_shown project shown) shown.times) c.loop-e.invariant
    (Adds-as (event_row (as_shown project shown) shown.times c.loop-e.e) (event_cells-same code c.early-early.ensures (kept ∙ c.late-late.ensures) date) c.put_event.ensures)

pub returns : goal.returns
returns g c =
    let project = c.args.project.now in
    let shown = g.V.TimesView.shown c.args.view.now in
    let all : c.loop-e.e ≡ length project.events = omega (arith, c.loop-e-test.false, c.loop-e.auto, ap length c.event_codes-code-items.ensures.codes) in
    c.put_head.ensures ⨾ Adds-as (texts_to (length project.events) (event_row (as_shown project shown) shown.times))
    (ap (λ n. texts_to n (event_row (as_shown project shown) shown.times)) all) c.loop-e.invariant
