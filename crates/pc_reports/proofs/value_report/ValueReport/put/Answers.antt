use Rattle.std.proofs.Common.{ℕ, List, length, codes, ap, ◌∙◌}
use Rattle.std.specs.Prelude.{ℤ}
use Rattle.pc_edges.specs.Texts.{texts_to}
use Rattle.pc_edges.proofs.lemmas.page.PageLaws.{◌⨾◌, Adds-as}
use Rattle.pc_reports.specs.Earned.{Forecasts}
use Rattle.pc_reports.specs.Lines.{dated_line}
use Rattle.pc_reports.specs.ValueText.{forecast_row, value_text}
use Rattle.pc_reports.proofs.value_report.ValueReport.put.Goals as goal

pub returns : goal.returns
unfolding value_text
returns g c =
    let project = c.args.project.now in
    let heading = project.heading in
    Adds-as (dated_line (codes "VALUE ") heading.code heading.as_of)
    (ap (λ (k : List ℕ). dated_line (codes "VALUE ") k c.as_of.result) c.code.ensures
    ∙ ap (λ (d : ℤ). dated_line (codes "VALUE ") heading.code d) c.as_of.ensures) c.put_dated.ensures
    ⨾ (c.put_head.ensures ⨾ Adds-as (texts_to (length project.events) (forecast_row project c.args.self.now.forecasts))
    (ap (λ (f : Forecasts). texts_to (length project.events) (forecast_row project f)) c.forecasts-forecasts.ensures)
    c.put_rows.ensures)
    ⨾ (c.put_head-2.ensures ⨾ c.put_rows-2.ensures)

pub put_rows-requires : goal.put_rows-requires
put_rows-requires g c = rw c.forecasts-forecasts.ensures c.requires.forecasts

pub put_rows-requires-2 : goal.put_rows-requires-2
put_rows-requires-2 g c = c.requires
