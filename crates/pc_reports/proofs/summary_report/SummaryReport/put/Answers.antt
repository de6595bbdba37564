use Rattle.std.proofs.Common.{ℕ, List, codes, ap, ◌∙◌}
use Rattle.std.specs.Prelude.{ℤ}
use Rattle.pc_edges.proofs.lemmas.page.PageLaws.{◌⨾◌, Adds-as}
use Rattle.pc_reports.specs.Lines.{dated_line}
use Rattle.pc_reports.specs.SummaryText.{summary_text}
use Rattle.pc_reports.proofs.summary_report.SummaryReport.put.Goals as goal

pub returns : goal.returns
unfolding summary_text
returns g c =
    let project = c.args.project.now in
    let heading = project.heading in
    Adds-as _ (ap (summary_text project) c.self.view_is) (
    Adds-as (dated_line (codes "SUMMARY ") heading.code heading.as_of)
    (ap (λ (k : List ℕ). dated_line (codes "SUMMARY ") k c.as_of.result) c.code.ensures
    ∙ ap (λ (d : ℤ). dated_line (codes "SUMMARY ") heading.code d) c.as_of.ensures) c.put_dated.ensures
    ⨾ c.put_head.ensures ⨾ c.put_rows.ensures ⨾ c.put_rows-2.ensures)
