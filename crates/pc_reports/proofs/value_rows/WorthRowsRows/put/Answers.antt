use Rattle.std.proofs.Common.{refl, arith}
use Rattle.pc_edges.proofs.lemmas.page.PageLaws.{Adds-as}
use Rattle.pc_rollup.proofs.lemmas.figures.OutlineLaws.{row_known}
use Rattle.pc_reports.specs.ValueText.{worth_row}
use Rattle.pc_reports.proofs.value_rows.WorthRowsRows.put.Goals as goal

pub item_code-code-requires : goal.item_code-code-requires
item_code-code-requires g c =
    let t = c.args.self.now in
    rw c.row-row.ensures (row_known t.project.now.tree t.report.now.outline c.args.i c.requires.ready.outline c.requires.known)

pub item_title-title-requires : goal.item_title-title-requires
item_title-title-requires g c =
    let t = c.args.self.now in
    rw c.row-row.ensures (row_known t.project.now.tree t.report.now.outline c.args.i c.requires.ready.outline c.requires.known)

pub of_item-amounts-requires : goal.of_item-amounts-requires
of_item-amounts-requires g c =
    let t = c.args.self.now in
    let is = c.requires.ready.worth in
    let known = row_known t.project.now.tree t.report.now.outline c.args.i c.requires.ready.outline c.requires.known in
    rw (c.worth.ensures, c.row-row.ensures) (omega (arith, known, is.budget.one_each))

pub slack-slack-requires : goal.slack-slack-requires
slack-slack-requires g c =
    let t = c.args.self.now in
    let known = row_known t.project.now.tree t.report.now.outline c.args.i c.requires.ready.outline c.requires.known in
    rw (c.forecasts.ensures, c.row-row.ensures) (omega (arith, known, c.requires.ready.forecasts.slacks.one_each))

pub returns : goal.returns
returns g c =
    let t = c.args.self.now in
    Adds-as (worth_row t.project.now t.report.now c.args.i)
    (rw (
      c.item_code-code.ensures,
      c.of_item-amounts.ensures,
      c.slack-slack.ensures,
      c.item_title-title.ensures,
      c.worth.ensures,
      c.forecasts.ensures,
      c.row-row.ensures,
    ) refl) c.put_worth.ensures
