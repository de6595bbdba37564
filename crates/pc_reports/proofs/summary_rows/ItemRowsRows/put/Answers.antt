use Rattle.std.proofs.Common.{refl, arith}
use Rattle.pc_edges.proofs.lemmas.page.PageLaws.{Adds-as}
use Rattle.pc_rollup.specs.figures.Summary.{IsSummaryOf}
use Rattle.pc_rollup.proofs.lemmas.figures.OutlineLaws.{row_known}
use Rattle.pc_reports.specs.SummaryText.{item_row}
use Rattle.pc_reports.proofs.summary_rows.ItemRowsRows.put.Goals as goal

pub item_code-code-requires : goal.item_code-code-requires
item_code-code-requires g c =
    let t = c.args.self.now in
    let is : IsSummaryOf t.project.now.tree t.project.now.accounts t.project.now.entries t.summary.now = c.requires.ready in
    rw c.row-row.ensures (row_known t.project.now.tree t.summary.now.outline c.args.i is.outline c.requires.known)

pub item_title-title-requires : goal.item_title-title-requires
item_title-title-requires g c =
    let t = c.args.self.now in
    let is : IsSummaryOf t.project.now.tree t.project.now.accounts t.project.now.entries t.summary.now = c.requires.ready in
    rw c.row-row.ensures (row_known t.project.now.tree t.summary.now.outline c.args.i is.outline c.requires.known)

pub of_item-amounts-requires : goal.of_item-amounts-requires
of_item-amounts-requires g c =
    let t = c.args.self.now in
    let is : IsSummaryOf t.project.now.tree t.project.now.accounts t.project.now.entries t.summary.now = c.requires.ready in
    let known = row_known t.project.now.tree t.summary.now.outline c.args.i is.outline c.requires.known in
    rw c.row-row.ensures (omega (arith, known, is.budget.items.one_each))

pub returns : goal.returns
returns g c =
    let t = c.args.self.now in
    Adds-as (item_row t.project.now t.summary.now c.args.i) (rw (c.item_code-code.ensures, c.of_item-amounts.ensures, c.item_title-title.ensures, c.row-row.ensures) refl) c.put_item.ensures
