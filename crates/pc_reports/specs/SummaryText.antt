-- The text of the management summary.
use Rattle.std.specs.Prelude.{◌≡◌, ℕ, ◌+◌, List, [], ◌∷◌, ◌++◌, length, slice_index_or, codes, decimal}
use Rattle.std.specs.Fmt.{signed_decimal}
use Rattle.pc_edges.specs.Texts.{texts_to}
use Rattle.pc_edges.specs.page.Cells.{left, right, row, cells_in, head_row}
use Rattle.pc_accounts.specs.Amounts.{entry_of_project}
use Rattle.pc_project.specs.Project.{Project}
use Rattle.pc_rollup.specs.declared.figures.summary.SummaryAmounts.{SummaryAmounts}
use Rattle.pc_reports.specs.Lines.{dated_line}
use Rattle.pc_rollup.specs.figures.Outline.{outline_row_at}
use Rattle.pc_rollup.specs.figures.Summary.{Summary, IsSummaryOf, CountsOnce, item_amounts, level_amounts}

-- the columns of the items and levels: the word above each, and at which side of which width its texts are
abbrev pub summary_layout : List (List ℕ × (List ℕ → List ℕ))
summary_layout =
    (codes "ITEM", left 16) ∷ (codes "LV", right 2) ∷ (codes "BUDGET", right 14) ∷ (codes "ACTUAL", right 14) ∷ (codes "TO-GO", right 14)
    ∷ (codes "LATEST", right 14) ∷ (codes "OVERRUN", right 14) ∷ (codes "TITLE", λ text. text) ∷ []

-- the row of an item: its code, its level, its amounts, and its title
abbrev pub item_cells : List ℕ → ℕ → SummaryAmounts → List ℕ → List ℕ
item_cells code level amounts title =
    row (cells_in summary_layout
    (code ∷ decimal level ∷ signed_decimal amounts.budget ∷ signed_decimal amounts.actual ∷ signed_decimal amounts.to_go
    ∷ signed_decimal amounts.latest ∷ signed_decimal amounts.overrun ∷ title ∷ []))

-- the row of a level: its number and its amounts, and no title
abbrev pub level_cells : ℕ → SummaryAmounts → List ℕ
level_cells level amounts =
    row (cells_in summary_layout
    (codes "LEVEL" ∷ decimal level ∷ signed_decimal amounts.budget ∷ signed_decimal amounts.actual ∷ signed_decimal amounts.to_go
    ∷ signed_decimal amounts.latest ∷ signed_decimal amounts.overrun ∷ []))

-- the row of the k-th item of the outline
abbrev pub item_row : Project → Summary → ℕ → List ℕ
item_row project summary k =
    let line = outline_row_at summary.outline k in
    item_cells (slice_index_or project.items line.item []) line.level (item_amounts summary line.item) (slice_index_or project.titles line.item [])

-- the row of level k + 1
abbrev pub level_row : Summary → ℕ → List ℕ
level_row summary k = level_cells (k + 1) (level_amounts summary k)

-- the project's code and the day of its figures, a row for each item in preorder, and a row for each level
unfoldable pub summary_text : Project → Summary → List ℕ
summary_text project summary =
    dated_line (codes "SUMMARY ") project.heading.code project.heading.as_of
    ++ head_row summary_layout
    ++ texts_to (length summary.outline) (item_row project summary)
    ++ texts_to (length summary.budget.levels) (level_row summary)

-- the summary is the project's
abbrev pub IsSummary : Project → Summary → Type 0
IsSummary project summary = IsSummaryOf project.tree project.accounts project.entries summary

-- each charge dated up to as-of counts once at each level: the actuals of its lines add up to all these charges, whichever
-- account they are of, as their budgets add up to all budgets and what is to go to that of all accounts
abbrev pub ChargesCountOnce : Project → Summary → Type 0
ChargesCountOnce project summary =
    CountsOnce project.tree project.accounts (entry_of_project project.accounts project.charges project.heading.as_of project.entries) summary

-- the text is the project's management summary, in which each charge counts once at each level
pub record IsSummaryText (project : Project) (text : List ℕ) : Type 0 where
  pub summary : Summary
  pub are : IsSummary project summary
  pub once : ChargesCountOnce project summary
  pub told : text ≡ summary_text project summary
