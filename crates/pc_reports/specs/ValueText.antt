-- The text of the report of the value of work.
use Rattle.std.specs.Prelude.{◌≡◌, ℕ, ℤ, pos, ◌-ℤ◌, List, [], ◌∷◌, ◌++◌, length, slice_index, slice_index_or, codes, decimal, Option, Some, None}
use Rattle.std.specs.Fmt.{signed_decimal}
use Rattle.pc_edges.specs.Texts.{texts_to}
use Rattle.pc_edges.specs.page.Cells.{left, right, row, cells_in, head_row}
use Rattle.pc_project.specs.Project.{Project}
use Rattle.pc_rollup.specs.Least.{least_at}
use Rattle.pc_rollup.specs.declared.figures.worth.WorthAmounts.{WorthAmounts}
use Rattle.pc_reports.specs.Earned.{Earned, Forecasts, IsEarned}
use Rattle.pc_reports.specs.Lines.{dated_line}
use Rattle.pc_rollup.specs.figures.Outline.{outline_row_at}
use Rattle.pc_rollup.specs.figures.Worth.{worth_amounts}

-- the columns of the events: the word above each, and at which side of which width its texts are
abbrev pub forecast_layout : List (List ℕ × (List ℕ → List ℕ))
forecast_layout = (codes "EVENT", left 16) ∷ (codes "FORECAST", right 12) ∷ (codes "FSLACK", right 12) ∷ (codes "DATE", λ text. text) ∷ []

-- the row of an event: its code, when it is expected, the time from then to its latest time, and the date
abbrev pub forecast_cells : List ℕ → ℕ → ℤ → List ℕ → List ℕ
forecast_cells code time late date =
    row (cells_in forecast_layout (code ∷ decimal time ∷ signed_decimal (late -ℤ pos time) ∷ date ∷ []))

-- the row of event e
abbrev pub forecast_row : Project → Forecasts → ℕ → List ℕ
forecast_row project forecasts e =
    forecast_cells (slice_index_or project.events e []) (slice_index forecasts.times e) (slice_index_or forecasts.late e (pos 0)) (slice_index_or forecasts.dates e [])

-- the columns of the items: the word above each, and at which side of which width its texts are
abbrev pub worth_layout : List (List ℕ × (List ℕ → List ℕ))
worth_layout =
    (codes "ITEM", left 16) ∷ (codes "LV", right 2) ∷ (codes "BUDGET", right 14) ∷ (codes "ACTUAL", right 14) ∷ (codes "VALUE", right 14)
    ∷ (codes "OVERRUN", right 14) ∷ (codes "FSLACK", right 12) ∷ (codes "TITLE", λ text. text) ∷ []

-- the least slack of an item, or a hyphen if there is none
abbrev pub slack_text : Option ℤ → List ℕ
slack_text (Some slack) = signed_decimal slack
slack_text None = codes "-"

-- the row of an item: its code, its level, its amounts, its least slack, and its title
abbrev pub worth_cells : List ℕ → ℕ → WorthAmounts → Option ℤ → List ℕ → List ℕ
worth_cells code level amounts slack title =
    row (cells_in worth_layout
    (code ∷ decimal level ∷ signed_decimal amounts.budget ∷ signed_decimal amounts.actual ∷ signed_decimal amounts.value
    ∷ signed_decimal amounts.overrun ∷ slack_text slack ∷ title ∷ []))

-- the row of the k-th item of the outline
abbrev pub worth_row : Project → Earned → ℕ → List ℕ
worth_row project earned k =
    let line = outline_row_at earned.outline k in
    worth_cells (slice_index_or project.items line.item []) line.level (worth_amounts earned.worth line.item) (least_at earned.forecasts.slacks line.item) (slice_index_or project.titles line.item [])

-- a row for each event, in card order
abbrev pub forecast_table : Project → Forecasts → List ℕ
forecast_table project forecasts = head_row forecast_layout ++ texts_to (length project.events) (forecast_row project forecasts)

-- a row for each item, in preorder
abbrev pub worth_table : Project → Earned → List ℕ
worth_table project earned = head_row worth_layout ++ texts_to (length earned.outline) (worth_row project earned)

-- the project's code and the day of its figures, the events, and the items
unfoldable pub value_text : Project → Earned → List ℕ
value_text project earned =
    dated_line (codes "VALUE ") project.heading.code project.heading.as_of
    ++ forecast_table project earned.forecasts
    ++ worth_table project earned

-- the text is the project's report of the value of work
pub record IsValueText (project : Project) (text : List ℕ) : Type 0 where
  pub earned : Earned
  pub are : IsEarned project earned
  pub told : text ≡ value_text project earned
