-- The text of the report of loads.
use Rattle.std.specs.Prelude.{◌≡◌, ℕ, ◌*◌, ℤ, pos, ◌+ℤ◌, int_le, if◌then◌else◌, List, [], ◌∷◌, ◌++◌, length, slice_index, slice_index_or, codes, decimal}
use Rattle.std.specs.Fmt.{signed_decimal}
use Rattle.pc_days.specs.Calendar.{date_or_none}
use Rattle.pc_edges.specs.Texts.{texts_to}
use Rattle.pc_edges.specs.page.Cells.{left, right, row}
use Rattle.pc_edges.specs.page.Lines.{named_line}
use Rattle.pc_project.specs.Project.{Project}
use Rattle.pc_load.specs.Loading.{Loading, IsLoading}
use Rattle.pc_load.specs.Table.{Table, amount_in}

-- the row of a period: its number and a date
abbrev pub period_cells : ℕ → List ℕ → List ℕ
period_cells k date = row (left 16 (codes "PERIOD") ∷ right 6 (decimal k) ∷ date ∷ [])

-- the row of period k, with the date on which it begins
abbrev pub period_row : Project → ℕ → ℕ → List ℕ
period_row project days k =
    period_cells k (date_or_none (project.heading.start_day +ℤ pos (days * k)))

-- the row of an amount in period k, or none if it is 0
abbrev pub amount_row : List ℕ → ℕ → ℤ → List ℕ
amount_row code k amount =
    if int_le amount (pos 0) then [] else row (left 16 code ∷ right 6 (decimal k) ∷ right 14 (signed_decimal amount) ∷ [])

-- the rows of one row of a table, period by period
abbrev pub amount_rows : Table → List ℕ → ℕ → List ℕ
amount_rows table code x = texts_to table.periods (λ k. amount_row code k (amount_in table x k))

-- the rows of the i-th item in preorder, and those of the i-th resource
abbrev pub item_rows : Project → Loading → ℕ → List ℕ
item_rows project loading i =
    let x = slice_index loading.order i in amount_rows loading.items (slice_index_or project.items x []) x

abbrev pub resource_rows : Project → Loading → ℕ → List ℕ
resource_rows project loading i = amount_rows loading.resources (slice_index_or project.resources i []) i

-- the project's code and the days of a period
abbrev pub head_line : List ℕ → ℕ → List ℕ
head_line code days = named_line (codes "LOAD ") code days

-- the project's code and the days of a period, a row for each period, a row for each item in preorder and each period
-- in which it has a part, and the same for each resource in card order
unfoldable pub load_text : Project → Loading → List ℕ
load_text project loading =
    head_line project.heading.code loading.days
    ++ texts_to loading.items.periods (period_row project loading.days)
    ++ (codes "ITEMS" ++ 10 ∷ [])
    ++ texts_to (length loading.order) (item_rows project loading)
    ++ (codes "RESOURCES" ++ 10 ∷ [])
    ++ texts_to (length project.resources) (resource_rows project loading)

-- the text is the report of the project's loads for periods of `days` days
pub record IsLoadText (project : Project) (days : ℕ) (text : List ℕ) : Type 0 where
  pub loading : Loading
  pub are : IsLoading project days loading
  pub told : text ≡ load_text project loading
