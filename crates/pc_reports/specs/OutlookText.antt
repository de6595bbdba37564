-- The text of the outlook: what the items are going to cost at given durations of the activities.
use Rattle.std.specs.Prelude.{ℕ, List, [], ◌∷◌, ◌++◌, length, slice_index, slice_index_or, codes, decimal}
use Rattle.std.specs.Fmt.{signed_decimal}
use Rattle.pc_model.specs.Cost.{activity_cost}
use Rattle.pc_model.specs.Pieces.{knees_of}
use Rattle.pc_edges.specs.Texts.{texts_to}
use Rattle.pc_edges.specs.page.Cells.{left, right, row, cells_in, head_row}
use Rattle.pc_project.specs.Project.{Project}
use Rattle.pc_rollup.specs.declared.figures.outlook.OutlookAmounts.{OutlookAmounts}
use Rattle.pc_rollup.specs.figures.Outline.{outline_row_at}
use Rattle.pc_rollup.specs.figures.Outlook.{Outlook, IsOutlookOf, amounts_at}

-- the columns of the items: the word above each, and at which side of which width its texts are
abbrev pub outlook_layout : List (List ℕ × (List ℕ → List ℕ))
outlook_layout =
    (codes "ITEM", left 16) ∷ (codes "LV", right 2) ∷ (codes "BUDGET", right 14) ∷ (codes "OUTLOOK", right 14) ∷ (codes "CHANGE", right 14)
    ∷ (codes "TITLE", λ text. text) ∷ []

-- the row of an item: its code, its level, its amounts, and its title
abbrev pub outlook_cells : List ℕ → ℕ → OutlookAmounts → List ℕ → List ℕ
outlook_cells code level amounts title =
    row (cells_in outlook_layout
    (code ∷ decimal level ∷ signed_decimal amounts.budget ∷ signed_decimal amounts.outlook ∷ signed_decimal amounts.change ∷ title ∷ []))

-- the row of the k-th item of the outline
abbrev pub outlook_row : Project → Outlook → ℕ → List ℕ
outlook_row project outlook k =
    let line = outline_row_at outlook.outline k in
    outlook_cells (slice_index_or project.items line.item []) line.level (amounts_at outlook.amounts line.item) (slice_index_or project.titles line.item [])

-- a row for each item, in preorder
unfoldable pub outlook_text : Project → Outlook → List ℕ
outlook_text project outlook = head_row outlook_layout ++ texts_to (length outlook.outline) (outlook_row project outlook)

-- what activity a costs at its duration
abbrev pub cost_at : Project → List ℕ → ℕ → ℕ
cost_at project durations a = activity_cost project.terms (knees_of project.terms project.pieces) a (slice_index durations a)

-- the outlook is the project's at these durations
abbrev pub IsOutlook : Project → List ℕ → Outlook → Type 0
IsOutlook project durations outlook =
    IsOutlookOf project.tree project.places (cost_at project durations) project.accounts project.entries outlook
