-- The table of items: what their leaves add up to in each period.
use Rattle.std.specs.Prelude.{ℕ, ◌<◌, ◌≤◌, List, length}
use Rattle.pc_wbs.specs.declared.tree.ItemRow.{ItemRow}
use Rattle.pc_wbs.specs.Climb.{IsTop}
use Rattle.pc_rollup.specs.Lines.{HasLine}
use Rattle.pc_rollup.specs.Sums.{IsSumOver}
use Rattle.pc_load.specs.Table.{Table, amount_in}

-- in each period the lines of a level, which are the items at it and the leaves above it, add up to what the top has
abbrev pub LevelsAddUp : List ItemRow → Table → Type 0
LevelsAddUp tree items =
    (level k top : ℕ) → 1 ≤ level → k < items.periods → IsTop tree top
    → IsSumOver (HasLine tree level) (length tree) (λ x. amount_in items x k) (amount_in items top k)
