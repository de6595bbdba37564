-- All columns of a tree have as many levels.
use Rattle.std.proofs.Common.{◌≡◌, ℕ, List, length, arith}
use Rattle.std.specs.Prelude.{ℤ}
use Rattle.pc_wbs.specs.declared.tree.ItemRow.{ItemRow}
use Rattle.pc_wbs.specs.Climb.{IsDepth}
use Rattle.pc_accounts.specs.declared.book.AcctRow.{AcctRow}
use Rattle.pc_rollup.specs.figures.Columns.{AmountColumn, IsColumn}

-- a tree has one depth
depth_same : (tree : List ItemRow) (d e : ℕ) → IsDepth tree d → IsDepth tree e → d ≡ e
depth_same tree d e first second =
    let (x, (lt, at)) = first.attained in
    let (y, (below, there)) = second.attained in
    omega (arith, second.bound x d lt at, first.bound y e below there)

pub levels_same : (tree : List ItemRow) (accounts : List AcctRow) (f g : ℕ → ℤ) (c d : AmountColumn) → IsColumn tree accounts f c → IsColumn tree accounts g d → length c.levels ≡ length d.levels
levels_same tree accounts f g c d first second =
    depth_same tree (length c.levels) (length d.levels) first.levels.depth second.levels.depth
