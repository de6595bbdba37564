-- An amount of each account, summed by item and by level.
use Rattle.std.specs.Prelude.{◌≡◌, ℕ, ◌+◌, ◌<◌, ◌≤◌, ℤ, List, length}
use Rattle.pc_wbs.specs.declared.tree.ItemRow.{ItemRow}
use Rattle.pc_wbs.specs.Climb.{IsAtLevel, IsBelow, IsLeaf, IsDepth}
use Rattle.pc_accounts.specs.declared.book.AcctRow.{AcctRow}
use Rattle.pc_accounts.specs.Amounts.{item_of}
use Rattle.pc_rollup.specs.declared.levels.LevelLine.{LevelLine}
use Rattle.pc_rollup.specs.Sums.{IsSumOver}
use Rattle.pc_rollup.specs.Totals.{amount_at}
use Rattle.pc_rollup.specs.Lines.{HasLine, AreLevelLines, sum_of}

-- each account is on a leaf of the tree
pub record AreOnTree (tree : List ItemRow) (accounts : List AcctRow) : Type 0 where
  pub known : (a : ℕ) → a < length accounts → item_of accounts a < length tree
  pub leaves : (a : ℕ) → a < length accounts → IsLeaf tree (item_of accounts a)

-- total is the sum of an amount over the accounts whose item is y or is below it
abbrev pub IsItemSum : List ItemRow → List AcctRow → (ℕ → ℤ) → ℕ → ℤ → Type 0
IsItemSum tree accounts amount y total =
    IsSumOver (λ a. IsBelow tree (item_of accounts a) y) (length accounts) amount total

-- one such sum for each item
pub record AreItemSums (tree : List ItemRow) (accounts : List AcctRow) (amount : ℕ → ℤ) (totals : List ℤ) : Type 0 where
  pub one_each : length totals ≡ length tree
  pub each : (y : ℕ) → y < length tree → IsItemSum tree accounts amount y (amount_at totals y)

-- sum is that of the totals of the items at the level and of the leaves above it
abbrev pub IsLevelSum : List ItemRow → List ℤ → ℕ → ℤ → Type 0
IsLevelSum tree totals level sum =
    (lines : List LevelLine) × (AreLevelLines tree level totals lines × (sum ≡ sum_of lines))

-- one such sum for each level from the first to the deepest
pub record AreLevelSums (tree : List ItemRow) (totals sums : List ℤ) : Type 0 where
  pub depth : IsDepth tree (length sums)
  pub each : (k : ℕ) → k < length sums → IsLevelSum tree totals (k + 1) (amount_at sums k)

-- an amount by item, and by level from the first on
pub record AmountColumn : Type 0 where
  pub items : List ℤ
  pub levels : List ℤ

-- the column has the sums of this amount of each account
pub record IsColumn (tree : List ItemRow) (accounts : List AcctRow) (amount : ℕ → ℤ) (column : AmountColumn) : Type 0 where
  pub items : AreItemSums tree accounts amount column.items
  pub levels : AreLevelSums tree column.items column.levels

-- at each level the lines add up to this sum, and it is what the level has
abbrev pub AddUpTo : List ItemRow → ℤ → AmountColumn → Type 0
AddUpTo tree sum column =
    (k : ℕ) → k < length column.levels → IsLevelSum tree column.items (k + 1) sum × (amount_at column.levels k ≡ sum)

-- at each level each account is below one line and no other: its item at that level, or its item itself where that is not so deep
abbrev pub HaveOneLine : List ItemRow → List AcctRow → Type 0
HaveOneLine tree accounts =
    (level a : ℕ) → 1 ≤ level → a < length accounts
    → (y : ℕ) × ((y < length tree) × HasLine tree level y × IsAtLevel tree (item_of accounts a) level y
    × ((z : ℕ) → HasLine tree level z → IsBelow tree (item_of accounts a) z → z ≡ y))
