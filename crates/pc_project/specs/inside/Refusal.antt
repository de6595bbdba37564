-- Why a deck whose cards were read is refused: the first fault, phase by phase. A phase counts only if none before it
-- has a fault: first the cards one by one (F13 to F19, F41), then the tree of the items (F20 to F23, tried in that
-- order), then the network of the activities (F24 to F27, tried in that order), then the items that activities and
-- accounts are on (F28), then the budgets of packages (F29), then statuses and as-of (F30), then second amounts to go
-- (F31), then the pieces of the activities' costs (F33 to F35), and last the terms of time (F36).
-- Here is what no clause of a top call and no law reaches.
use Rattle.std.specs.Prelude.{ℕ, ◌<◌, All, length}
use Rattle.pc_wbs.specs.declared.error.TreeError.{TreeError}
use Rattle.pc_wbs.specs.declared.error.TreeError.TheVariants as tree

-- a refusal of the tree names some of n items
abbrev pub IsAbout : ℕ → TreeError → Type 0
IsAbout n tree.NoTop = Unit {0}
IsAbout n (tree.SecondTop item) = item < n
IsAbout n (tree.Loop loop) = (0 < length loop) × All (λ item. item < n) loop
IsAbout n (tree.TooDeep item level) = item < n
IsAbout n tree.OutOfMemory = Unit {0}
