-- How long the work of each item can wait.
use Rattle.std.specs.Prelude.{◌≡◌, ℕ, ◌<◌, ℤ, pos, ◌-ℤ◌, List, length, slice_index, slice_index_or, Option}
use Rattle.pc_model.specs.Network.{Network}
use Rattle.pc_model.specs.Walk.{to_of}
use Rattle.pc_wbs.specs.declared.tree.ItemRow.{ItemRow}
use Rattle.pc_wbs.specs.Climb.{IsBelow}
use Rattle.pc_rollup.specs.Least.{IsLeastOver, least_at}

-- the forecast slack of activity a: the latest time of the event where it ends, less when it is expected to be finished
abbrev pub slack_at : Network → List ℤ → List ℕ → ℕ → ℤ
slack_at net late finishes a =
    slice_index_or late (to_of net.arcs a) (pos 0) -ℤ pos (slice_index finishes a)

-- one for each item: the least slack of the activities on it or below it, if there are any
pub record AreLeastSlacks (tree : List ItemRow) (places : List ℕ) (slack : ℕ → ℤ) (slacks : List (Option ℤ)) : Type 0 where
  pub one_each : length slacks ≡ length tree
  pub each : (y : ℕ) → y < length tree → IsLeastOver (λ a. IsBelow tree (slice_index places a) y) (length places) slack (least_at slacks y)
