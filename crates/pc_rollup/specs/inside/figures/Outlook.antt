-- What the items are going to cost at given durations of the activities.
-- Here is what no clause of a top call and no law reaches.
use Rattle.std.specs.Prelude.{ℕ, ◌<◌, List, length, slice_index}
use Rattle.pc_model.specs.Sums.{sum_to}
use Rattle.pc_wbs.specs.declared.tree.ItemRow.{ItemRow}
use Rattle.pc_wbs.specs.Climb.{IsLeaf, IsTop}
use Rattle.pc_accounts.specs.declared.book.Entry.{Entry}
use Rattle.pc_accounts.specs.declared.book.AcctRow.{AcctRow}
use Rattle.pc_rollup.specs.figures.Outlook.{Outlook, amounts_at, IsWholeOutlook}

-- the top has the outlook of the project
abbrev pub HasWholeAtTop : List ItemRow → List ℕ → (ℕ → ℕ) → List AcctRow → List Entry → Outlook → Type 0
HasWholeAtTop tree places cost accounts entries outlook =
    (top : ℕ) → IsTop tree top → IsWholeOutlook places accounts entries (sum_to (length places) cost) (amounts_at outlook.amounts top).outlook

-- each activity is on a leaf of the tree
pub record StandOnLeaves (tree : List ItemRow) (places : List ℕ) : Type 0 where
  pub known : (a : ℕ) → a < length places → slice_index places a < length tree
  pub leaves : (a : ℕ) → a < length places → IsLeaf tree (slice_index places a)
