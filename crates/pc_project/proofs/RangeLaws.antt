-- The items of a loop and the activities of a cycle are among those that there are.
use Rattle.std.proofs.Common.{◌≡◌, ℕ, zero, suc, ◌+◌, ◌<◌, List, [], ◌∷◌, length, add-one, arith}
use Rattle.std.specs.Prelude.{All, slice_index}
use Rattle.std.proofs.lemmas.List.{length-map}
use Rattle.std.proofs.lemmas.List.Elements.{All-from_get_or}
use Rattle.pc_model.specs.declared.Arc.{Arc}
use Rattle.pc_model.specs.Walk.{IsWalk, IsCycle, to_of}
use Rattle.pc_wbs.specs.declared.tree.ItemRow.{ItemRow}
use Rattle.pc_wbs.specs.Climb.{AreInRange}
use Rattle.pc_wbs.specs.Refusal.{IsLoopFrom, IsTreeError}
use Rattle.pc_wbs.specs.declared.error.TreeError.{TreeError}
use Rattle.pc_wbs.specs.declared.error.TreeError.TheVariants as tree
use Rattle.pc_deck.specs.Deck.{Deck}
use Rattle.pc_project.specs.Project.{arc_of, network_of}
use Rattle.pc_project.specs.inside.Refusal.{IsAbout}

-- from one row of a loop on, each is a row
loop_known : (rows : List ItemRow) (x : ℕ) (loop : List ℕ) → AreInRange rows → x < length rows → IsLoopFrom rows x loop → (k : ℕ) → k < length loop → slice_index loop k < length rows
loop_known rows x loop in_range within is zero below = omega (arith, within, is.starts)
loop_known rows x loop in_range within is (suc k) below =
    let before = loop_known rows x loop in_range within is k (omega arith) in
    let next = in_range (slice_index loop k) (slice_index loop (k + 1)) before (is.steps k (omega arith)) in
    rw add-one at next

-- what a refusal of the tree names are items
pub refusal-about : (rows : List ItemRow) (n : ℕ) (e : TreeError) → AreInRange rows → length rows ≡ n → IsTreeError rows e → IsAbout n e
refusal-about rows n tree.NoTop in_range many refused = tt
refusal-about rows n (tree.SecondTop item) in_range many refused = omega (arith, refused.is_top.0, many)
refusal-about rows n (tree.Loop loop) in_range many (top, (x, (first, is))) = (
  is.some,
  All-from_get_or (λ item. item < n) loop 0 (λ k below. omega (arith, many, loop_known rows x loop in_range first.holds.0 is k below)),
)
refusal-about rows n (tree.TooDeep item level) in_range many (top, none, first, deep) = omega (arith, first.holds.0, many)
refusal-about rows n tree.OutOfMemory in_range many refused = tt

-- the activities of a walk
walk_known : (arcs : List Arc) (e f : ℕ) (walk : List ℕ) → IsWalk arcs e walk f → (k : ℕ) → k < length walk → slice_index walk k < length arcs
walk_known arcs e f [] is k below = absurd (omega (arith, below))
walk_known arcs e f (a ∷ walk) is zero below = is.0
walk_known arcs e f (a ∷ walk) is (suc k) below = walk_known arcs (to_of arcs a) f walk is.2 k (omega (arith, below))

-- the activities of a cycle of a deck
pub cycle_of-known : (deck : Deck) (walk : List ℕ) → IsCycle (network_of deck).arcs walk → All (λ act. act < length deck.acts) walk
cycle_of-known deck walk is =
    All-from_get_or (λ act. act < length deck.acts) walk 0
    (λ k below. omega (arith, length-map deck.acts (arc_of deck), walk_known (network_of deck).arcs is.1.0 is.1.0 walk is.1.1 k below))
