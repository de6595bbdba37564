-- The first activity on any cycle, and the search for a way back to where an activity begins.
-- Here is what no clause of a top call and no law reaches.
use Rattle.std.specs.Prelude.{◌≡◌, ◌≢◌, ℕ, ◌+◌, ◌<◌, List, length, slice_index}
use Rattle.pc_model.specs.declared.Arc.{Arc}
use Rattle.pc_model.specs.Walk.{from_of, to_of, IsCycle}
use Rattle.pc_model.specs.Network.{Network}
use Rattle.pc_net.specs.Cycles.{MeetsOnce}

-- a cycle through no event twice that begins with activity a
pub record IsRound (arcs : List Arc) (a : ℕ) (walk : List ℕ) : Type 0 where
  pub begins : slice_index walk 0 ≡ a
  pub cycle : IsCycle arcs walk
  pub once : MeetsOnce arcs walk

-- a search back from where activity a begins: `steps` leave the events found, each but the first towards one found
-- before it, `ranks` has each event's place among them, counted from 1, or 0 if it was not found; all that lead to the
-- first events found are found themselves
pub record IsSearchBack (net : Network) (a : ℕ) (steps ranks : List ℕ) (at : ℕ) : Type 0 where
  pub ranks_len : length ranks ≡ net.events
  pub some : 0 < length steps
  pub begins : slice_index steps 0 ≡ a
  pub known : (k : ℕ) → k < length steps → slice_index steps k < length net.arcs
  pub named : (k : ℕ) → k < length steps → from_of net.arcs (slice_index steps k) < net.events
  pub ranked : (k : ℕ) → k < length steps → slice_index ranks (from_of net.arcs (slice_index steps k)) ≡ k + 1
  pub found : (v : ℕ) → slice_index ranks v ≢ 0 → (k : ℕ) × (k < length steps) × (from_of net.arcs (slice_index steps k) ≡ v)
  pub leads : (k : ℕ) → 0 < k → k < length steps → (j : ℕ) × (j < k) × (from_of net.arcs (slice_index steps j) ≡ to_of net.arcs (slice_index steps k))
  pub closed : (k b : ℕ) → k < at → b < length net.arcs → to_of net.arcs b ≡ from_of net.arcs (slice_index steps k) → slice_index ranks (from_of net.arcs b) ≢ 0
