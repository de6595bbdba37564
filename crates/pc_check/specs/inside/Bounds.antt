-- How many lines may still come, and what a checker that has found no failure keeps to.
-- Here is what no clause of a top call and no law reaches.
use Rattle.std.specs.Prelude.{◌≡◌, ℕ, ◌+◌, ◌*◌, ◌<◌, ◌≤◌, true, false, length}
use Rattle.pc_model.specs.declared.limits.TheConstants.{MAX_DURATION}
use Rattle.pc_crash.specs.Priced.{PricedNetwork}
use Rattle.pc_cert.specs.declared.place.Shape.{Shape}
use Rattle.pc_cert.specs.declared.place.Place.{Place}
use Rattle.pc_cert.specs.declared.place.Place.TheVariants.{Start, AfterHead, NormalWalk, CrashWalk, InSegment, Between, Ended}
use Rattle.pc_check.specs.declared.kept.Kept.{Kept}
use Rattle.pc_check.specs.inside.Walks.{sum_of_reached}
use Rattle.pc_check.specs.Bounds.{longest_walk, lines_from, lines_of_all}

-- the most lines that may still come
abbrev pub lines_left : PricedNetwork → Kept → ℕ
lines_left net kept = lines_from net.network.events (length net.network.arcs) kept.place kept.tally.lower

-- the numbers of the first line are those of the network
pub record IsShaped (n m : ℕ) (shape : Shape) : Type 0 where
  pub events : shape.events ≡ n
  pub activities : shape.activities ≡ m

-- no segment yet, and this many steps may still be added to the normal walk
pub record IsInNormal (n steps : ℕ) (kept : Kept) : Type 0 where
  pub normal : kept.crash_walk_started ≡ false
  pub none : kept.segments ≡ 0
  pub short : sum_of_reached kept.normal + steps * MAX_DURATION ≤ longest_walk n
  pub nothing : sum_of_reached kept.crash ≡ 0

-- no segment yet, the normal walk is complete, and this many steps may still be added to the crash walk
pub record IsInCrash (n steps : ℕ) (kept : Kept) : Type 0 where
  pub normal : kept.crash_walk_started ≡ true
  pub none : kept.segments ≡ 0
  pub whole : sum_of_reached kept.normal ≤ longest_walk n
  pub short : sum_of_reached kept.crash + steps * MAX_DURATION ≤ longest_walk n

-- a segment has begun, and this many of its events and activities are still to come
pub record IsInPart (n m events activities : ℕ) (kept : Kept) : Type 0 where
  pub low : kept.tally.lower ≤ longest_walk n
  pub events_come : length kept.tally.times.items + events ≡ n
  pub acts_come : kept.tally.acts + activities ≡ m
  pub events_first : 0 < events → kept.tally.acts ≡ 0

-- the state fits the place of the next line
abbrev pub IsAtPlace : ℕ → ℕ → Place → Kept → Type 0
IsAtPlace n m Start kept = IsInNormal n n kept
IsAtPlace n m (AfterHead shape) kept = IsShaped n m shape × IsInNormal n n kept
IsAtPlace n m (NormalWalk shape steps) kept = IsShaped n m shape × IsInNormal n steps kept
IsAtPlace n m (CrashWalk shape steps) kept = IsShaped n m shape × IsInCrash n steps kept
IsAtPlace n m (InSegment shape events activities) kept = IsShaped n m shape × IsInPart n m events activities kept
IsAtPlace n m (Between shape) kept = IsShaped n m shape × IsInPart n m 0 0 kept × (0 < kept.segments)
IsAtPlace n m Ended kept = 0 < kept.segments

-- what a checker that has found no failure keeps to
pub record IsBounded (net : PricedNetwork) (kept : Kept) : Type 0 where
  pub place : IsAtPlace net.network.events (length net.network.arcs) kept.place kept
  pub lines : kept.lines + lines_left net kept ≤ lines_of_all net.network.events (length net.network.arcs)
  pub segments : kept.segments ≤ kept.lines
  pub moves : length kept.tally.moves.items ≡ length kept.tally.times.items
