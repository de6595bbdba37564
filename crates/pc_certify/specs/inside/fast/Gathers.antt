-- Lines that are put on a page many at a time.
use Rattle.std.specs.Prelude.{◌≡◌, ℕ, ◌+◌, List, ◌++◌, length, take}
use Rattle.pc_edges.specs.inside.page.Puts.{Desk, Adds}

-- a text was put after lines in the buffer: a front of both was put on the page, and the rest is in the buffer
pub record Gathers (old : Desk) (before : List ℕ) (new : Desk) (after : List ℕ) (text : List ℕ) : Type 0 where
  pub front : List ℕ
  pub put : Adds old new front
  pub rest : front ++ after ≡ before ++ text

-- a line is in the cells from this place on, after what was there before it
pub record IsPlaced (old : List ℕ) (at : ℕ) (line new : List ℕ) : Type 0 where
  pub size : length new ≡ length old
  pub bytes : take (at + length line) new ≡ take at old ++ line
