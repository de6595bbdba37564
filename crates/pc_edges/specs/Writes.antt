-- What a call that writes to a sink has done to it.
use Rattle.std.specs.Prelude.{◌≡◌, ℕ, List, take, Option}
use Rattle.std.specs.Io.KnownBytes.{Appends}
use Rattle.pc_edges.specs.Faults.{Rose}

-- the sink took the complete text, and no fault occurred
pub record Wrote (old new : Option (List ℕ)) (before after : ℕ) (text : List ℕ) : Type 0 where
  pub whole : Appends old new text
  pub no_fault : after ≡ before

-- a fault came when the sink had taken a front of the text
pub record Stopped (old new : Option (List ℕ)) (before after : ℕ) (text : List ℕ) : Type 0 where
  pub front : (n : ℕ) × Appends old new (take n text)
  pub fault : Rose before after
