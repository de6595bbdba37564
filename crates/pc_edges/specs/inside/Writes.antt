-- What a call that writes to a sink has done to it.
-- Here is what no clause of a top call and no law reaches.
use Rattle.std.specs.Prelude.{◌≡◌, ℕ, ◌≤◌, List, ◌++◌, Option, Result, OnOk, OnErr}
use Rattle.std.specs.Io.KnownBytes.{Appends}
use Rattle.pc_edges.specs.Writes.{Wrote, Stopped}

-- what a call that writes the text leaves: at Ok all of it, at an error a front of it and a fault
pub record Writes {A E : Type 0} (result : Result A E) (old new : Option (List ℕ)) (before after : ℕ) (text : List ℕ) : Type 0 where
  pub ok : OnOk result (Wrote old new before after text)
  pub err : OnErr result (Stopped old new before after text)
  pub count : before ≤ after

-- the sink took a front of the text, the rest of it is pending, and no fault occurred
pub record Gathered (old now : Option (List ℕ)) (pending : List ℕ) (before after : ℕ) (text : List ℕ) : Type 0 where
  pub pushed : (front : List ℕ) × Appends old now front × (text ≡ front ++ pending)
  pub no_fault : after ≡ before
