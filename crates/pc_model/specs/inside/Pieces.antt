-- The pieces of the activities' costs, and the knees that they make.
-- Here is what no clause of a top call and no law reaches.
use Rattle.std.specs.Prelude.{ℕ, List, slice_index_or}
use Rattle.pc_model.specs.declared.Knee.{Knee}

-- the k-th knee of a list; past its end one at duration 0 that does not rise
abbrev pub knee_at : List Knee → ℕ → Knee
knee_at knees k = slice_index_or knees k (record { at = 0; rise = 0 })
