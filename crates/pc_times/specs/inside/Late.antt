-- Latest times: what the walks to the end leave, if the end is to be met at a given time.
-- Here is what no clause of a top call and no law reaches.
use Rattle.std.specs.Prelude.{ℤ, pos, ◌+ℤ◌, ◌≤ℤ◌}
use Rattle.pc_times.specs.declared.TheConstants.{MAX_TIME}

-- t is at most the time to be met, and before it by no more than a project can take
abbrev pub IsInTimeFor : ℤ → ℤ → Type 0
IsInTimeFor by t = (t ≤ℤ by) × (by ≤ℤ (t +ℤ pos MAX_TIME))
