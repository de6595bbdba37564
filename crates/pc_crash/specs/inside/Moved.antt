-- Where another term has the knees of an activity with the same pieces.
use Rattle.std.specs.Prelude.{◌≡◌, ℕ, zero, suc, ◌+◌, ◌-◌, ◌^◌, ◌<◌, ◌≤◌, List, length}
use Rattle.pc_model.specs.declared.Knee.{Knee}
use Rattle.pc_model.specs.declared.Term.{Term}
use Rattle.pc_model.specs.inside.Pieces.{knee_at}

-- the k-th knee after the old term gave way to the new one: the first is at the normal duration, and the others keep what
-- is left above the crash duration; the second rises from the new slope to that of its piece
abbrev pub moved_knee : Term → Term → ℕ → Knee → Knee
moved_knee old new zero knee = record { at = new.normal; rise = new.slope }
moved_knee old new (suc zero) knee = record { at = knee.at - old.crash + new.crash; rise = knee.rise + old.slope - new.slope }
moved_knee old new (suc (suc k)) knee = record { at = knee.at - old.crash + new.crash; rise = knee.rise }

-- it is no lower than the old crash duration, if its piece's slope is above the new one, and it fits its type when
-- moved
pub record IsMovable (old new : Term) (k : ℕ) (knee : Knee) : Type 0 where
  pub above : 0 < k → old.crash ≤ knee.at
  pub low : 0 < k → knee.at - old.crash + new.crash < 2 ^ 64
  pub rising : k ≡ 1 → new.slope ≤ knee.rise + old.slope
  pub gentle : k ≡ 1 → knee.rise + old.slope < 2 ^ 64

-- all of them have moved
pub record AreMoved (old new : Term) (knees knees' : List Knee) : Type 0 where
  pub as_many : length knees' ≡ length knees
  pub each : (k : ℕ) → k < length knees → knee_at knees' k ≡ moved_knee old new k (knee_at knees k)
