-- Segments that join, and the one that is read for a length.
use Rattle.std.specs.Prelude.{◌≡◌, ℕ, ◌+◌, ◌<◌, false, ◌&&◌, nat_le, List, [], ◌∷◌, length, slice_index_or, All, find, IsSomeAnd}
use Rattle.pc_model.specs.declared.Term.{Term}
use Rattle.pc_model.specs.Walk.{IsWalk, walk_sum, IsSumOfWalk}
use Rattle.pc_model.specs.Network.{Network}
use Rattle.pc_model.specs.Schedule.{normal_of, normals, crashes}
use Rattle.pc_model.specs.Cost.{Knees}
use Rattle.pc_laws.specs.Segment.{Segment, Holds, IsSegment, IsRight}

-- the first upper end is `high`, each later upper end is the lower end before it, and the last lower end is `low`
abbrev pub Joins : ℕ → List Segment → ℕ → Type 0
Joins high [] low = ⊥
Joins high (seg ∷ []) low = (seg.upper ≡ high) × (seg.lower ≡ low)
Joins high (seg ∷ next ∷ rest) low = (seg.upper ≡ high) × Joins seg.lower (next ∷ rest) low

-- the lower end is below the upper one
abbrev pub IsLong : Segment → Type 0
IsLong seg = seg.lower < seg.upper

-- a segment of only one length is the only segment
abbrev pub IsLongUnlessAlone : List Segment → Type 0
IsLongUnlessAlone segments = 1 < length segments → All IsLong segments

-- the durations at the upper end of the first segment are the normal ones
abbrev pub BeginsNormal : Network → List Term → List Segment → Type 0
BeginsNormal net terms [] = ⊥
BeginsNormal net terms (seg ∷ rest) = (a : ℕ) → a < length net.arcs → seg.duration a ≡ normal_of terms a

-- complete segments that join, from a sum of normal durations over a walk from the start to the end, where all
-- durations are normal, down to a length
pub record IsFront (net : Network) (terms : List Term) (knees : Knees) (segments : List Segment) (high low : ℕ) : Type 0 where
  -- 5 to 14, and 15 in each
  pub each : All (IsSegment net terms knees) segments
  -- 15 between them
  pub joined : Joins high segments low
  pub long : IsLongUnlessAlone segments
  -- 7 in the first segment
  pub normal : BeginsNormal net terms segments
  -- 2
  pub normal_walk : IsSumOfWalk net.arcs (normals terms) net.start net.end high

-- such segments down to a sum of crash durations over a walk from the start to the end
pub record IsCovering (net : Network) (terms : List Term) (knees : Knees) (segments : List Segment) (high low : ℕ) : Type 0 where
  pub front : IsFront net terms knees segments high low
  -- 3
  pub crash_walk : IsSumOfWalk net.arcs (crashes terms) net.start net.end low

-- The conditions of a complete certificate

-- the k-th segment; past the last one of zeros
abbrev pub segment_at : List Segment → ℕ → Segment
segment_at segments k =
    slice_index_or segments k
    (record { upper = 0; lower = 0; cost = 0; slope = 0; time = λ e. 0; moves = λ e. false; duration = λ a. 0; flow = λ a k. 0; beside = λ a. 0 })

-- the upper end of the first segment
abbrev pub first_upper : List Segment → ℕ
first_upper segments = (segment_at segments 0).upper

-- the lower end of the last one
abbrev pub last_lower : List Segment → ℕ
last_lower [] = 0
last_lower (seg ∷ []) = seg.lower
last_lower (seg ∷ next ∷ rest) = last_lower (next ∷ rest)

-- the conditions of a certificate that speak of walks and segments, each with its number; 1 and 4 speak of its header
-- and its codes
pub record MeetsConditions (net : Network) (terms : List Term) (knees : Knees) (normal_walk crash_walk : List ℕ) (segments : List Segment) : Type 0 where
  pub some : 0 < length segments
  -- 2
  pub normal_through : IsWalk net.arcs net.start normal_walk net.end
  pub normal_sum : walk_sum (normals terms) normal_walk ≡ first_upper segments
  -- 3
  pub crash_through : IsWalk net.arcs net.start crash_walk net.end
  pub crash_sum : walk_sum (crashes terms) crash_walk ≡ last_lower segments
  -- 5 to 14, and 15 in each segment
  pub each : All (IsSegment net terms knees) segments
  -- 7 in the first segment
  pub normal : BeginsNormal net terms segments
  -- 15 between them
  pub joined : (k : ℕ) → k + 1 < length segments → (segment_at segments (k + 1)).upper ≡ (segment_at segments k).lower
  pub long : IsLongUnlessAlone segments

-- What is read for a length

-- the reading for a length, from the first segment that holds it, is right
abbrev pub IsReadRight : Network → List Term → Knees → List Segment → ℕ → Type 0
IsReadRight net terms knees segments limit =
    IsSomeAnd (find (λ seg. nat_le seg.lower limit && nat_le limit seg.upper) segments) (λ seg. Holds seg limit × IsRight net terms knees seg limit)
