-- What the activities' durations may be, and schedules for a length.
use Rattle.std.specs.Prelude.{◌≡◌, ℕ, ◌+◌, ◌-◌, ◌<◌, ◌≤◌, min, List, length, map, slice_index_or}
use Rattle.pc_model.specs.declared.Arc.{Arc}
use Rattle.pc_model.specs.declared.Term.{Term}
use Rattle.pc_model.specs.Walk.{from_of, to_of}
use Rattle.pc_model.specs.Network.{Network, IsLongest}

-- the term of activity a; past the end of the list one of zeros
abbrev pub term_at : List Term → ℕ → Term
term_at terms a = slice_index_or terms a (record { normal = 0; crash = 0; cost = 0; slope = 0 })

-- activity a's normal duration
abbrev pub normal_of : List Term → ℕ → ℕ
normal_of terms a = (term_at terms a).normal

-- activity a's crash duration
abbrev pub crash_of : List Term → ℕ → ℕ
crash_of terms a = (term_at terms a).crash

-- what activity a costs at its normal duration
abbrev pub base_cost_of : List Term → ℕ → ℕ
base_cost_of terms a = (term_at terms a).cost

-- what each of the first units saved of activity a costs
abbrev pub slope_of : List Term → ℕ → ℕ
slope_of terms a = (term_at terms a).slope

-- the normal durations of all activities
abbrev pub normals : List Term → List ℕ
normals terms = map (λ t. t.normal) terms

-- the crash durations of all activities
abbrev pub crashes : List Term → List ℕ
crashes terms = map (λ t. t.crash) terms

-- one term for each activity, and no crash duration above the normal one
pub record AreTerms (net : Network) (terms : List Term) : Type 0 where
  pub one_each : length terms ≡ length net.arcs
  pub ordered : (a : ℕ) → a < length terms → crash_of terms a ≤ normal_of terms a

-- a duration for each activity from its crash to its normal one and a time for each event: the start is at 0,
-- each activity's duration fits between its two events, and the end is at the length or before it
pub record IsSchedule (net : Network) (terms : List Term) (limit : ℕ) (durations times : ℕ → ℕ) : Type 0 where
  pub enough : (a : ℕ) → a < length net.arcs → crash_of terms a ≤ durations a
  pub within : (a : ℕ) → a < length net.arcs → durations a ≤ normal_of terms a
  pub starts : times net.start ≡ 0
  pub fits : (a : ℕ) → a < length net.arcs → times (from_of net.arcs a) + durations a ≤ times (to_of net.arcs a)
  pub ends : times net.end ≤ limit

-- the greatest sum of normal durations over the walks from the start to the end
abbrev pub IsAllNormalLength : Network → List Term → ℕ → Type 0
IsAllNormalLength net terms n = IsLongest net (normals terms) n

-- the greatest sum of crash durations over the walks from the start to the end
abbrev pub IsAllCrashLength : Network → List Term → ℕ → Type 0
IsAllCrashLength net terms n = IsLongest net (crashes terms) n

-- some durations and times are a schedule for the length
abbrev pub HasSchedule : Network → List Term → ℕ → Type 0
HasSchedule net terms limit = (durations times : ℕ → ℕ) × IsSchedule net terms limit durations times

-- the gap of activity a: the time of its ending event less that of its beginning event, or 0 if that is negative, as it
-- never is if the crash duration fits between them
abbrev pub gap_of : List Arc → (ℕ → ℕ) → ℕ → ℕ
gap_of arcs times a = times (to_of arcs a) - times (from_of arcs a)

-- the lesser of activity a's normal duration and its gap: the longest duration that these times allow it
abbrev pub lesser_of : Network → List Term → (ℕ → ℕ) → ℕ → ℕ
lesser_of net terms times a = min (normal_of terms a) (gap_of net.arcs times a)
