-- The lists of normal and of crash durations, and the durations that times allow.
use Rattle.std.proofs.Common.{◌≡◌, ℕ, ◌<◌, ◌≤◌, List, length, slice_index, sym, subst, arith}
use Rattle.std.proofs.lemmas.List.{get_or-map}
use Rattle.pc_model.specs.declared.Term.{Term}
use Rattle.pc_model.specs.Walk.{IsWalk, walk_sum}
use Rattle.pc_model.specs.Network.{Network}
use Rattle.pc_model.specs.Schedule.{normal_of, crash_of, normals, crashes, AreTerms, IsSchedule}
use Rattle.pc_model.proofs.Walks.WalkLaws.{times_bound_walk}

-- a list of the crash durations has that of activity a at its place
pub crashes-at : (terms : List Term) (a : ℕ) → a < length terms → slice_index (crashes terms) a ≡ crash_of terms a
crashes-at terms a inside = get_or-map (λ (t : Term). t.crash) terms a _ 0 inside

-- a list of the normal durations has that of activity a at its place
pub normals-at : (terms : List Term) (a : ℕ) → a < length terms → slice_index (normals terms) a ≡ normal_of terms a
normals-at terms a inside = get_or-map (λ (t : Term). t.normal) terms a _ 0 inside

-- an activity's crash duration is at most its normal one
pub crash-normal : (net : Network) (terms : List Term) → AreTerms net terms → (a : ℕ) → a < length net.arcs → crash_of terms a ≤ normal_of terms a
crash-normal net terms are a inside = are.ordered a (subst (λ n. a < n) (sym are.one_each) inside)

-- a schedule for a length is one for a longer length
pub longer : (net : Network) (terms : List Term) (short long : ℕ) (d t : ℕ → ℕ) → short ≤ long →
    IsSchedule net terms short d t → IsSchedule net terms long d t
longer net terms short long d t h s =
    record { enough = s.enough; within = s.within; starts = s.starts; fits = s.fits; ends = (let e = s.ends in omega arith) }

-- no through walk has a greater sum of crash durations than a schedule has time
pub crash_walk_within : (net : Network) (terms : List Term) (limit : ℕ) (d T : ℕ → ℕ) → AreTerms net terms → IsSchedule net terms limit d T →
    (walk : List ℕ) → IsWalk net.arcs net.start walk net.end → walk_sum (crashes terms) walk ≤ limit
crash_walk_within net terms limit d T are s walk leads =
    omega (
      arith,
      times_bound_walk net.arcs (crashes terms) T
          (λ a h. omega (arith, s.fits a h, s.enough a h, crashes-at terms a (omega (arith, are.one_each))))
          net.start net.end walk leads,
      s.starts,
      s.ends,
    )
