-- A sound network has one forecast.
use Rattle.std.proofs.Common.{◌≡◌, ℕ, zero, suc, ◌<◌, ⊎_elim, List, [], ◌∷◌, ◌++◌, length, length-append, slice_index, refl, sym, ap, ◌∙◌, subst, arith}
use Rattle.std.proofs.lemmas.Bool.{cases_eq, cases_lt}
use Rattle.std.proofs.lemmas.List.{ext_get_or}
use Rattle.pc_model.specs.Walk.{from_of, to_of, IsWalk}
use Rattle.pc_model.specs.Network.{Network, IsInRange, IsSound}
use Rattle.pc_model.proofs.Walks.CycleLaws.{long_walk_has_cycle}
use Rattle.pc_model.proofs.Walks.WalkLaws.{IsWalk-push, greatest_unique}
use Rattle.pc_times.specs.declared.forecasts.ActState.{ActState}
use Rattle.pc_times.specs.Forecast.{Expected, state_at, finish_of, IsFinishAt, IsForecast}

-- each walk from an event to event e has fewer activities
abbrev pub IsShortTo : Network → ℕ → ℕ → Type 0
IsShortTo net n e = (b : ℕ) (walk : List ℕ) → b < net.events → IsWalk net.arcs b walk e → length walk < n

module _ (net : Network) (lengths : List ℕ) (states : List ActState) (as_of : ℕ) (ranged : IsInRange net) (sound : IsSound net) (one other : Expected)
    (first : IsForecast net lengths states as_of one) (second : IsForecast net lengths states as_of other) where
  -- an activity has one finish where its beginning event has one time
  same_finish : (a : ℕ) → a < length net.arcs → slice_index one.times (from_of net.arcs a) ≡ slice_index other.times (from_of net.arcs a) → slice_index one.finishes a ≡ slice_index other.finishes a
  same_finish a in_arcs same =
      first.activity a in_arcs ∙ (ap (λ (n : ℕ). finish_of (state_at states a) (slice_index lengths a) as_of n) same ∙ sym (second.activity a in_arcs))

  -- an event has one time, where those have from which only one activity less leads to it
  next_time : (n e : ℕ) → e < net.events → IsShortTo net (suc n) e →
      ((f : ℕ) → f < net.events → IsShortTo net n f → slice_index one.times f ≡ slice_index other.times f) →
      slice_index one.times e ≡ slice_index other.times e
  next_time n e below short again =
      ⊎_elim (λ start. ap (slice_index one.times) start ∙ (first.start ∙ (sym second.start ∙ ap (slice_index other.times) (sym start))))
      (λ not_start. greatest_unique (IsFinishAt net other.finishes e) (slice_index one.times e) (slice_index other.times e)
      (let great = first.event e below not_start in record {
        attained = let (a, (in_arcs, ends, is)) = great.attained in (a, (in_arcs, ends, sym (finish_is a in_arcs ends) ∙ is));
        bound = λ m (a, (in_arcs, ends, is)). great.bound m (a, (in_arcs, ends, finish_is a in_arcs ends ∙ is));
      })
      (second.event e below not_start))
      (cases_eq e net.start)
    where
      begins_short : (a : ℕ) → a < length net.arcs → to_of net.arcs a ≡ e → IsShortTo net n (from_of net.arcs a)
      begins_short a in_arcs ends b walk known walked =
          let more = IsWalk-push net.arcs b (from_of net.arcs a) walk a walked in_arcs refl in
          omega (arith, short b (walk ++ a ∷ []) known (subst (IsWalk net.arcs b (walk ++ a ∷ [])) ends more), length-append walk (a ∷ []))

      finish_is : (a : ℕ) → a < length net.arcs → to_of net.arcs a ≡ e → slice_index one.finishes a ≡ slice_index other.finishes a
      finish_is a in_arcs ends = same_finish a in_arcs (again (from_of net.arcs a) (ranged.from_in a in_arcs) (begins_short a in_arcs ends))

  -- an event to which only so short walks lead has one time
  same_time : (n e : ℕ) → e < net.events → IsShortTo net n e → slice_index one.times e ≡ slice_index other.times e
  same_time zero e below short = absurd (omega (arith, short e [] below refl))
  same_time (suc n) e below short = next_time n e below short (λ f known few. same_time n f known few)

  -- no walk is longer than there are events
  all_short : (e : ℕ) → IsShortTo net net.events e
  all_short e b walk known walked =
      ⊎_elim (λ lower. lower) (λ not_lower. let (round, cycle) = long_walk_has_cycle net ranged b e walk walked known (omega (arith, not_lower)) in absurd (sound.no_cycle round cycle))
      (cases_lt (length walk) net.events)

  pub one_forecast : one ≡ other
  one_forecast =
      let make : List ℕ → List ℕ → Expected = λ ts fs. record { times = ts; finishes = fs } in
      let times : one.times ≡ other.times = ext_get_or 0 one.times other.times (first.one_each ∙ sym second.one_each)
      (λ e lt. same_time net.events e (omega (arith, lt, first.one_each)) (all_short e)) in
      let finishes : one.finishes ≡ other.finishes = ext_get_or 0 one.finishes other.finishes (first.finish_each ∙ sym second.finish_each)
      (λ a lt. let in_arcs : a < length net.arcs = omega (arith, lt, first.finish_each) in
      same_finish a in_arcs (same_time net.events (from_of net.arcs a) (ranged.from_in a in_arcs) (all_short (from_of net.arcs a)))) in
      ap (λ (ts : List ℕ). make ts one.finishes) times ∙ ap (λ (fs : List ℕ). make other.times fs) finishes
