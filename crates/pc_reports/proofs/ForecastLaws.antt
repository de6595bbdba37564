-- No event is forecast later than as-of and the greatest time of a network.
use Rattle.std.proofs.Common.{◌≡◌, ℕ, zero, suc, ◌+◌, ◌*◌, ◌<◌, ◌≤◌, ◌^◌, ◌==◌, Bool, true, false, cond, max, List, length, slice_index, ap, subst, sym, ⊎_elim, arith}
use Rattle.std.specs.Prelude.{ℤ, ◌<ℤ◌}
use Rattle.std.specs.List.{All}
use Rattle.std.proofs.lemmas.Bool.{cases_eq}
use Rattle.std.proofs.lemmas.List.{get_or_default}
use Rattle.std.proofs.lemmas.Int.{ints}
use Rattle.pc_model.specs.declared.limits.TheConstants.{MAX_EVENTS}
use Rattle.pc_model.specs.Greatest.{IsFirst}
use Rattle.pc_model.specs.Network.{Network, IsOrder}
use Rattle.pc_model.specs.Walk.{from_of, to_of}
use Rattle.pc_model.proofs.Walks.OrderLaws.{stands_in_order}
use Rattle.pc_project.specs.Planned.{IsPlanned}
use Rattle.pc_project.specs.Project.{Project}
use Rattle.pc_accounts.specs.declared.status.StatusRow.{StatusRow}
use Rattle.pc_accounts.specs.status.Statuses.{status_at, AreInOrder, IsOf, IsSixths, IsStateOf}
use Rattle.pc_faults.specs.declared.fault.StatusFault.TheVariants.{Late}
use Rattle.pc_times.specs.declared.TheConstants.{MAX_ACTIVITY_LENGTH, MAX_TIME}
use Rattle.pc_times.specs.declared.forecasts.ActState.{ActState}
use Rattle.pc_times.specs.declared.forecasts.ActState.TheVariants.{Waiting, Started, Finished}
use Rattle.pc_times.specs.Times.{AreLengths}
use Rattle.pc_times.specs.Forecast.{Expected, state_at, finish_of, IsForecast}

-- the time of a state is no later than that
abbrev pub IsStateUpTo : ℕ → ActState → Type 0
IsStateUpTo most (Finished at) = at ≤ most
IsStateUpTo most (Started at) = at ≤ most
IsStateUpTo most Waiting = Unit {0}

-- a status that is in order is not later than as-of
status_up_to : (start as_of : ℤ) (statuses : List StatusRow) (ended : Bool) (a k at most : ℕ) → AreInOrder start as_of statuses →
    IsSixths start as_of most → IsFirst (IsOf statuses ended a) k → IsSixths start (status_at statuses k).day at → at ≤ most
status_up_to start as_of statuses ended a k at most in_order last first is =
    let not_late : (as_of <ℤ (status_at statuses k).day) → ⊥ = in_order k first.holds.known Late in
    grind (arith, ints)

-- nor is the state that it gives
pub state_up_to : (start as_of : ℤ) (statuses : List StatusRow) (a most : ℕ) (state : ActState) → AreInOrder start as_of statuses →
    IsSixths start as_of most → IsStateOf start statuses a state → IsStateUpTo most state
state_up_to start as_of statuses a most (Finished at) in_order last (k, (first, is)) =
    status_up_to start as_of statuses true a k at most in_order last first is
state_up_to start as_of statuses a most (Started at) in_order last (none, (k, (first, is))) =
    status_up_to start as_of statuses false a k at most in_order last first is
state_up_to start as_of statuses a most Waiting in_order last is = tt

-- a finish is later than the times before it by no more than the greatest length
finish_bound : (state : ActState) (len as_of begin most : ℕ) → IsStateUpTo most state → len ≤ MAX_ACTIVITY_LENGTH → as_of ≤ most → begin ≤ most
    → finish_of state len as_of begin ≤ most + MAX_ACTIVITY_LENGTH
finish_bound (Finished at) len as_of begin most state short early below = omega (arith, state)
finish_bound (Started at) len as_of begin most state short early below = omega (arith, state)
finish_bound Waiting len as_of begin most state short early below = by_test (len == 0)
  where
    by_test : (b : Bool) → cond b begin (max begin as_of + len) ≤ most + MAX_ACTIVITY_LENGTH
    by_test true = omega arith
    by_test false = omega arith

-- a state that is no later than that is no later than more
state_more : (state : ActState) (most more : ℕ) → most ≤ more → IsStateUpTo most state → IsStateUpTo more state
state_more (Finished at) most more le is = omega (arith, is)
state_more (Started at) most more le is = omega (arith, is)
state_more Waiting most more le is = tt

module _ (net : Network) (lengths : List ℕ) (states : List ActState) (as_of : ℕ) (order : List ℕ) (expected : Expected)
    (ordered : IsOrder net order) (fit : AreLengths net lengths) (known : (a : ℕ) → a < length net.arcs →
    IsStateUpTo as_of (state_at states a)) (forecast : IsForecast net lengths states as_of expected) where
  -- the k-th event of the order is forecast no later than that
  IsSoon : ℕ → Type 0
  IsSoon k = slice_index expected.times (slice_index order k) ≤ as_of + k * MAX_ACTIVITY_LENGTH

  soon_here : (k : ℕ) → k < length order → ((j : ℕ) → j < k → IsSoon j) → IsSoon k
  unfolding IsSoon
  soon_here k in_order so_far =
      ⊎_elim (λ start. omega (arith, ap (slice_index expected.times) start, forecast.start))
      (λ not_start. let (a, (in_arcs, ends, is)) = (forecast.event (slice_index order k) (ordered.part.range k in_order) not_start).attained in of_last a in_arcs ends is)
      (cases_eq (slice_index order k) net.start)
    where
      of_last : (a : ℕ) → a < length net.arcs → to_of net.arcs a ≡ slice_index order k →
          slice_index expected.finishes a ≡ slice_index expected.times (slice_index order k) →
          slice_index expected.times (slice_index order k) ≤ as_of + k * MAX_ACTIVITY_LENGTH
      of_last a in_arcs ends is =
          let (i, lower, at) = ordered.part.before k a in_order in_arcs ends in
          let begins : slice_index expected.times (from_of net.arcs a) ≤ as_of + i * MAX_ACTIVITY_LENGTH =
          subst (λ (e : ℕ). slice_index expected.times e ≤ as_of + i * MAX_ACTIVITY_LENGTH) at (so_far i lower) in
          let later : as_of ≤ as_of + i * MAX_ACTIVITY_LENGTH = omega arith in
          let bound = finish_bound (state_at states a) (slice_index lengths a) as_of (slice_index expected.times (from_of net.arcs a))
          (as_of + i * MAX_ACTIVITY_LENGTH) (state_more (state_at states a) as_of (as_of + i * MAX_ACTIVITY_LENGTH) later (known a in_arcs))
          (fit.small a in_arcs) later begins in
          omega (arith, bound, forecast.activity a in_arcs, is)

  soon_to : (k : ℕ) → k ≤ length order → (j : ℕ) → j < k → IsSoon j
  soon_to zero le j lt = absurd (omega arith)
  soon_to (suc k) le j lt =
      ⊎_elim (λ e. subst IsSoon (sym e) (soon_here k (omega arith) (soon_to k (omega arith)))) (λ ne. soon_to k (omega arith) j (omega arith)) (cases_eq j k)

  -- so is each event
  pub soon : net.events ≤ MAX_EVENTS → (e : ℕ) → e < net.events → slice_index expected.times e ≤ as_of + MAX_TIME
  unfolding IsSoon
  soon few e below =
      let (k, in_order, at) = stands_in_order net order ordered e below in
      let here : slice_index expected.times (slice_index order k) ≤ as_of + k * MAX_ACTIVITY_LENGTH = soon_to (length order) (omega arith) k in_order in
      omega (arith, here, ap (slice_index expected.times) at, ordered.whole)

-- the times of a project's forecast are soon enough to be dated
pub all_soon : (project : Project) (as_of : ℕ) (expected : Expected) (times : List ℕ) → IsPlanned project → as_of < 2 ^ 25 →
    IsSixths project.heading.start_day project.heading.as_of as_of → (order : List ℕ) × IsOrder project.network order →
    IsForecast project.network project.expected project.states as_of expected → times ≡ expected.times → All (λ time. time < 2 ^ 40) times
all_soon project as_of expected times planned early last (order, ordered) forecast same = λ k d within.
    let below : k < project.network.events = omega (arith, within, ap (λ (l : List ℕ). length l) same, forecast.one_each) in
    let known : (a : ℕ) → a < length project.network.arcs →
    IsStateUpTo as_of (state_at project.states a) =
    λ a in_arcs. state_up_to project.heading.start_day project.heading.as_of project.statuses a as_of (state_at project.states a)
    planned.figures.in_order last (planned.figures.states.each a in_arcs) in
    let bound = soon project.network project.expected project.states as_of order expected ordered planned.lengths known forecast planned.few_events k below in
    omega (arith, early, bound, ap (λ (l : List ℕ). slice_index l k) same, get_or_default times k d 0 within)
