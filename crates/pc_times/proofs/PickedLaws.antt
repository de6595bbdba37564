-- The picked walk: the test by sums finds the critical activities, and from an event on a longest walk it finds
-- one until the end is reached.
use Rattle.std.proofs.Common.{◌≡◌, ℕ, ◌+◌, ◌<◌, ◌≤◌, List, [], ◌∷◌, ◌++◌, length, slice_index, take, drop, refl, sym, ◌∙◌, ap, subst, ⊎_elim, arith, append_assoc, append-nil, length-append}
use Rattle.std.specs.List.{Contains}
use Rattle.std.proofs.lemmas.List.{take-append-drop, drop_more, get_or_at}
use Rattle.std.proofs.lemmas.Bool.{cases_eq, cases_lt}
use Rattle.pc_model.specs.Greatest.{IsFirst}
use Rattle.pc_model.specs.inside.Greatest.{IsListed}
use Rattle.pc_model.specs.Walk.{from_of, to_of, IsWalk, walk_sum, IsSumOfWalk}
use Rattle.pc_model.specs.Network.{Network, IsInRange, IsSound, IsLongest}
use Rattle.pc_model.proofs.Walks.WalkLaws.{IsWalk-append, IsWalk-push, walk_sum-append, walk_sum-push, split_walk, greatest_unique}
use Rattle.pc_model.proofs.Walks.EarlyLaws.{early_at_start, early_fits}
use Rattle.pc_times.specs.Times.{AreEarly}
use Rattle.pc_times.specs.inside.Times.{AreTails}
use Rattle.pc_times.specs.Picked.{IsCriticalAt, IsPickedFrom, IsPickedWalk}
use Rattle.pc_times.specs.inside.Passes.{HasNoSlack}

-- the first of the listed activities that meets the test, all of one event, is the first that does
pub first_listed : (P : ℕ → Type 0) (n e k : ℕ) (place : ℕ → ℕ) (items : List ℕ) → ((a : ℕ) → P a → (a < n) × (place a ≡ e)) →
    IsListed (λ a. place a ≡ e) n items → k < length items → P (slice_index items k) → ((j : ℕ) → j < k → P (slice_index items j) → ⊥) →
    IsFirst P (slice_index items k)
first_listed P n e k place items named listed in_items holds none = record { holds = holds; first = first }
  where
    first : (b : ℕ) → b < slice_index items k → P b → ⊥
    first b lower met =
        let (below, at_e) = named b met in
        let (j, j_in, at) = listed.every b below at_e in
        ⊎_elim (λ earlier. none j earlier (subst P (sym at) met))
        (λ later. ⊎_elim (λ same. omega (arith, at, ap (slice_index items) same)) (λ other. omega (arith, at, listed.rising k j (omega arith) j_in)) (cases_eq k j))
        (cases_lt j k)

-- the walk leads from the start to event e by the picked activities, and continues as the picked walk from e does
pub record IsPickedTo (net : Network) (lengths times tails path : List ℕ) (e : ℕ) : Type 0 where
  pub walked : IsWalk net.arcs net.start path e
  pub in_range : e < net.events
  pub sums : walk_sum lengths path ≡ slice_index times e
  pub on_longest : slice_index times e + slice_index tails e ≡ slice_index times net.end
  pub picked : (rest : List ℕ) → IsPickedFrom net lengths e rest → IsPickedFrom net lengths net.start (path ++ rest)

module _ (net : Network) (lengths times tails : List ℕ) (ranged : IsInRange net) (early : AreEarly net lengths times) (late : AreTails net lengths tails) where
  -- the sums to an event and from it are the sum of a walk through it
  sum_at : (e : ℕ) → e < net.events → IsSumOfWalk net.arcs lengths net.start net.end (slice_index times e + slice_index tails e)
  sum_at e below =
      let (front, front_walked, front_sums) = (early.each e below).attained in
      let (back, back_walked, back_sums) = (late.each e below).attained in
      (front ++ back, IsWalk-append net.arcs net.start e net.end front back front_walked back_walked, omega (arith, walk_sum-append lengths front back))

  -- so they are the sum to the end at most
  sum_at_bound : (e : ℕ) → e < net.events → slice_index times e + slice_index tails e ≤ slice_index times net.end
  sum_at_bound e below = (early.each net.end ranged.end_in).bound _ (sum_at e below)

  -- the greatest walk sum through an activity, as a walk that has it
  walk_through : (a : ℕ) → a < length net.arcs →
      (walk : List ℕ) × IsWalk net.arcs net.start walk net.end
      × (walk_sum lengths walk ≡ slice_index times (from_of net.arcs a) + slice_index lengths a + slice_index tails (to_of net.arcs a))
      × Contains walk a
  walk_through a below =
      let (front, front_walked, front_sums) = (early.each _ (ranged.from_in a below)).attained in
      let (back, back_walked, back_sums) = (late.each _ (ranged.to_in a below)).attained in (
        front ++ a ∷ back,
        IsWalk-append net.arcs net.start _ net.end front (a ∷ back) front_walked (below, refl, back_walked),
        omega (arith, walk_sum-append lengths front (a ∷ back)),
        (length front, omega (arith, length-append front (a ∷ back)), get_or_at front a back a (length front) refl),
      )

  -- an activity that meets the test is on a longest walk
  pub critical_without_slack : (e a : ℕ) → HasNoSlack net lengths times tails e a → IsCriticalAt net lengths e a
  critical_without_slack e a (below, begins, tight) =
      let (walk, walked, sums, has) = walk_through a below in
      (below, begins, (walk, (walked, subst (λ (n : ℕ). IsLongest net lengths n) (omega (arith, sums, tight, ap (slice_index times) begins)) (early.each net.end ranged.end_in)), has))

  -- an activity on a longest walk meets the test
  pub without_slack_where_critical : (e a : ℕ) → IsCriticalAt net lengths e a → HasNoSlack net lengths times tails e a
  without_slack_where_critical e a (below, begins, (walk, (walked, longest), (k, in_walk, at))) =
      let rest : List ℕ = drop (k + 1) walk in
      let parts : take k walk ++ a ∷ rest ≡ walk = ap (λ (x : List ℕ). take k walk ++ x) (sym (drop_more walk k a in_walk ∙ ap (λ (x : ℕ). x ∷ rest) at)) ∙ take-append-drop k walk in
      let (m, front, back) = split_walk net.arcs net.start net.end (take k walk) (a ∷ rest) (subst (λ (x : List ℕ). IsWalk net.arcs net.start x net.end) (sym parts) walked) in
      let sums : walk_sum lengths walk ≡ walk_sum lengths (take k walk) + (slice_index lengths a + walk_sum lengths rest) =
      ap (walk_sum lengths) (sym parts) ∙ walk_sum-append lengths (take k walk) (a ∷ rest) in
      let (through, through_walked, through_sums, has) = walk_through a below in
      let whole : walk_sum lengths walk ≡ slice_index times net.end = greatest_unique _ _ _ longest (early.each net.end ranged.end_in) in
      let front_bound : walk_sum lengths (take k walk)
      ≤ slice_index times (from_of net.arcs a) =
      (early.each _ (ranged.from_in a below)).bound _
      (take k walk, subst (λ (x : ℕ). IsWalk net.arcs net.start (take k walk) x) (sym back.1) front, refl) in
      let back_bound : walk_sum lengths rest ≤ slice_index tails (to_of net.arcs a) = (late.each _ (ranged.to_in a below)).bound _ (rest, back.2, refl) in
      let above : walk_sum lengths through ≤ slice_index times net.end = (early.each net.end ranged.end_in).bound _ (through, through_walked, refl) in
      (below, begins, omega (arith, ap (slice_index times) begins))

  -- the first activity that meets the test is the first critical one
  pub first_critical_without_slack : (e a : ℕ) → IsFirst (HasNoSlack net lengths times tails e) a → IsFirst (IsCriticalAt net lengths e) a
  first_critical_without_slack e a first_without_slack = record {
    holds = critical_without_slack e a first_without_slack.holds;
    first = λ b lower critical. first_without_slack.first b lower (without_slack_where_critical e b critical);
  }

  -- the empty walk at the start
  pub picked_to_start : IsSound net → IsPickedTo net lengths times tails [] net.start
  picked_to_start sound = record {
    walked = refl;
    in_range = ranged.start_in;
    sums = sym (early_at_start net sound lengths _ (early.each net.start ranged.start_in));
    on_longest = omega (
      arith,
      early_at_start net sound lengths _ (early.each net.start ranged.start_in),
      greatest_unique _ _ _ (late.each net.start ranged.start_in) (early.each net.end ranged.end_in),
    );
    picked = λ rest from_start. from_start;
  }

  -- one activity further, by the first that meets the test
  pub picked_to_next : (path : List ℕ) (e a : ℕ) → IsPickedTo net lengths times tails path e →
      IsFirst (HasNoSlack net lengths times tails e) a → IsPickedTo net lengths times tails (path ++ a ∷ []) (to_of net.arcs a)
  picked_to_next path e a so_far first_without_slack =
      let (below, begins, tight) = first_without_slack.holds in
      let fits : slice_index times (from_of net.arcs a) + slice_index lengths a
      ≤ slice_index times (to_of net.arcs a) = early_fits net lengths a below _ _ (early.each _ (ranged.from_in a below))
      (early.each _ (ranged.to_in a below)) in
      let bound : slice_index times (to_of net.arcs a) + slice_index tails (to_of net.arcs a) ≤ slice_index times net.end = sum_at_bound _ (ranged.to_in a below) in
      record {
        walked = IsWalk-push net.arcs net.start e path a so_far.walked below begins;
        in_range = ranged.to_in a below;
        sums = omega (arith, walk_sum-push lengths path a, so_far.sums, ap (slice_index times) begins);
        on_longest = omega (arith, ap (slice_index times) begins);
        picked = λ rest from_next. subst (λ (x : List ℕ). IsPickedFrom net lengths net.start x) (sym (append_assoc path (a ∷ []) rest))
            (so_far.picked (a ∷ rest) (first_critical_without_slack e a first_without_slack, from_next));
      }

  -- where no activity meets the test the end is reached
  pub end_when_none_without_slack : (path : List ℕ) (e : ℕ) → IsPickedTo net lengths times tails path e → ((a : ℕ) → HasNoSlack net lengths times tails e a → ⊥) → e ≡ net.end
  end_when_none_without_slack path e so_far none =
      let (walk, walked, sums) = (late.each e so_far.in_range).attained in at_end walk walked sums
    where
      at_end : (walk : List ℕ) → IsWalk net.arcs e walk net.end → walk_sum lengths walk ≡ slice_index tails e → e ≡ net.end
      at_end [] walked sums = walked
      at_end (a ∷ walk) (below, begins, walked) sums =
          let (through, through_walked, through_sums, has) = walk_through a below in
          let bound : walk_sum lengths through ≤ slice_index times net.end = (early.each net.end ranged.end_in).bound _ (through, through_walked, refl) in
          let rest : walk_sum lengths walk ≤ slice_index tails (to_of net.arcs a) = (late.each _ (ranged.to_in a below)).bound _ (walk, walked, refl) in
          absurd (none a (below, begins, omega (arith, so_far.on_longest, ap (slice_index times) begins)))

  -- at the end the walk is the picked one
  pub picked_at_end : (path : List ℕ) (e : ℕ) → IsPickedTo net lengths times tails path e → e ≡ net.end → IsPickedWalk net lengths path
  picked_at_end path e so_far at_end =
      subst (λ (x : List ℕ). IsPickedFrom net lengths net.start x) (append-nil path) (so_far.picked [] at_end)
