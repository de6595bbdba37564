-- A search that looks again after an augmentation.
use Rattle.std.proofs.Common.{◌≡◌, ◌≢◌, ℕ, ◌+◌, ◌-◌, ◌*◌, ◌<◌, ◌≤◌, ◌⊎◌, List, length, sym, ◌∙◌, ap, subst, inl, inr, arith}
use Rattle.std.proofs.lemmas.Bool.{cases_lt}
use Rattle.pc_model.specs.Walk.{from_of, to_of}
use Rattle.pc_model.specs.Sums.{sum_to}
use Rattle.pc_laws.specs.Stair.{IsOnStair}
use Rattle.pc_net.specs.Networks.{events_from, events_to}
use Rattle.pc_net.specs.Degrees.{AreDistinct, degrees}
use Rattle.pc_crash.specs.Priced.{PricedNetwork}
use Rattle.pc_flow.specs.board.Sheets.{Sheet, time_of, rank_of, flow_of}
use Rattle.pc_flow.specs.inside.board.Sheets.{queue_of, step_of, against_of, room_of, lost_of, slot_of}
use Rattle.pc_flow.specs.inside.board.Labelling.{HasStep, HaveRoom}
use Rattle.pc_flow.specs.inside.board.Pruning.{IsSorted, IsPruned}
use Rattle.pc_flow.proofs.lemmas.board.AfterPruning.{
  pruned-flow,
  pruned-had,
  pruned-step,
  pruned-ranked,
  pruned-back,
  pruned-steps,
  pruned-room,
  pruned-time,
  pruned-times,
  pruned-joined,
  pruned-for,
}
use Rattle.pc_flow.specs.declared.search.way.Way.{Way}
use Rattle.pc_flow.specs.declared.search.way.Way.TheVariants.{Along, Against}
use Rattle.pc_flow.specs.inside.search.Searches.{MayCross, stair_at, gap_at, IsSearch, IsOnStairs, AreLed, IsSettledActivity, grown_as}
use Rattle.pc_flow.specs.inside.search.Growing.{IsAtLost, degree, IsReached, IsScanned, IsMet, AreSettled, GoesOn, relabelled, HasLookedAgain}
use Rattle.pc_flow.proofs.lemmas.search.KeptLaws.{with_list, waiting-kept, with_lengths, lengths-kept}
use Rattle.pc_flow.proofs.lemmas.search.GrowingLaws.{met-was, met-reached, settled-grows}
use Rattle.pc_flow.proofs.lemmas.search.GrowLaws.{headed, search-headed, room-headed}
use Rattle.pc_flow.proofs.lemmas.search.DegreeLaws.{degrees-few}
use Rattle.pc_flow.proofs.lemmas.search.WayLaws.{settled-kept}

module _ (net : PricedNetwork) (s u : Sheet) (gone : ℕ) (search : IsSearch net s) (pruned : IsPruned s u gone) where
  abbrev sorted : IsSorted s u s.count u.count gone u.head
  sorted = pruned.sorted

  from-event : (a : ℕ) → a < length net.network.arcs → from_of net.network.arcs a < s.events
  from-event a known = omega (arith, search.in_range.from_in a known, search.fits.events)

  to-event : (a : ℕ) → a < length net.network.arcs → to_of net.network.arcs a < s.events
  to-event a known = omega (arith, search.in_range.to_in a known, search.fits.events)

  time : (e : ℕ) → e < s.events → time_of u e ≡ time_of s e
  time = pruned-time s u gone search.ranked pruned

  flow : (a : ℕ) → flow_of u a ≡ flow_of s a
  flow = pruned-flow s u gone search.ranked pruned

  gap : (a : ℕ) → a < length net.network.arcs → gap_at net u a ≡ gap_at net s a
  gap a known =
      ap (λ n. n - time_of u (from_of net.network.arcs a)) (time (to_of net.network.arcs a) (to-event a known))
      ∙ ap (λ n. time_of s (to_of net.network.arcs a) - n) (time (from_of net.network.arcs a) (from-event a known))

  events-same : u.events ≡ s.events
  events-same = ap (λ (v : Sheet). v.events) pruned.rest

  step-same : (e : ℕ) → step_of u e ≡ step_of s e
  step-same e = ap (λ (v : Sheet). step_of v e) pruned.rest

  against-same : (e : ℕ) → against_of u e ≡ against_of s e
  against-same e = ap (λ (v : Sheet). against_of v e) pruned.rest

  room-same : (e : ℕ) → room_of u e ≡ room_of s e
  room-same e = ap (λ (v : Sheet). room_of v e) pruned.rest

  slot-same : (a : ℕ) → slot_of u a ≡ slot_of s a
  slot-same a = ap (λ (v : Sheet). slot_of v a) pruned.rest

  was-event : (e : ℕ) → e < u.events → e < s.events
  was-event e known = omega (arith, known, events-same)

  -- what is on a staircase at the earlier gap
  moved : (a x : ℕ) → a < length net.network.arcs → IsOnStair (stair_at net a) (gap_at net s a) x → IsOnStair (stair_at net a) (gap_at net u a) x
  moved a x known on = subst (λ n. IsOnStair (stair_at net a) n x) (sym (gap a known)) on

  stairs : IsOnStairs net u
  stairs = record {
    falling = search.stairs.falling;
    reach = search.stairs.reach;
    ahead = λ a known.
        omega (
          arith,
          search.stairs.ahead a known,
          time (from_of net.network.arcs a) (from-event a known),
          time (to_of net.network.arcs a) (to-event a known),
        );
    on = λ a known.
        subst (λ x. IsOnStair (stair_at net a) (gap_at net u a) x) (sym (flow a)) (moved a (flow_of s a) known (search.stairs.on a known));
    small = λ a known. omega (arith, flow a, search.stairs.small a known);
  }

  had : (e : ℕ) → e < u.events → HasStep u e → HasStep s e
  had e known has = pruned-step s u gone search.ranked pruned e (was-event e known) has

  step-known : (e : ℕ) → e < u.events → HasStep u e → step_of s e < length net.network.arcs
  step-known e known has = omega (arith, search.steps.known e (was-event e known) (had e known has), search.fits.activities)

  led : AreLed net u
  led = record {
    along = λ e known has none.
        let on : IsOnStair (stair_at net (step_of s e)) (gap_at net u (step_of s e)) (flow_of s (step_of s e) + room_of s e) =
        moved (step_of s e) (flow_of s (step_of s e) + room_of s e) (step-known e known has)
        (search.led.along e (was-event e known) (had e known has) (sym (against-same e) ∙ none)) in
        let total : flow_of s (step_of s e) + room_of s e ≡ flow_of u (step_of s e) + room_of u e = omega (arith, flow (step_of s e), room-same e) in
        subst (λ b. IsOnStair (stair_at net b) (gap_at net u b) (flow_of u b + room_of u e)) (sym (step-same e))
        (subst (λ x. IsOnStair (stair_at net (step_of s e)) (gap_at net u (step_of s e)) x) total on);
    against = λ e known has some.
        let on : IsOnStair (stair_at net (step_of s e)) (gap_at net u (step_of s e)) (flow_of s (step_of s e) - room_of s e) =
        moved (step_of s e) (flow_of s (step_of s e) - room_of s e) (step-known e known has)
        (search.led.against e (was-event e known) (had e known has) (omega (arith, some, against-same e))) in
        let total : flow_of s (step_of s e) - room_of s e ≡ flow_of u (step_of s e) - room_of u e = omega (arith, flow (step_of s e), room-same e) in
        subst (λ b. IsOnStair (stair_at net b) (gap_at net u b) (flow_of u b - room_of u e)) (sym (step-same e))
        (subst (λ x. IsOnStair (stair_at net (step_of s e)) (gap_at net u (step_of s e)) x) total on);
  }

  pub search-pruned : IsSearch net u
  search-pruned = record {
    in_range = search.in_range;
    few = search.few;
    fits = pruned-for s u gone search.ranked pruned net.network search.fits;
    ranked = pruned-ranked s u gone search.ranked pruned;
    start = sorted.first ∙ search.start;
    back = pruned-back s u gone search.ranked pruned search.back;
    steps = pruned-steps s u gone search.ranked pruned search.steps;
    times = pruned-times s u gone search.ranked pruned search.times;
    joined = pruned-joined s u gone search.ranked pruned net.network search.joined;
    waiting = waiting-kept s u (pruned.rest ∙ ap (λ (v : Sheet). with_list v s) (sym pruned.rest)) search.waiting;
    stairs = stairs;
    lengths = lengths-kept net s u (pruned.rest ∙ ap (λ (v : Sheet). with_lengths v s) (sym pruned.rest)) search.lengths;
    led = led;
  }

  pub room-pruned : HaveRoom u
  room-pruned = pruned-room s u gone search.ranked pruned

  -- an event without a label had none, or lost it
  fate : (e : ℕ) → e < s.events → (rank_of u e ≡ 0 → rank_of s e ≡ 0) ⊎ ((k : ℕ) × (k < gone) × (lost_of u k ≡ e))
  fate e known =
      elim (cases_lt 0 (rank_of s e)) [
        | inl labelled ↦ elim (sorted.fates e known labelled (search.ranked.within e known)) [
          | inl kept ↦ inl (λ none. absurd (omega (arith, none, kept.labelled)))
          | inr lost ↦ inr lost.listed
        ]
        | inr none ↦ inl (λ now. omega arith)
      ]

  scanned-before : (e : ℕ) → e < s.events → IsScanned u e → IsScanned s e
  scanned-before e known is = record {
    labelled = pruned-had s u gone search.ranked pruned e known is.labelled;
    within = sorted.was_seen e known (search.ranked.within e known) is.labelled is.within;
  }

  met-before : (a : ℕ) → a < length net.network.arcs → IsMet net u a → IsMet net s a
  met-before a known (inl from) = inl (scanned-before (from_of net.network.arcs a) (from-event a known) from)
  met-before a known (inr to) = inr (scanned-before (to_of net.network.arcs a) (to-event a known) to)

  -- an activity is settled as before if no end of it lost its label
  settled-still : (a : ℕ) → a < length net.network.arcs → (rank_of u (from_of net.network.arcs a) ≡ 0 → rank_of s (from_of net.network.arcs a) ≡ 0)
      → (rank_of u (to_of net.network.arcs a) ≡ 0 → rank_of s (to_of net.network.arcs a) ≡ 0) → IsSettledActivity net s a → IsSettledActivity net u a
  settled-still a known from to = settled-kept net s u a (flow a) (gap a known) was (λ had. omega (arith, had, slot-same a)) where
    was : (way : Way) → MayCross net u way a → MayCross net s way a
    was Along may = record {
      near = pruned-had s u gone search.ranked pruned (from_of net.network.arcs a) (from-event a known) may.near;
      far = to may.far;
      flows = λ is. omega (arith, may.flows is, flow a);
    }
    was Against may = record {
      near = pruned-had s u gone search.ranked pruned (to_of net.network.arcs a) (to-event a known) may.near;
      far = from may.far;
      flows = λ is. omega (arith, may.flows is, flow a);
    }

  -- the looks at the activities of the lost events
  pub looks-lost : ((events : List ℕ) → AreDistinct events → degrees (events_from net.network.arcs) events ≤ length net.network.arcs)
      → ((events : List ℕ) → AreDistinct events → degrees (events_to net.network.arcs) events ≤ length net.network.arcs)
      → sum_to gone (λ k. degree net (lost_of u k)) ≤ 2 * length net.network.arcs
  looks-lost begin end = omega (arith, sorted.weights (degree net), degrees-few net (queue_of s) s.count once begin end) where
    once : (j k : ℕ) → j < k → k < s.count → queue_of s j ≢ queue_of s k
    once j k before below same =
        omega (arith, search.ranked.placed j (omega arith), search.ranked.placed k below, ap (rank_of s) same)

  -- all are scanned again
  pub again-anew : HasLookedAgain net s (headed u 0)
  again-anew = record {
    rest = ap (λ (v : Sheet). headed v 0) pruned.rest ∙ ap (λ (v : Sheet). relabelled s (headed v 0)) (sym pruned.rest);
    time = time;
    search = search-headed net u 0 (omega arith) search-pruned;
    room = room-headed u 0 room-pruned;
    settled = λ a known met. absurd (none a met);
  } where
    none : (a : ℕ) → IsMet net (headed u 0) a → ⊥
    none a (inl from) = omega (arith, from.labelled, from.within)
    none a (inr to) = omega (arith, to.labelled, to.within)

  -- the lost ones are scanned
  module _ (t : Sheet) (settled : AreSettled net s) (on : GoesOn net (IsAtLost net u gone) u t) where
    settled-now : AreSettled net t
    settled-now a known met =
        let met_u : IsMet net u a = met-was net (IsAtLost net u gone) u t search-pruned on a known met in
        let reached : IsReached net u a = met-reached net u a met_u in
        elim (fate (from_of net.network.arcs a) (from-event a known)) [
          | inr lost ↦ on.settled a known (lost.0, lost.1, inl (sym lost.2)) reached
          | inl from ↦ elim (fate (to_of net.network.arcs a) (to-event a known)) [
            | inr lost ↦ on.settled a known (lost.0, lost.1, inr (sym lost.2)) reached
            | inl to ↦
                settled-grows u t on.grows net search.in_range search-pruned.fits.events a known reached
                (settled-still a known from to (settled a known (met-before a known met_u)))
          ]
        ]

    pub again-lost : HasLookedAgain net s t
    again-lost = record {
      rest =
          on.grows.rest
          ∙ ap (λ (v : Sheet). grown_as v t) pruned.rest
          ∙ ap (λ (v : Sheet). relabelled s (grown_as v t)) (sym pruned.rest)
          ∙ ap (λ (v : Sheet). relabelled s v) (sym on.grows.rest);
      time = λ e known. on.grows.time e (omega (arith, known, events-same)) ∙ time e known;
      search = on.search;
      room = on.room;
      settled = settled-now;
    }
