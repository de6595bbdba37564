-- What stays true of a board whose labels were pruned.
use Rattle.std.proofs.Common.{◌≡◌, ℕ, ◌-◌, ◌<◌, ◌≤◌, sym, ◌∙◌, ap, subst, inl, inr, arith}
use Rattle.std.proofs.lemmas.Bool.{cases_lt, lt-ltb, le-ltb, cond-true, cond-false}
use Rattle.std.specs.Prelude.{nat_lt}
use Rattle.pc_model.specs.Network.{Network}
use Rattle.pc_flow.specs.board.Sheets.{Sheet, kept_time, time_of, rank_of, flow_of}
use Rattle.pc_flow.specs.inside.board.Sheets.{queue_of, step_of, against_of, near_of, room_of}
use Rattle.pc_flow.specs.inside.board.Labelling.{HasStep, IsRanked, IsRankedBack, HaveSteps, HaveRoom, AreStoredTimes, IsFor, AreJoined}
use Rattle.pc_flow.specs.inside.board.Pruning.{KeepsLabel, IsSorted, IsPruned}

-- the time of an event with a label, and of one without
pub time-labelled : (s : Sheet) (e : ℕ) → 0 < rank_of s e → time_of s e ≡ kept_time s e
time-labelled s e labelled = cond-true (nat_lt 0 (rank_of s e)) (kept_time s e) (kept_time s e - s.fallen) (lt-ltb 0 (rank_of s e) labelled)

pub time-unlabelled : (s : Sheet) (e : ℕ) → rank_of s e ≡ 0 → time_of s e ≡ kept_time s e - s.fallen
time-unlabelled s e none = cond-false (nat_lt 0 (rank_of s e)) (kept_time s e) (kept_time s e - s.fallen) (le-ltb 0 (rank_of s e) (omega arith))

module _ (s t : Sheet) (gone : ℕ) (ranked : IsRanked s) (pruned : IsPruned s t gone) where
  abbrev sorted : IsSorted s t s.count t.count gone t.head
  sorted = pruned.sorted

  events-same : t.events ≡ s.events
  events-same = ap (λ (v : Sheet). v.events) pruned.rest

  near-same : (e : ℕ) → near_of t e ≡ near_of s e
  near-same e = ap (λ (v : Sheet). near_of v e) pruned.rest

  step-same : (e : ℕ) → step_of t e ≡ step_of s e
  step-same e = ap (λ (v : Sheet). step_of v e) pruned.rest

  against-same : (e : ℕ) → against_of t e ≡ against_of s e
  against-same e = ap (λ (v : Sheet). against_of v e) pruned.rest

  room-same : (e : ℕ) → room_of t e ≡ room_of s e
  room-same e = ap (λ (v : Sheet). room_of v e) pruned.rest

  pub pruned-flow : (a : ℕ) → flow_of t a ≡ flow_of s a
  pruned-flow a = ap (λ (v : Sheet). flow_of v a) pruned.rest

  fallen-same : t.fallen ≡ s.fallen
  fallen-same = ap (λ (v : Sheet). v.fallen) pruned.rest

  -- an event that has a label now had one before
  pub pruned-had : (e : ℕ) → e < s.events → 0 < rank_of t e → 0 < rank_of s e
  pruned-had e ke labelled =
      elim (cases_lt 0 (rank_of s e)) [
        | inl had ↦ had
        | inr none ↦ absurd (omega (arith, sorted.unlabelled e ke (omega arith), labelled))
      ]

  pub pruned-kept : (e : ℕ) → e < s.events → 0 < rank_of t e → KeepsLabel s t t.count e
  pruned-kept e ke labelled =
      elim (sorted.fates e ke (pruned-had e ke labelled) (ranked.within e ke)) [
        | inl is ↦ is
        | inr is ↦ absurd (omega (arith, is.none, labelled))
      ]

  -- and an event that has a step now had it
  pub pruned-step : (e : ℕ) → e < s.events → HasStep t e → HasStep s e
  pruned-step e ke has =
      elim (cases_lt 1 (rank_of s e)) [
        | inl had ↦ had
        | inr last ↦
            let one : rank_of s e - 1 ≡ 0 = omega arith in
            let first : queue_of t 0 ≡ e = sorted.first ∙ ap (queue_of s) (sym one) ∙ ranked.queued e ke (pruned-had e ke (omega arith)) in
            absurd (omega (arith, ap (rank_of t) first, sorted.placed 0 sorted.some, has))
      ]

  pub pruned-ranked : IsRanked t
  pruned-ranked = record {
    some = sorted.some;
    few = omega (arith, sorted.split, ranked.few, events-same);
    scanned = sorted.late ranked.scanned;
    range = λ k before. omega (arith, sorted.range k before, events-same);
    placed = sorted.placed;
    within = λ e known. within e (omega (arith, known, events-same));
    queued = λ e known labelled. (pruned-kept e (omega (arith, known, events-same)) labelled).placed;
  } where
    within : (e : ℕ) → e < s.events → rank_of t e ≤ t.count
    within e ke =
        elim (cases_lt 0 (rank_of t e)) [
          | inl labelled ↦ (pruned-kept e ke labelled).within
          | inr none ↦ omega arith
        ]

  pub pruned-back : IsRankedBack s → IsRankedBack t
  pruned-back back = record {
    known = λ e known has. let ke : e < s.events = omega (arith, known, events-same) in omega (arith, near-same e, back.known e ke (pruned-step e ke has), events-same);
    labelled = λ e known has.
        let ke : e < s.events = omega (arith, known, events-same) in
        omega (arith, ap (rank_of t) (near-same e), (pruned-kept e ke (omega (arith, has))).near (pruned-step e ke has));
    before = λ e known has.
        let ke : e < s.events = omega (arith, known, events-same) in
        let had : HasStep s e = pruned-step e ke has in
        omega (
          arith,
          ap (rank_of t) (near-same e),
          sorted.ordered (near_of s e) e (back.known e ke had) ke (back.before e ke had) (ranked.within e ke) ((pruned-kept e ke (omega (arith, has))).near had) (omega (arith, has)),
        );
  }

  pub pruned-steps : HaveSteps s → HaveSteps t
  pruned-steps steps = record {
    known = λ e known has.
        let ke : e < s.events = omega (arith, known, events-same) in
        omega (arith, steps.known e ke (pruned-step e ke has), step-same e, ap (λ (v : Sheet). v.activities) pruned.rest);
    apart = λ e f ke kf has_e has_f apart same.
        let le : e < s.events = omega (arith, ke, events-same) in
        let lf : f < s.events = omega (arith, kf, events-same) in
        steps.apart e f le lf (pruned-step e le has_e) (pruned-step f lf has_f) apart (sym (step-same e) ∙ same ∙ step-same f);
    along = λ e known has none.
        let ke : e < s.events = omega (arith, known, events-same) in
        omega (arith, steps.along e ke (pruned-step e ke has) (sym (against-same e) ∙ none), pruned-flow (step_of t e), ap (flow_of s) (step-same e), room-same e);
    against = λ e known has some.
        let ke : e < s.events = omega (arith, known, events-same) in
        omega (
          arith,
          steps.against e ke (pruned-step e ke has) (omega (arith, some, against-same e)),
          pruned-flow (step_of t e),
          ap (flow_of s) (step-same e),
          room-same e,
        );
  }

  pub pruned-room : HaveRoom t
  pruned-room = record {
    some = λ e known has.
        let ke : e < s.events = omega (arith, known, events-same) in
        omega (arith, room-same e, (pruned-kept e ke (omega (arith, has))).room (pruned-step e ke has));
  }

  -- no event's time has changed
  pub pruned-time : (e : ℕ) → e < s.events → time_of t e ≡ time_of s e
  pruned-time e ke =
      elim (cases_lt 0 (rank_of s e)) [
        | inl had ↦ elim (sorted.fates e ke had (ranked.within e ke)) [
          | inl is ↦ time-labelled t e is.labelled ∙ is.time ∙ sym (time-labelled s e had)
          | inr is ↦ omega (arith, time-unlabelled t e is.none, is.time, fallen-same, time-labelled s e had)
        ]
        | inr none ↦
            let none_was : rank_of s e ≡ 0 = omega arith in
            omega (
              arith,
              time-unlabelled t e (sorted.unlabelled e ke none_was),
              sorted.time_off e ke (inl none_was),
              fallen-same,
              time-unlabelled s e none_was,
            )
      ]

  pub pruned-times : AreStoredTimes s → AreStoredTimes t
  pruned-times times = record {
    deep = λ e known none. deep e (omega (arith, known, events-same)) none;
    fits = λ e known. let ke : e < s.events = omega (arith, known, events-same) in omega (arith, pruned-time e ke, fallen-same, times.fits e ke);
  } where
    deep : (e : ℕ) → e < s.events → rank_of t e ≡ 0 → t.fallen ≤ kept_time t e
    deep e ke none =
        elim (cases_lt 0 (rank_of s e)) [
          | inl had ↦ elim (sorted.fates e ke had (ranked.within e ke)) [
            | inl is ↦ absurd (omega (arith, is.labelled, none))
            | inr is ↦ omega (arith, is.time, fallen-same)
          ]
          | inr was_none ↦
              let none_was : rank_of s e ≡ 0 = omega arith in
              omega (arith, times.deep e ke none_was, sorted.time_off e ke (inl none_was), fallen-same)
        ]

  pub pruned-joined : (net : Network) → AreJoined net s → AreJoined net t
  pruned-joined net joined = subst (AreJoined net) (sym pruned.rest) (record {
    along_from = λ e ke has. joined.along_from e ke (pruned-step e ke has);
    along_to = λ e ke has. joined.along_to e ke (pruned-step e ke has);
    against_from = λ e ke has. joined.against_from e ke (pruned-step e ke has);
    against_to = λ e ke has. joined.against_to e ke (pruned-step e ke has);
  })

  pub pruned-for : (net : Network) → IsFor net s → IsFor net t
  pruned-for net fits = record { events = fits.events ∙ sym events-same; activities = fits.activities ∙ sym (ap (λ (v : Sheet). v.activities) pruned.rest) }
