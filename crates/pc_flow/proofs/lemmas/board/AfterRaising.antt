-- What stays true of a board whose flow was raised.
use Rattle.std.proofs.Common.{◌≡◌, ◌≢◌, ℕ, zero, suc, ◌+◌, ◌<◌, ◌≤◌, ◌⊎◌, sym, ◌∙◌, ap, subst, inl, inr, arith}
use Rattle.std.proofs.lemmas.Bool.{cases_eq, cases_lt}
use Rattle.pc_model.specs.Network.{Network}
use Rattle.pc_flow.specs.board.Sheets.{Sheet, time_of, rank_of, flow_of}
use Rattle.pc_flow.specs.inside.board.Sheets.{queue_of, step_of, against_of, room_of}
use Rattle.pc_flow.specs.inside.board.Labelling.{HasStep, IsRanked, IsRankedBack, HaveSteps, AreStoredTimes, IsFor, AreJoined, HaveRoom}
use Rattle.pc_flow.specs.inside.board.Raising.{event_back, IsOffWay, IsStepTaken, IsRaisedBack, IsLeast, IsRaisedBy, StandFirst}
use Rattle.pc_flow.proofs.lemmas.board.RaisingLaws.{way-both}

-- an event is on the way, or it is not
pub find_below : (f : ℕ) (back : ℕ → ℕ) (k : ℕ) → ((j : ℕ) × (j < k) × (f ≡ back j)) ⊎ ((j : ℕ) → j < k → f ≢ back j)
find_below f back zero = inr (λ j none. absurd (omega arith))
find_below f back (suc k) =
    elim (cases_eq f (back k)) [
      | inl here ↦ inl (k, omega arith, here)
      | inr apart ↦
          elim (find_below f back k) [
            | inl at ↦ inl (at.0, omega (arith, at.1), at.2)
            | inr off ↦ inr (λ j before. elim (cases_lt j k) [
              | inl early ↦ off j early
              | inr last ↦ let at : k ≡ j = omega arith in subst (λ i. f ≢ back i) at apart
            ])
          ]
    ]

-- the flow of one activity: as it was, or changed by the step of an event that has room for it
pub record IsChangedBy (s t : Sheet) (by a f : ℕ) : Type 0 where
  pub known : f < s.events
  pub has : HasStep s f
  pub step : step_of s f ≡ a
  pub room : room_of t f + by ≡ room_of s f
  pub along : against_of s f ≡ 0 → flow_of t a ≡ flow_of s a + by
  pub against : 0 < against_of s f → flow_of t a + by ≡ flow_of s a

module _ (s t : Sheet) (end by k : ℕ) (steps : HaveSteps s) (raised : IsRaisedBy s t end by k) where
  abbrev raising : IsRaisedBack s t end by k (queue_of s 0)
  raising = raised.raising

  rest : t ≡ record s { room = t.room; flow = t.flow; up = t.up; down = t.down }
  rest = raising.rest

  on_way : (f : ℕ) → ((j : ℕ) × (j < k) × (f ≡ event_back s end j)) ⊎ IsOffWay s end k f
  on_way f = find_below f (event_back s end) k

  pub raised-step : (f : ℕ) → step_of t f ≡ step_of s f
  raised-step f = ap (λ (v : Sheet). step_of v f) rest

  taken-at : (f : ℕ) → (at : (j : ℕ) × (j < k) × (f ≡ event_back s end j)) → IsStepTaken s t by f
  taken-at f at = subst (IsStepTaken s t by) (sym at.2) (raising.taken at.0 at.1)

  -- off the way, neither the room nor the flow of a step has changed
  flow-off : (f : ℕ) → f < s.events → HasStep s f → IsOffWay s end k f → flow_of t (step_of s f) ≡ flow_of s (step_of s f)
  flow-off f known has off =
      raising.flow_off (step_of s f)
      (λ j before. steps.apart f (event_back s end j) known (raising.way.known j (omega arith)) has (raising.way.steps j before) (off j before))

  -- what a step along can carry in all is as it was
  pub raised-along : (f : ℕ) → f < s.events → HasStep s f → against_of s f ≡ 0
      → flow_of t (step_of s f) + room_of t f ≡ flow_of s (step_of s f) + room_of s f
  raised-along f known has none =
      elim (on_way f) [
        | inl at ↦ let taken : IsStepTaken s t by f = taken-at f at in omega (arith, taken.room, taken.along none)
        | inr off ↦ omega (arith, raising.room_off f off, flow-off f known has off)
      ]

  -- and what a step against leaves at least
  pub raised-against : (f : ℕ) → f < s.events → HasStep s f → 0 < against_of s f
      → flow_of t (step_of s f) + room_of s f ≡ flow_of s (step_of s f) + room_of t f
  raised-against f known has some =
      elim (on_way f) [
        | inl at ↦ let taken : IsStepTaken s t by f = taken-at f at in omega (arith, taken.room, taken.against some)
        | inr off ↦ omega (arith, raising.room_off f off, flow-off f known has off)
      ]

  -- the steps before the first that was used up have room
  pub raised-stand : (standing m : ℕ) → IsLeast s end by standing m → HaveRoom s → StandFirst t standing
  raised-stand standing m least room = record {
    some = least.clear.some (omega (arith, least.least.met.1));
    within = omega (arith, least.clear.within, ap (λ (v : Sheet). v.count) rest);
    room = λ f known has low.
        let labelled : rank_of t f ≡ rank_of s f = ap (λ (v : Sheet). rank_of v f) rest in
        elim (on_way f) [
          | inl at ↦
              omega (
                arith,
                (taken-at f at).room,
                least.clear.above at.0 (omega (arith, at.1, same)) (omega (arith, low, labelled, ap (rank_of s) at.2)),
                ap (room_of s) at.2,
              )
          | inr off ↦
              omega (
                arith,
                raising.room_off f off,
                room.some f (omega (arith, known, ap (λ (v : Sheet). v.events) rest)) (omega (arith, has, labelled)),
              )
        ];
  } where
    same : k ≡ m
    same = way-both s end k m raised.first raising.way least.least.way

  find-step : (a n : ℕ) → n ≤ k → ((j : ℕ) × (j < n) × (a ≡ step_of s (event_back s end j))) ⊎ ((j : ℕ) → j < n → a ≢ step_of s (event_back s end j))
  find-step a n within = find_below a (λ j. step_of s (event_back s end j)) n

  pub raised-flow : (a : ℕ) → (flow_of t a ≡ flow_of s a) ⊎ ((f : ℕ) × IsChangedBy s t by a f)
  raised-flow a =
      elim (find-step a k (omega arith)) [
        | inl at ↦
            let taken : IsStepTaken s t by (event_back s end at.0) = raising.taken at.0 at.1 in
            inr (
              event_back s end at.0,
              record {
                known = raising.way.known at.0 (omega (arith, at.1));
                has = raising.way.steps at.0 at.1;
                step = sym at.2;
                room = taken.room;
                along = λ none. ap (flow_of t) at.2 ∙ taken.along none ∙ ap (λ b. flow_of s b + by) (sym at.2);
                against = λ some. ap (λ b. flow_of t b + by) at.2 ∙ taken.against some ∙ ap (flow_of s) (sym at.2);
              },
            )
        | inr off ↦ inl (raising.flow_off a off)
      ]

  -- labels and times are as they were
  pub raised-ranked : IsRanked s → IsRanked t
  raised-ranked ranked = subst IsRanked (sym rest) (record {
    some = ranked.some;
    few = ranked.few;
    scanned = ranked.scanned;
    range = ranked.range;
    placed = ranked.placed;
    within = ranked.within;
    queued = ranked.queued;
  })

  pub raised-back : IsRankedBack s → IsRankedBack t
  raised-back back = subst IsRankedBack (sym rest) (record { known = back.known; labelled = back.labelled; before = back.before })

  pub raised-times : AreStoredTimes s → AreStoredTimes t
  raised-times times = subst AreStoredTimes (sym rest) (record { deep = times.deep; fits = times.fits })

  pub raised-time : (e : ℕ) → time_of t e ≡ time_of s e
  raised-time e = ap (λ (v : Sheet). time_of v e) rest

  pub raised-joined : (net : Network) → AreJoined net s → AreJoined net t
  raised-joined net joined = subst (AreJoined net) (sym rest) (record {
    along_from = joined.along_from;
    along_to = joined.along_to;
    against_from = joined.against_from;
    against_to = joined.against_to;
  })

  pub raised-for : (net : Network) → IsFor net s → IsFor net t
  raised-for net fits = subst (IsFor net) (sym rest) (record { events = fits.events; activities = fits.activities })

  pub raised-steps : HaveSteps t
  raised-steps = record {
    known = λ e known has. omega (arith, steps.known e (known-was e known) (has-was e has), raised-step e, ap (λ (v : Sheet). v.activities) rest);
    apart = λ e f ke kf has_e has_f apart same.
        steps.apart e f (known-was e ke) (known-was f kf) (has-was e has_e) (has-was f has_f) apart (sym (raised-step e) ∙ same ∙ raised-step f);
    along = λ e known has none.
        let was : against_of s e ≡ 0 = sym (against-same e) ∙ none in
        omega (
          arith,
          steps.along e (known-was e known) (has-was e has) was,
          raised-along e (known-was e known) (has-was e has) was,
          ap (flow_of t) (raised-step e),
        );
    against = λ e known has some.
        let was : 0 < against_of s e = omega (arith, some, against-same e) in
        omega (
          arith,
          steps.against e (known-was e known) (has-was e has) was,
          raised-against e (known-was e known) (has-was e has) was,
          ap (flow_of t) (raised-step e),
        );
  } where
    against-same : (e : ℕ) → against_of t e ≡ against_of s e
    against-same e = ap (λ (v : Sheet). against_of v e) rest

    known-was : (e : ℕ) → e < t.events → e < s.events
    known-was e known = omega (arith, known, ap (λ (v : Sheet). v.events) rest)

    has-was : (e : ℕ) → HasStep t e → HasStep s e
    has-was e has = omega (arith, has, ap (λ (v : Sheet). rank_of v e) rest)
