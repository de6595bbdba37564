-- What stays true of a board on which one more event has a label.
use Rattle.std.proofs.Common.{◌≡◌, ◌≢◌, ℕ, ◌+◌, ◌-◌, ◌^◌, ◌<◌, ◌≤◌, ◌⊎◌, Bool, true, false, refl, sym, ◌∙◌, ap, inl, inr, arith}
use Rattle.std.proofs.lemmas.Bool.{cases_eq, cases_lt}
use Rattle.pc_model.specs.Walk.{from_of, to_of}
use Rattle.pc_model.specs.Network.{Network}
use Rattle.pc_flow.specs.board.Sheets.{Sheet, kept_time, time_of, rank_of, flow_of}
use Rattle.pc_flow.specs.inside.board.Sheets.{queue_of, step_of, against_of, near_of, room_of}
use Rattle.pc_flow.specs.inside.board.Moves.{EntersAt, way_number}
use Rattle.pc_flow.specs.inside.board.Labelling.{HasStep, IsRanked, IsRankedBack, HaveSteps, HaveRoom, AreStoredTimes, AreJoined}
use Rattle.pc_flow.proofs.lemmas.board.AfterPruning.{time-labelled, time-unlabelled}
use Rattle.pc_flow.proofs.lemmas.board.RoomLaws.{room-left}

-- while some event has no label, the queue has room
pub queue-room : (s : Sheet) (e : ℕ) → IsRanked s → e < s.events → rank_of s e ≡ 0 → s.count < s.events
queue-room s e ranked known none =
    room-left (queue_of s) s.count s.events e ranked.range once known
    (λ k below same. omega (arith, ranked.placed k below, ap (rank_of s) same, none))
  where
    once : (j k : ℕ) → j < k → k < s.count → queue_of s j ≢ queue_of s k
    once j k before below same = omega (arith, ranked.placed j (omega arith), ranked.placed k below, ap (rank_of s) same)

-- the step by which an event enters: along or against an activity from an event with a label
pub record IsNewStep (net : Network) (s : Sheet) (e a : ℕ) (against : Bool) (near room : ℕ) : Type 0 where
  pub unlabelled : rank_of s e ≡ 0
  pub known : e < s.events
  pub near_known : near < s.events
  pub near_labelled : 0 < rank_of s near
  pub activity : a < s.activities
  pub some : 0 < room
  pub along : against ≡ false → (from_of net.arcs a ≡ near) × (to_of net.arcs a ≡ e) × (flow_of s a + room < 2 ^ 64)
  pub back : against ≡ true → (from_of net.arcs a ≡ e) × (to_of net.arcs a ≡ near) × (room ≤ flow_of s a)

module _ (net : Network) (s t : Sheet) (e a : ℕ) (against : Bool) (near room : ℕ) (new : IsNewStep net s e a against near room)
    (entered : EntersAt s t e a against near room) where
  events-same : t.events ≡ s.events
  events-same = ap (λ (v : Sheet). v.events) entered.rest

  fallen-same : t.fallen ≡ s.fallen
  fallen-same = ap (λ (v : Sheet). v.fallen) entered.rest

  pub entered-flow : (b : ℕ) → flow_of t b ≡ flow_of s b
  entered-flow b = ap (λ (v : Sheet). flow_of v b) entered.rest

  -- an event that had a label is another one
  other : (f : ℕ) → 0 < rank_of s f → f ≢ e
  other f labelled same = omega (arith, labelled, ap (rank_of s) same, new.unlabelled)

  pub entered-kept : (f : ℕ) → 0 < rank_of s f → rank_of t f ≡ rank_of s f
  entered-kept f labelled = entered.rank_off f (other f labelled)

  -- no event's time has changed
  pub entered-time : AreStoredTimes s → (f : ℕ) → f < s.events → time_of t f ≡ time_of s f
  entered-time times f known =
      elim (cases_eq f e) [
        | inl same ↦
            ap (time_of t) same
            ∙ time-labelled t e (omega (arith, entered.rank_at))
            ∙ (let lowered : kept_time t e ≡ kept_time s e - s.fallen = omega (arith, entered.time_at) in lowered)
            ∙ sym (time-unlabelled s e new.unlabelled)
            ∙ ap (time_of s) (sym same)
        | inr apart ↦
            elim (cases_lt 0 (rank_of s f)) [
              | inl labelled ↦
                  time-labelled t f (omega (arith, entered.rank_off f apart, labelled)) ∙ entered.time_off f apart ∙ sym (time-labelled s f labelled)
              | inr none ↦
                  let none_was : rank_of s f ≡ 0 = omega arith in
                  omega (
                    arith,
                    time-unlabelled t f (entered.rank_off f apart ∙ none_was),
                    time-unlabelled s f none_was,
                    entered.time_off f apart,
                    fallen-same,
                  )
            ]
      ]

  pub entered-times : AreStoredTimes s → AreStoredTimes t
  entered-times times = record {
    deep = λ f known none. elim (cases_eq f e) [
      | inl same ↦ absurd (omega (arith, none, ap (rank_of t) same, entered.rank_at))
      | inr apart ↦ omega (arith, times.deep f (omega (arith, known, events-same)) (sym (entered.rank_off f apart) ∙ none), entered.time_off f apart, fallen-same)
    ];
    fits = λ f known. let kf : f < s.events = omega (arith, known, events-same) in omega (arith, entered-time times f kf, fallen-same, times.fits f kf);
  }

  pub entered-ranked : IsRanked s → IsRanked t
  entered-ranked ranked = record {
    some = omega (arith, entered.count);
    few = omega (arith, entered.count, queue-room s e ranked new.known new.unlabelled, events-same);
    scanned = omega (arith, entered.count, ranked.scanned, ap (λ (v : Sheet). v.head) entered.rest);
    range = λ k below. elim (cases_lt k s.count) [
      | inl early ↦ omega (arith, entered.queue_off k (λ (at : k ≡ s.count). omega arith), ranked.range k early, events-same)
      | inr last ↦ let at : k ≡ s.count = omega (arith, below, entered.count) in omega (arith, ap (queue_of t) at, entered.queue_at, new.known, events-same)
    ];
    placed = λ k below. elim (cases_lt k s.count) [
      | inl early ↦
          ap (rank_of t) (entered.queue_off k (λ (at : k ≡ s.count). omega arith))
          ∙ entered-kept (queue_of s k) (omega (arith, ranked.placed k early))
          ∙ ranked.placed k early
      | inr last ↦
          let at : k ≡ s.count = omega (arith, below, entered.count) in
          ap (λ j. rank_of t (queue_of t j)) at ∙ ap (rank_of t) entered.queue_at ∙ entered.rank_at ∙ ap (λ j. j + 1) (sym at)
    ];
    within = λ f known. elim (cases_eq f e) [
      | inl same ↦ omega (arith, ap (rank_of t) same, entered.rank_at, entered.count)
      | inr apart ↦ omega (arith, entered.rank_off f apart, ranked.within f (omega (arith, known, events-same)), entered.count)
    ];
    queued = queued;
  } where
    queued : (f : ℕ) → f < t.events → 0 < rank_of t f → queue_of t (rank_of t f - 1) ≡ f
    queued f known labelled =
        elim (cases_eq f e) [
          | inl same ↦
              let place : rank_of t f - 1 ≡ s.count = omega (arith, ap (rank_of t) same, entered.rank_at) in
              ap (queue_of t) place ∙ entered.queue_at ∙ sym same
          | inr apart ↦
              let was : rank_of t f ≡ rank_of s f = entered.rank_off f apart in
              let kf : f < s.events = omega (arith, known, events-same) in
              ap (λ n. queue_of t (n - 1)) was
              ∙ entered.queue_off (rank_of s f - 1) (λ (at : rank_of s f - 1 ≡ s.count). omega (arith, at, ranked.within f kf, labelled, was))
              ∙ ranked.queued f kf (omega (arith, labelled, was))
        ]

  -- an event other than this one that has a step now had it before
  had-step : (f : ℕ) → f ≢ e → HasStep t f → HasStep s f
  had-step f apart has = omega (arith, has, entered.rank_off f apart)

  pub entered-back : IsRanked s → IsRankedBack s → IsRankedBack t
  entered-back ranked back = record {
    known = λ f known has. elim (cases_eq f e) [
      | inl same ↦ omega (arith, ap (near_of t) same, entered.step.near_at, new.near_known, events-same)
      | inr apart ↦ omega (arith, entered.step.near_off f apart, back.known f (omega (arith, known, events-same)) (had-step f apart has), events-same)
    ];
    labelled = λ f known has. elim (cases_eq f e) [
      | inl same ↦ omega (arith, ap (λ g. rank_of t (near_of t g)) same, ap (rank_of t) entered.step.near_at, entered-kept near new.near_labelled, new.near_labelled)
      | inr apart ↦
          let kf : f < s.events = omega (arith, known, events-same) in
          let was : 0 < rank_of s (near_of s f) = back.labelled f kf (had-step f apart has) in
          omega (arith, ap (rank_of t) (entered.step.near_off f apart), entered-kept (near_of s f) was, was)
    ];
    before = λ f known has. elim (cases_eq f e) [
      | inl same ↦
          omega (
            arith,
            ap (λ g. rank_of t (near_of t g)) same,
            ap (rank_of t) entered.step.near_at,
            entered-kept near new.near_labelled,
            ranked.within near new.near_known,
            ap (rank_of t) same,
            entered.rank_at,
          )
      | inr apart ↦
          let kf : f < s.events = omega (arith, known, events-same) in
          let had : HasStep s f = had-step f apart has in
          omega (
            arith,
            ap (rank_of t) (entered.step.near_off f apart),
            entered-kept (near_of s f) (back.labelled f kf had),
            back.before f kf had,
            entered.rank_off f apart,
          )
    ];
  }

  -- no event had its label by a step of this activity, whose ends are one with a label and one without
  new-activity : IsRankedBack s → AreJoined net s → (f : ℕ) → f < s.events → HasStep s f → step_of s f ≢ a
  new-activity back joined f known has same =
      elim (cases_lt 0 (against_of s f)) [
        | inl some ↦ clash (joined.against_to f known has some) (joined.against_from f known has some)
        | inr none ↦ let zero_way : against_of s f ≡ 0 = omega arith in clash' (joined.along_from f known has zero_way) (joined.along_to f known has zero_way)
      ]
    where
      -- both ends of the activity of a step have labels
      ends : (x : ℕ) → (x ≡ near_of s f) ⊎ (x ≡ f) → x ≢ e
      ends x (inl at) here = omega (arith, back.labelled f known has, ap (rank_of s) (sym at ∙ here), new.unlabelled)
      ends x (inr at) here = omega (arith, has, ap (rank_of s) (sym at ∙ here), new.unlabelled)

      far : (from_of net.arcs a ≡ e) ⊎ (to_of net.arcs a ≡ e)
      far = far_by against refl where
        far_by : (w : Bool) → against ≡ w → (from_of net.arcs a ≡ e) ⊎ (to_of net.arcs a ≡ e)
        far_by true at = inl (new.back at).0
        far_by false at = inr (new.along at).1

      clash : to_of net.arcs (step_of s f) ≡ near_of s f → from_of net.arcs (step_of s f) ≡ f → ⊥
      clash to from =
          elim far [
            | inl at ↦ ends (from_of net.arcs a) (inr (ap (from_of net.arcs) (sym same) ∙ from)) at
            | inr at ↦ ends (to_of net.arcs a) (inl (ap (to_of net.arcs) (sym same) ∙ to)) at
          ]

      clash' : from_of net.arcs (step_of s f) ≡ near_of s f → to_of net.arcs (step_of s f) ≡ f → ⊥
      clash' from to =
          elim far [
            | inl at ↦ ends (from_of net.arcs a) (inl (ap (from_of net.arcs) (sym same) ∙ from)) at
            | inr at ↦ ends (to_of net.arcs a) (inr (ap (to_of net.arcs) (sym same) ∙ to)) at
          ]

  way-at : (w : Bool) → against ≡ w → against_of t e ≡ way_number w
  way-at w at = entered.step.against_at ∙ ap way_number at

  along-new : against_of t e ≡ 0 → against ≡ false
  along-new none = by against refl where
    by : (w : Bool) → against ≡ w → against ≡ false
    by true at = absurd (omega (arith, none, way-at true at))
    by false at = at

  against-new : 0 < against_of t e → against ≡ true
  against-new some = by against refl where
    by : (w : Bool) → against ≡ w → against ≡ true
    by true at = at
    by false at = absurd (omega (arith, some, way-at false at))

  pub entered-steps : IsRankedBack s → AreJoined net s → HaveSteps s → HaveSteps t
  entered-steps back joined steps = record {
    known = λ f known has. elim (cases_eq f e) [
      | inl same ↦ omega (arith, ap (step_of t) same, entered.step.step_at, new.activity, ap (λ (v : Sheet). v.activities) entered.rest)
      | inr apart ↦ omega (arith, entered.step.step_off f apart, steps.known f (was f known) (had-step f apart has), ap (λ (v : Sheet). v.activities) entered.rest)
    ];
    apart = λ f g kf kg has_f has_g apart same. elim (cases_eq f e) [
      | inl at ↦ elim (cases_eq g e) [
        | inl too ↦ apart (at ∙ sym too)
        | inr off ↦
            new-activity back joined g (was g kg) (had-step g off has_g)
            (sym (entered.step.step_off g off) ∙ sym same ∙ ap (step_of t) at ∙ entered.step.step_at)
      ]
      | inr off_f ↦ elim (cases_eq g e) [
        | inl at ↦
            new-activity back joined f (was f kf) (had-step f off_f has_f)
            (sym (entered.step.step_off f off_f) ∙ same ∙ ap (step_of t) at ∙ entered.step.step_at)
        | inr off ↦
            steps.apart f g (was f kf) (was g kg) (had-step f off_f has_f) (had-step g off has_g) apart
            (sym (entered.step.step_off f off_f) ∙ same ∙ entered.step.step_off g off)
      ]
    ];
    along = λ f known has none. elim (cases_eq f e) [
      | inl at ↦ omega (arith, (new.along (along-new (ap (against_of t) (sym at) ∙ none))).2, flow-at f at, room-at f at)
      | inr off ↦
          omega (arith, steps.along f (was f known) (had-step f off has) (sym (entered.step.against_off f off) ∙ none), flow-off f off, entered.step.room_off f off)
    ];
    against = λ f known has some. elim (cases_eq f e) [
      | inl at ↦ omega (arith, (new.back (against-new (omega (arith, some, ap (against_of t) at)))).2, flow-at f at, room-at f at)
      | inr off ↦
          omega (arith, steps.against f (was f known) (had-step f off has) (omega (arith, some, entered.step.against_off f off)), flow-off f off, entered.step.room_off f off)
    ];
  } where
    was : (f : ℕ) → f < t.events → f < s.events
    was f known = omega (arith, known, events-same)

    -- the flow along the activity of the new step, and of another one
    flow-at : (f : ℕ) → f ≡ e → flow_of t (step_of t f) ≡ flow_of s a
    flow-at f at = ap (λ g. flow_of t (step_of t g)) at ∙ ap (flow_of t) entered.step.step_at ∙ entered-flow a

    flow-off : (f : ℕ) → f ≢ e → flow_of t (step_of t f) ≡ flow_of s (step_of s f)
    flow-off f off = ap (flow_of t) (entered.step.step_off f off) ∙ entered-flow (step_of s f)

    room-at : (f : ℕ) → f ≡ e → room_of t f ≡ room
    room-at f at = ap (room_of t) at ∙ entered.step.room_at

  pub entered-room : HaveRoom s → HaveRoom t
  entered-room had = record {
    some = λ f known has. elim (cases_eq f e) [
      | inl at ↦ omega (arith, ap (room_of t) at, entered.step.room_at, new.some)
      | inr off ↦ omega (arith, entered.step.room_off f off, had.some f (omega (arith, known, events-same)) (had-step f off has))
    ];
  }

  pub entered-joined : AreJoined net s → AreJoined net t
  entered-joined joined = record {
    along_from = λ f known has none. elim (cases_eq f e) [
      | inl at ↦
          ap (λ g. from_of net.arcs (step_of t g)) at ∙ ap (from_of net.arcs) entered.step.step_at
          ∙ (new.along (along-new (ap (against_of t) (sym at) ∙ none))).0 ∙ sym (ap (near_of t) at ∙ entered.step.near_at)
      | inr off ↦
          ap (from_of net.arcs) (entered.step.step_off f off)
          ∙ joined.along_from f (was f known) (had-step f off has) (sym (entered.step.against_off f off) ∙ none)
          ∙ sym (entered.step.near_off f off)
    ];
    along_to = λ f known has none. elim (cases_eq f e) [
      | inl at ↦ ap (λ g. to_of net.arcs (step_of t g)) at ∙ ap (to_of net.arcs) entered.step.step_at ∙ (new.along (along-new (ap (against_of t) (sym at) ∙ none))).1 ∙ sym at
      | inr off ↦
          ap (to_of net.arcs) (entered.step.step_off f off)
          ∙ joined.along_to f (was f known) (had-step f off has) (sym (entered.step.against_off f off) ∙ none)
    ];
    against_from = λ f known has some. elim (cases_eq f e) [
      | inl at ↦
          ap (λ g. from_of net.arcs (step_of t g)) at ∙ ap (from_of net.arcs) entered.step.step_at
          ∙ (new.back (against-new (omega (arith, some, ap (against_of t) at)))).0 ∙ sym at
      | inr off ↦
          ap (from_of net.arcs) (entered.step.step_off f off)
          ∙ joined.against_from f (was f known) (had-step f off has) (omega (arith, some, entered.step.against_off f off))
    ];
    against_to = λ f known has some. elim (cases_eq f e) [
      | inl at ↦
          ap (λ g. to_of net.arcs (step_of t g)) at ∙ ap (to_of net.arcs) entered.step.step_at
          ∙ (new.back (against-new (omega (arith, some, ap (against_of t) at)))).1 ∙ sym (ap (near_of t) at ∙ entered.step.near_at)
      | inr off ↦
          ap (to_of net.arcs) (entered.step.step_off f off)
          ∙ joined.against_to f (was f known) (had-step f off has) (omega (arith, some, entered.step.against_off f off))
          ∙ sym (entered.step.near_off f off)
    ];
  } where
    was : (f : ℕ) → f < t.events → f < s.events
    was f known = omega (arith, known, events-same)
