-- The way back along the steps that led to an event, and the flows raised along it.
use Rattle.std.proofs.Common.{◌≡◌, ◌≢◌, ℕ, zero, suc, ◌+◌, ◌-◌, ◌^◌, ◌<◌, ◌≤◌, ◌⊎◌, min, length, refl, sym, ◌∙◌, ap, subst, inl, inr, arith}
use Rattle.std.proofs.lemmas.Bool.{cases_lt}
use Rattle.pc_model.specs.Network.{Network}
use Rattle.pc_laws.specs.State.{IsPart}
use Rattle.pc_laws.proofs.States.WalkedBack.{part_begins, part_forward, part_backward}
use Rattle.pc_flow.specs.board.Sheets.{Sheet, rank_of, flow_of}
use Rattle.pc_flow.specs.inside.board.Sheets.{queue_of, step_of, against_of, near_of, room_of}
use Rattle.pc_flow.specs.inside.board.Moves.{StepsBack}
use Rattle.pc_flow.specs.inside.board.Labelling.{HasStep, IsRanked, IsRankedBack, HaveSteps, HaveRoom, IsFor, AreJoined}
use Rattle.pc_flow.specs.inside.board.Raising.{event_back, IsWayBack, IsOffWay, IsStepTaken, IsRaisedBack, IsLeastRoom, AreClear, IsRaisedBy}

-- no step leads back yet
pub way-none : (s : Sheet) (e : ℕ) → e < s.events → IsWayBack s e 0 e
way-none s e known = record {
  leads = refl;
  known = λ j none. subst (λ i. event_back s e i < s.events) (let at : 0 ≡ j = omega arith in at) known;
  steps = λ j none. absurd (omega arith);
}

-- one step more
pub way-more : (s : Sheet) (e k x : ℕ) → IsRankedBack s → HasStep s x → IsWayBack s e k x → IsWayBack s e (suc k) (near_of s x)
way-more s e k x back has way = record {
  leads = ap (near_of s) way.leads;
  known = λ j before. elim (cases_lt k j) [
    | inl last ↦
        let at : suc k ≡ j = omega arith in
        subst (λ i. event_back s e i < s.events) at
        (back.known (event_back s e k) (way.known k (omega arith)) (subst (HasStep s) (sym way.leads) has))
    | inr early ↦ way.known j early
  ];
  steps = λ j before. elim (cases_lt j k) [
    | inl early ↦ way.steps j early
    | inr last ↦ let at : k ≡ j = omega arith in subst (λ i. HasStep s (event_back s e i)) at (subst (HasStep s) (sym way.leads) has)
  ];
}

-- ranks fall along the way
way-step_falls : (s : Sheet) (e k x j : ℕ) → IsRankedBack s → IsWayBack s e k x → j < k → rank_of s (event_back s e (suc j)) < rank_of s (event_back s e j)
way-step_falls s e k x j back way before = back.before (event_back s e j) (way.known j (omega arith)) (way.steps j before)

way-falls_by : (s : Sheet) (e k x i d : ℕ) → IsRankedBack s → IsWayBack s e k x → i + suc d ≤ k
    → rank_of s (event_back s e (i + suc d)) < rank_of s (event_back s e i)
way-falls_by s e k x i zero back way within =
    omega (arith, way-step_falls s e k x i back way (omega arith), ap (λ n. rank_of s (event_back s e n)) (let at : i + suc zero ≡ suc i = omega arith in at))
way-falls_by s e k x i (suc d) back way within =
    omega (
      arith,
      way-falls_by s e k x i d back way (omega arith),
      way-step_falls s e k x (i + suc d) back way (omega arith),
      ap (λ n. rank_of s (event_back s e n)) (let at : i + suc (suc d) ≡ suc (i + suc d) = omega arith in at),
    )

pub way-falls : (s : Sheet) (e k x i j : ℕ) → IsRankedBack s → IsWayBack s e k x → i < j → j ≤ k
    → rank_of s (event_back s e j) < rank_of s (event_back s e i)
way-falls s e k x i j back way before within =
    let at : i + suc (j - suc i) ≡ j = omega arith in
    subst (λ n. rank_of s (event_back s e n) < rank_of s (event_back s e i)) at (way-falls_by s e k x i (j - suc i) back way (omega arith))

-- the event that is reached is not one of those before it on the way
pub way-new : (s : Sheet) (e k x : ℕ) → IsRankedBack s → IsWayBack s e k x → IsOffWay s e k x
way-new s e k x back way j before same =
    omega (arith, way-falls s e k x j k back way before (omega arith), ap (rank_of s) way.leads, ap (rank_of s) same)

-- a way that reaches the first event is as long as any
pub way-whole : (s : Sheet) (e k x m : ℕ) → IsWayBack s e k x → IsWayBack s e m (queue_of s 0) → rank_of s (queue_of s 0) ≡ 1 → HasStep s x → k < m
way-whole s e k x m way whole first has =
    elim (cases_lt k m) [
      | inl before ↦ before
      | inr behind ↦
          elim (cases_lt m k) [
            | inl over ↦ absurd (omega (arith, way.steps m over, ap (rank_of s) whole.leads, first))
            | inr same ↦
                let at : k ≡ m = omega arith in
                absurd (omega (arith, has, ap (rank_of s) (sym way.leads ∙ ap (event_back s e) at ∙ whole.leads), first))
          ]
    ]

-- an event with a label that has no step is the first
pub first-at : (s : Sheet) (x : ℕ) → IsRanked s → x < s.events → 0 < rank_of s x → rank_of s x ≤ 1 → x ≡ queue_of s 0
first-at s x ranked known labelled last =
    sym (ranked.queued x known labelled) ∙ ap (queue_of s) (let none : rank_of s x - 1 ≡ 0 = omega arith in none)

pub first-rank : (s : Sheet) → IsRanked s → rank_of s (queue_of s 0) ≡ 1
first-rank s ranked = omega (arith, ranked.placed 0 ranked.some)

-- where the way leads, there is a label
pub way-labelled : (s : Sheet) (e k x : ℕ) → IsRankedBack s → 0 < rank_of s e → IsWayBack s e k x → 0 < rank_of s x
way-labelled s e zero x back labelled way = subst (λ f. 0 < rank_of s f) way.leads labelled
way-labelled s e (suc k) x back labelled way =
    subst (λ f. 0 < rank_of s f) way.leads (back.labelled (event_back s e k) (way.known k (omega arith)) (way.steps k (omega arith)))

-- two ways that lead to the first event are one
pub way-both : (s : Sheet) (e k m : ℕ) → rank_of s (queue_of s 0) ≡ 1 → IsWayBack s e k (queue_of s 0) → IsWayBack s e m (queue_of s 0) → k ≡ m
way-both s e k m first one other =
    elim (cases_lt k m) [
      | inl before ↦ absurd (omega (arith, other.steps k before, ap (rank_of s) one.leads, first))
      | inr behind ↦ elim (cases_lt m k) [
        | inl over ↦ absurd (omega (arith, one.steps m over, ap (rank_of s) other.leads, first))
        | inr same ↦ omega arith
      ]
    ]

-- where a way leads, there is an event
pub way-known : (s : Sheet) (e k x : ℕ) → IsWayBack s e k x → x < s.events
way-known s e k x way = subst (λ f. f < s.events) way.leads (way.known k (omega arith))

-- The least room

-- what was found of the least room after k steps back; u64::MAX before the first
pub record IsLeasting (s : Sheet) (e least k x : ℕ) : Type 0 where
  pub way : IsWayBack s e k x
  pub below : (j : ℕ) → j < k → least ≤ room_of s (event_back s e j)
  pub met : ((k ≡ 0) × (least ≡ 2 ^ 64 - 1)) ⊎ ((j : ℕ) × (j < k) × (room_of s (event_back s e j) ≡ least))

pub leasting-begins : (s : Sheet) (e : ℕ) → e < s.events → IsLeasting s e (2 ^ 64 - 1) 0 e
leasting-begins s e known = record { way = way-none s e known; below = λ j none. absurd (omega arith); met = inl (refl, refl) }

pub leasting-goes_on : (s : Sheet) (e least k x room : ℕ) → IsRankedBack s → HasStep s x → room ≡ room_of s x → room < 2 ^ 64 → IsLeasting s e least k x
    → IsLeasting s e (min least room) (suc k) (near_of s x)
leasting-goes_on s e least k x room back has is most leasting = record {
  way = way-more s e k x back has leasting.way;
  below = λ j before. elim (cases_lt j k) [
    | inl early ↦ omega (arith, leasting.below j early)
    | inr last ↦ let at : k ≡ j = omega arith in omega (arith, is, ap (room_of s) (sym leasting.way.leads ∙ ap (event_back s e) at))
  ];
  met = elim (cases_lt least room) [
    | inl lesser ↦ elim leasting.met [
      | inl none ↦ inr (0, omega arith, ap (room_of s) (ap (event_back s e) (sym none.0) ∙ leasting.way.leads) ∙ sym is ∙ (let same : room ≡ min least room = omega (arith, most, none.1) in same))
      | inr at ↦ inr (at.0, omega (arith, at.1), at.2 ∙ (let same : least ≡ min least room = omega arith in same))
    ]
    | inr greater ↦ inr (k, omega arith, ap (room_of s) leasting.way.leads ∙ sym is ∙ (let same : room ≡ min least room = omega arith in same))
  ];
}

pub leasting-ends : (s : Sheet) (e least k x : ℕ) → IsRanked s → IsRankedBack s → HasStep s e → rank_of s x ≤ 1
    → IsLeasting s e least k x → IsLeastRoom s e least k
leasting-ends s e least k x ranked back has last leasting = record {
  way = record { leads = leasting.way.leads ∙ at; known = leasting.way.known; steps = leasting.way.steps };
  first = first-rank s ranked;
  below = leasting.below;
  met = elim leasting.met [
    | inl none ↦ absurd (omega (arith, some, none.0))
    | inr at ↦ at
  ];
} where
  at : x ≡ queue_of s 0
  at = first-at s x ranked (subst (λ f. f < s.events) leasting.way.leads (leasting.way.known k (omega arith))) (way-labelled s e k x back (omega arith) leasting.way) last

  some : 0 < k
  some =
      elim (cases_lt 0 k) [
        | inl more ↦ more
        | inr none ↦
            let zero_steps : k ≡ 0 = omega arith in
            absurd (omega (arith, last, has, ap (rank_of s) (sym leasting.way.leads ∙ ap (event_back s e) zero_steps)))
      ]

-- The labels that remain

pub clear-begins : (s : Sheet) (e least : ℕ) → AreClear s e least 0 0
clear-begins s e least = record { some = λ none. absurd (omega arith); within = omega arith; above = λ j none. absurd (omega arith) }

-- a step with no more room than those before it on the way: the labels before its event in the queue remain
pub clear-below : (s : Sheet) (e k x room : ℕ) → IsRanked s → IsRankedBack s → HasStep s x → IsWayBack s e k x
    → AreClear s e room (rank_of s x - 1) (suc k)
clear-below s e k x room ranked back has way = record {
  some = λ more. omega (arith, has);
  within = omega (arith, ranked.within x (way-known s e k x way));
  above = λ j before low. elim (cases_lt j k) [
    | inl early ↦ absurd (omega (arith, way-falls s e k x j k back way early (omega arith), ap (rank_of s) way.leads, low, has))
    | inr last ↦
        let at : j ≡ k = omega arith in
        absurd (omega (arith, ap (λ i. rank_of s (event_back s e i)) at, ap (rank_of s) way.leads, low, has))
  ];
}

-- a step with more room
pub clear-above : (s : Sheet) (e least standing k x : ℕ) → room_of s x < 2 ^ 64 → least < room_of s x → IsLeasting s e least k x
    → AreClear s e least standing k → AreClear s e least standing (suc k)
clear-above s e least standing k x small more leasting clear = record {
  some = λ any. elim leasting.met [
    | inl none ↦ absurd (omega (arith, none.1, more, small))
    | inr at ↦ clear.some (omega (arith, at.1))
  ];
  within = clear.within;
  above = λ j before low. elim (cases_lt j k) [
    | inl early ↦ clear.above j early low
    | inr last ↦ let at : k ≡ j = omega arith in omega (arith, more, ap (room_of s) (sym leasting.way.leads ∙ ap (event_back s e) at))
  ];
}

-- The flows raised

pub raising-begins : (s : Sheet) (e by : ℕ) → e < s.events → IsRaisedBack s s e by 0 e
raising-begins s e by known = record {
  way = way-none s e known;
  rest = refl;
  taken = λ j none. absurd (omega arith);
  room_off = λ f off. refl;
  flow_off = λ a off. refl;
  part = λ net fits at joined. subst (λ x. IsPart net (flow_of s) (flow_of s) x by) at (part_begins net (flow_of s) by);
}

-- the board after some steps, and the next step on it
module _ (s t : Sheet) (e by k x : ℕ) (back : IsRankedBack s) (steps : HaveSteps s) (has : HasStep s x) (raising : IsRaisedBack s t e by k x) where
  known : x < s.events
  known = way-known s e k x raising.way

  off : IsOffWay s e k x
  off = way-new s e k x back raising.way

  -- no earlier step on the way is by the same activity
  step-off : (j : ℕ) → j < k → step_of s x ≢ step_of s (event_back s e j)
  step-off j before =
      steps.apart x (event_back s e j) known (raising.way.known j (omega arith)) has (raising.way.steps j before) (off j before)

  step-same : step_of t x ≡ step_of s x
  step-same = ap (λ (u : Sheet). step_of u x) raising.rest

  against-same : against_of t x ≡ against_of s x
  against-same = ap (λ (u : Sheet). against_of u x) raising.rest

  room-same : room_of t x ≡ room_of s x
  room-same = raising.room_off x off

  flow-same : flow_of t (step_of s x) ≡ flow_of s (step_of s x)
  flow-same = raising.flow_off (step_of s x) step-off

  -- there is room for the augmentation
  module _ (m : ℕ) (least : IsLeastRoom s e by m) where
    within : by ≤ room_of s x
    within = omega (arith, least.below k (way-whole s e k x m raising.way least.way least.first has), ap (room_of s) raising.way.leads)

    pub raising-room : by ≤ room_of t x
    raising-room = omega (arith, within, room-same)

    pub raising-along : against_of t x ≡ 0 → flow_of t (step_of t x) + by < 2 ^ 64
    raising-along none =
        omega (arith, within, steps.along x known has (sym against-same ∙ none), flow-same, ap (flow_of t) step-same)

    pub raising-against : 0 < against_of t x → by ≤ flow_of t (step_of t x)
    raising-against some =
        omega (arith, within, steps.against x known has (omega (arith, some, against-same)), flow-same, ap (flow_of t) step-same)

  -- one step more
  module _ (u : Sheet) (moved : StepsBack t u by x) where
    way : IsWayBack s e (suc k) (near_of s x)
    way = way-more s e k x back has raising.way

    room_on : (f : ℕ) → f ≢ x → room_of u f ≡ room_of t f
    room_on = moved.room_off

    flow_on : (a : ℕ) → a ≢ step_of s x → flow_of u a ≡ flow_of t a
    flow_on a apart = moved.flow_off a (λ same. apart (same ∙ step-same))

    along-here : against_of s x ≡ 0 → flow_of u (step_of s x) ≡ flow_of t (step_of s x) + by
    along-here none = ap (flow_of u) (sym step-same) ∙ moved.along (against-same ∙ none) ∙ ap (λ a. flow_of t a + by) step-same

    against-here : 0 < against_of s x → flow_of u (step_of s x) + by ≡ flow_of t (step_of s x)
    against-here some =
        ap (λ a. flow_of u a + by) (sym step-same) ∙ moved.against (omega (arith, some, against-same)) ∙ ap (flow_of t) step-same

    here : IsStepTaken s u by x
    here = record {
      room = moved.room_at ∙ room-same;
      along = λ none. along-here none ∙ ap (λ n. n + by) flow-same;
      against = λ some. against-here some ∙ flow-same;
    }

    before : (j : ℕ) → j < k → IsStepTaken s u by (event_back s e j)
    before j early =
        let was : IsStepTaken s t by (event_back s e j) = raising.taken j early in
        let room : room_of u (event_back s e j) ≡ room_of t (event_back s e j) = room_on (event_back s e j) (λ same. off j early (sym same)) in
        let flow : flow_of u (step_of s (event_back s e j)) ≡ flow_of t (step_of s (event_back s e j)) =
        flow_on (step_of s (event_back s e j)) (λ same. step-off j early (sym same)) in
        record {
          room = ap (λ n. n + by) room ∙ was.room;
          along = λ none. flow ∙ was.along none;
          against = λ some. ap (λ n. n + by) flow ∙ was.against some;
        }

    part : (net : Network) → IsFor net s → net.end ≡ e → AreJoined net s → IsPart net (flow_of s) (flow_of u) (near_of s x) by
    part net fits at joined =
        let now : IsPart net (flow_of s) (flow_of t) x by = raising.part net fits at joined in
        let a : step_of s x < length net.arcs = omega (arith, steps.known x known has, fits.activities) in
        let others : (b : ℕ) → b < length net.arcs → b ≢ step_of s x → flow_of t b ≡ flow_of u b = λ b k apart. sym (flow_on b apart) in
        elim (cases_lt 0 (against_of s x)) [
          | inl some ↦
              subst (λ y. IsPart net (flow_of s) (flow_of u) y by) (joined.against_to x known has some)
              (part_backward net (flow_of s) by (flow_of t) (flow_of u) (step_of s x) x a (joined.against_from x known has some) (against-here some) others now)
          | inr none ↦
              let zero_way : against_of s x ≡ 0 = omega arith in
              subst (λ y. IsPart net (flow_of s) (flow_of u) y by) (joined.along_from x known has zero_way)
              (part_forward net (flow_of s) by (flow_of t) (flow_of u) (step_of s x) x a (joined.along_to x known has zero_way) (along-here zero_way) others now)
        ]

    reached : u ≡ record s { room = u.room; flow = u.flow; up = t.up; down = t.down }
    reached = moved.rest ∙ ap (λ (v : Sheet). record v { room = u.room; flow = u.flow }) raising.rest

    rest : u ≡ record s { room = u.room; flow = u.flow; up = u.up; down = u.down }
    rest = reached ∙ ap (λ (v : Sheet). record s { room = v.room; flow = v.flow; up = v.up; down = v.down }) (sym reached)

    pub raising-goes_on : IsRaisedBack s u e by (suc k) (near_of s x)
    raising-goes_on = record {
      way = way;
      rest = rest;
      taken = λ j below. elim (cases_lt j k) [
        | inl early ↦ before j early
        | inr last ↦
            let at : k ≡ j = omega arith in subst (λ i. IsStepTaken s u by (event_back s e i)) at (subst (IsStepTaken s u by) (sym raising.way.leads) here)
      ];
      room_off = λ f away.
          room_on f (λ same. away k (omega arith) (same ∙ sym raising.way.leads))
          ∙ raising.room_off f (λ j early. away j (omega arith));
      flow_off = λ a away.
          flow_on a (λ same. away k (omega arith) (same ∙ ap (step_of s) (sym raising.way.leads)))
          ∙ raising.flow_off a (λ j early. away j (omega arith));
      part = part;
    }

pub raising-ends : (s t : Sheet) (e by k x m : ℕ) → IsRanked s → IsRankedBack s → HaveRoom s → HasStep s e → rank_of s x ≤ 1 → IsLeastRoom s e by m
    → IsRaisedBack s t e by k x → IsRaisedBy s t e by k
raising-ends s t e by k x m ranked back room has last least raising = record {
  some = omega (arith, room.some (event_back s e least.met.0) (least.way.known least.met.0 (omega (arith, least.met.1))) (least.way.steps least.met.0 least.met.1), least.met.2);
  raising = record {
    way = way;
    rest = raising.rest;
    taken = raising.taken;
    room_off = raising.room_off;
    flow_off = raising.flow_off;
    part = λ net fits ends joined. subst (λ y. IsPart net (flow_of s) (flow_of t) y by) at (raising.part net fits ends joined);
  };
  first = least.first;
  used_up = (least.met.0, short, omega (arith, (raising.taken least.met.0 short).room, least.met.2));
} where
  at : x ≡ queue_of s 0
  at = first-at s x ranked (way-known s e k x raising.way) (way-labelled s e k x back (omega arith) raising.way) last

  way : IsWayBack s e k (queue_of s 0)
  way = record { leads = raising.way.leads ∙ at; known = raising.way.known; steps = raising.way.steps }

  short : least.met.0 < k
  short = omega (arith, least.met.1, way-both s e k m least.first way least.way)
