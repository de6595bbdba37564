-- The rooms of steps: at least one unit where a label is given, and as much as fits where the flow is raised.
use Rattle.std.proofs.Common.{◌≡◌, ℕ, ◌+◌, ◌-◌, ◌^◌, ◌<◌, ◌≤◌, List, length, refl, sym, ◌∙◌, ap, subst, inl, inr, arith}
use Rattle.std.proofs.lemmas.Bool.{cases_eq, cases_lt}
use Rattle.pc_model.specs.Walk.{from_of, to_of}
use Rattle.pc_model.specs.declared.Knee.{Knee}
use Rattle.pc_model.specs.declared.Term.{Term}
use Rattle.pc_model.specs.Schedule.{term_at}
use Rattle.pc_laws.specs.Stair.{IsFalling, full_reach, unit_length, IsOnStair}
use Rattle.pc_laws.proofs.Stairs.Units.{unit-falls}
use Rattle.pc_crash.specs.inside.KneeLists.{AreKneesOf}
use Rattle.pc_crash.specs.Priced.{PricedNetwork, knees_in}
use Rattle.pc_flow.specs.inside.stair.Rows.{stair}
use Rattle.pc_flow.specs.board.Sheets.{Sheet, flow_of}
use Rattle.pc_flow.specs.inside.board.Sheets.{step_of, against_of, room_of}
use Rattle.pc_flow.specs.inside.board.Moves.{SetsRoom}
use Rattle.pc_flow.specs.inside.board.Labelling.{HasStep, HaveRoom}
use Rattle.pc_flow.specs.inside.board.Raising.{IsRaised}
use Rattle.pc_flow.specs.declared.search.way.Way.TheVariants.{Along, Against}
use Rattle.pc_flow.specs.inside.search.Searches.{
  stair_at,
  gap_at,
  IsSearch,
  IsOnStairs,
  StopsAfterFall,
  HasRoomAlong,
  HasRoomAgainst,
  IsSeen,
  IsSettledActivity,
}
use Rattle.pc_flow.specs.inside.search.Rooms.{IsRoom, IsMeasured}
use Rattle.pc_flow.specs.inside.search.Growing.{IsScanned, IsMet, AreSettled}
use Rattle.pc_flow.specs.search.Labelling.{length_at}
use Rattle.pc_flow.specs.inside.search.Labelling.{slope_at, IsStateWith, IsAboveAllCrash, IsBetweenLabellings, HasRaised}
use Rattle.pc_flow.proofs.lemmas.search.KeptLaws.{waiting-kept}
use Rattle.pc_flow.proofs.lemmas.search.StopLaws.{seen-reach, seen-falling, room-along, room-against}

-- where an activity stops now, one unit more fits, or one fewer
module _ (net : PricedNetwork) (s : Sheet) (a : ℕ) (known : a < length net.network.arcs) (stairs : IsOnStairs net s) where
  pub unit-along : StopsAfterFall net s a Along 0 → HasRoomAlong net s a 1
  unit-along stops = record {
    some = omega arith;
    small = stairs.small a known;
    on = record {
      next = omega (arith, stops, unit-falls (stair_at net a) (stairs.falling a known) (flow_of s a) (flow_of s a + 1) (omega arith));
      last = λ some. let same : flow_of s a + 1 - 1 ≡ flow_of s a = omega arith in omega (arith, stops, ap (unit_length (stair_at net a)) same);
    };
  }

  pub unit-against : 0 < flow_of s a → StopsAfterFall net s a Against 0 → HasRoomAgainst net s a 1
  unit-against flows stops = record {
    some = omega arith;
    within = flows;
    on = record {
      next = omega (arith, stops);
      last = λ some. omega (arith, stops, unit-falls (stair_at net a) (stairs.falling a known) (flow_of s a - 1 - 1) (flow_of s a - 1) (omega arith));
    };
  }

-- an activity from which an event has its label stops now
module _ (net : PricedNetwork) (s : Sheet) (search : IsSearch net s) (room : HaveRoom s) (e : ℕ) (known : e < s.events) (has : HasStep s e) where
  pub step-inside : step_of s e < length net.network.arcs
  step-inside = omega (arith, search.steps.known e known has, search.fits.activities)

  pub step-flows : 0 < against_of s e → 0 < flow_of s (step_of s e)
  step-flows some = omega (arith, search.steps.against e known has some, room.some e known has)

  pub step-along : against_of s e ≡ 0 → StopsAfterFall net s (step_of s e) Along 0
  step-along none =
      let led : IsOnStair (stair_at net (step_of s e)) (gap_at net s (step_of s e)) (flow_of s (step_of s e) + room_of s e) = search.led.along e known has none in
      omega (
        arith,
        (search.stairs.on (step_of s e) step-inside).next,
        led.last (omega (arith, room.some e known has)),
        unit-falls (stair_at net (step_of s e)) (search.stairs.falling (step_of s e) step-inside) (flow_of s (step_of s e))
            (flow_of s (step_of s e) + room_of s e - 1) (omega (arith, room.some e known has)),
      )

  pub step-against : 0 < against_of s e → StopsAfterFall net s (step_of s e) Against 0
  step-against some =
      let led : IsOnStair (stair_at net (step_of s e)) (gap_at net s (step_of s e)) (flow_of s (step_of s e) - room_of s e) = search.led.against e known has some in
      omega (
        arith,
        (search.stairs.on (step_of s e) step-inside).last (step-flows some),
        led.next,
        unit-falls (stair_at net (step_of s e)) (search.stairs.falling (step_of s e) step-inside) (flow_of s (step_of s e) - room_of s e)
            (flow_of s (step_of s e) - 1) (omega (arith, room.some e known has, step-flows some)),
      )

  -- the stored room is a room
  pub step-room : IsRoom net s e (room_of s e)
  step-room = record {
    along = λ none. record {
      some = room.some e known has;
      small = search.steps.along e known has none;
      on = search.led.along e known has none;
    };
    against = λ some. record {
      some = room.some e known has;
      within = search.steps.against e known has some;
      on = search.led.against e known has some;
    };
  }

  -- what its knees give
  module _ (a : ℕ) (list knees : List Knee) (term : Term) (at : a ≡ step_of s e)
      (bends : AreKneesOf (knees_in net) a list) (same : knees ≡ list) (is_term : term ≡ term_at net.terms a) where
    abbrev crash : ℕ
    crash = term.crash

    inside : a < length net.network.arcs
    inside = omega (arith, at, step-inside)

    seen : IsSeen net a crash knees
    seen = record { lasts = ap (λ (t : Term). t.crash) is_term; bends = subst (λ ks. AreKneesOf (knees_in net) a ks) (sym same) bends }

    pub found-reach : full_reach (stair knees crash) < 2 ^ 64
    found-reach = seen-reach net s a crash knees inside seen search.stairs

    pub found-falling : IsFalling (stair knees crash)
    found-falling = seen-falling net s a crash knees inside seen search.stairs

    pub found-flow : (flow : ℕ) → flow ≡ flow_of s a → flow + 1 < 2 ^ 64
    found-flow flow is = omega (arith, is, search.stairs.small a inside)

    pub found-flows : (flow : ℕ) → flow ≡ flow_of s a → 0 < against_of s e → 0 < flow
    found-flows flow is some = omega (arith, is, ap (flow_of s) at, step-flows some)

    pub found-along : (units flow : ℕ) → flow ≡ flow_of s a → against_of s e ≡ 0 → 0 < units → flow + units < 2 ^ 64
        → ((gap : ℕ) → IsOnStair (stair knees crash) gap flow → unit_length (stair knees crash) flow ≡ gap → IsOnStair (stair knees crash) gap (flow + units))
        → IsRoom net s e units
    found-along units flow is none some small on = record {
      along = λ none_there.
          subst (λ b. HasRoomAlong net s b units) at
          (room-along net s a crash knees inside seen search.stairs units flow is some small on
          (subst (λ b. StopsAfterFall net s b Along 0) (sym at) (step-along none)));
      against = λ more. absurd (omega (arith, more, none));
    }

    pub found-against : (units flow : ℕ) → flow ≡ flow_of s a → 0 < against_of s e → 0 < units → units ≤ flow
        → ((gap : ℕ) → IsOnStair (stair knees crash) gap flow → unit_length (stair knees crash) (flow - 1) ≡ gap → IsOnStair (stair knees crash) gap (flow - units))
        → IsRoom net s e units
    found-against units flow is more some within on = record {
      along = λ none. absurd (omega (arith, more, none));
      against = λ some_there.
          subst (λ b. HasRoomAgainst net s b units) at
          (room-against net s a crash knees inside seen search.stairs units flow is some within on
          (subst (λ b. StopsAfterFall net s b Against 0) (sym at) (step-against more)));
    }

pub measuring-begins : (net : PricedNetwork) (s : Sheet) → IsSearch net s → HaveRoom s → IsMeasured net s s
measuring-begins net s search room = record { rest = refl; rooms = λ e known has. step-room net s search room e known has }

-- whether a number is a room does not depend on the stored rooms
pub room-back : (net : PricedNetwork) (s t : Sheet) (e room : ℕ) → t ≡ record s { room = t.room } → IsRoom net t e room → IsRoom net s e room
room-back net s t e room rest is =
    let there : IsRoom net (record s { room = t.room }) e room = subst (λ v. IsRoom net v e room) rest is in
    record {
      along = λ none. let has = there.along none in record { some = has.some; small = has.small; on = has.on };
      against = λ some. let has = there.against some in record { some = has.some; within = has.within; on = has.on };
    }

pub measuring-goes_on : (net : PricedNetwork) (s t u : Sheet) (e room : ℕ) → IsMeasured net s t → SetsRoom t u e room → IsRoom net t e room
    → IsMeasured net s u
measuring-goes_on net s t u e room on moved is = record {
  rest = moved.rest ∙ ap (λ (v : Sheet). record v { room = u.room }) on.rest;
  rooms = λ f known has. elim (cases_eq f e) [
    | inl same ↦
        subst (λ n. IsRoom net s f n) (sym (ap (room_of u) same ∙ moved.room_at))
        (subst (λ g. IsRoom net s g room) (sym same) (room-back net s t e room on.rest is))
    | inr apart ↦ subst (λ n. IsRoom net s f n) (sym (moved.room_off f apart)) (on.rooms f known has)
  ];
}

-- a search stays one
module _ (net : PricedNetwork) (s t : Sheet) (on : IsMeasured net s t) where
  abbrev there : Sheet
  there = record s { room = t.room }

  pub search-measured : IsSearch net s → IsSearch net t
  search-measured search = subst (λ v. IsSearch net v) (sym on.rest) (record {
    in_range = search.in_range;
    few = search.few;
    fits = record { events = search.fits.events; activities = search.fits.activities };
    ranked = record {
      some = search.ranked.some;
      few = search.ranked.few;
      scanned = search.ranked.scanned;
      range = search.ranked.range;
      placed = search.ranked.placed;
      within = search.ranked.within;
      queued = search.ranked.queued;
    };
    start = search.start;
    back = record { known = search.back.known; labelled = search.back.labelled; before = search.back.before };
    steps = record {
      known = search.steps.known;
      apart = search.steps.apart;
      along = λ e known has none. ((on.rooms e known has).along none).small;
      against = λ e known has some. ((on.rooms e known has).against some).within;
    };
    times = record { deep = search.times.deep; fits = search.times.fits };
    joined = record {
      along_from = search.joined.along_from;
      along_to = search.joined.along_to;
      against_from = search.joined.against_from;
      against_to = search.joined.against_to;
    };
    waiting = waiting-kept s there refl search.waiting;
    stairs = record {
      falling = search.stairs.falling;
      reach = search.stairs.reach;
      ahead = search.stairs.ahead;
      on = search.stairs.on;
      small = search.stairs.small;
    };
    lengths = λ a known. record { up = (search.lengths a known).up; down = (search.lengths a known).down };
    led = record {
      along = λ e known has none. ((on.rooms e known has).along none).on;
      against = λ e known has some. ((on.rooms e known has).against some).on;
    };
  })

  some-room : (e : ℕ) → e < s.events → HasStep s e → 0 < room_of t e
  some-room e known has =
      elim (cases_lt 0 (against_of s e)) [
        | inl some ↦ ((on.rooms e known has).against some).some
        | inr none ↦ ((on.rooms e known has).along (let is : against_of s e ≡ 0 = omega arith in is)).some
      ]

  pub have_room-measured : HaveRoom t
  have_room-measured = subst HaveRoom (sym on.rest) (record { some = some-room })

  pub between-measured : IsBetweenLabellings net s → IsBetweenLabellings net t
  between-measured between = record {
    search = search-measured between.search;
    room = have_room-measured;
    state = subst (λ v. IsStateWith net v (length_at net v) (slope_at net v)) (sym on.rest) between.state;
    fits = subst (λ (v : Sheet). length_at net v + v.fallen < 2 ^ 63) (sym on.rest) between.fits;
  }

  pub above-measured : IsAboveAllCrash net s → IsAboveAllCrash net t
  above-measured above = subst (λ v. IsAboveAllCrash net v) (sym on.rest) above

  settled-there : (a : ℕ) → IsSettledActivity net s a → IsSettledActivity net there a
  settled-there a settled = λ way may. settled way (record { near = may.near; far = may.far; flows = may.flows })

  scanned-was : (e : ℕ) → IsScanned there e → IsScanned s e
  scanned-was e is = record { labelled = is.labelled; within = is.within }

  met-was : (a : ℕ) → IsMet net there a → IsMet net s a
  met-was a (inl from) = inl (scanned-was (from_of net.network.arcs a) from)
  met-was a (inr to) = inr (scanned-was (to_of net.network.arcs a) to)

  pub settled-measured : AreSettled net s → AreSettled net t
  settled-measured settled =
      subst (λ v. AreSettled net v) (sym on.rest) (λ a known met. settled-there a (settled a known (met-was a met)))

  -- raised from there is raised
  pub raised-measured : (u : Sheet) (by : ℕ) → HasRaised net t u by → HasRaised net s u by
  raised-measured u by raised = record {
    raised = (raised.raised.0, subst (λ (v : Sheet). IsRaised (record v { room = raised.raised.0 }) u net.network.end by) on.rest raised.raised.1);
    rest = raised.rest ∙ ap (λ (v : Sheet). record v { room = u.room; flow = u.flow; up = u.up; down = u.down }) on.rest;
    some = raised.some;
    search = raised.search;
    settled = raised.settled;
    slope = raised.slope ∙ ap (λ (v : Sheet). slope_at net v + by) on.rest;
    state = raised.state;
    bounded = raised.bounded;
  }
