-- What a visit leaves where the far event of an activity gets a label.
use Rattle.std.proofs.Common.{◌≡◌, ◌≢◌, ℕ, ◌+◌, ◌-◌, ◌<◌, Bool, true, false, length, refl, sym, ◌∙◌, ap, subst, inl, inr, arith}
use Rattle.std.proofs.lemmas.Bool.{cases_eq}
use Rattle.pc_model.specs.Walk.{from_of, to_of}
use Rattle.pc_laws.specs.Stair.{IsOnStair}
use Rattle.pc_crash.specs.Priced.{PricedNetwork}
use Rattle.pc_flow.specs.board.Sheets.{Sheet, time_of, rank_of, flow_of}
use Rattle.pc_flow.specs.inside.board.Sheets.{step_of, against_of, room_of, waiting_of, slot_of}
use Rattle.pc_flow.specs.inside.board.Moves.{EntersAt, way_number}
use Rattle.pc_flow.specs.inside.board.Labelling.{HasStep, HaveRoom}
use Rattle.pc_flow.proofs.lemmas.board.AfterEntering.{
  IsNewStep,
  entered-flow,
  entered-kept,
  entered-time,
  entered-times,
  entered-ranked,
  entered-back,
  entered-steps,
  entered-room,
  entered-joined,
}
use Rattle.pc_flow.specs.inside.search.Searches.{stair_at, gap_at, IsOnStairs, IsSearch, IsSettledActivity, grown_as, Grows, IsVisited}
use Rattle.pc_flow.proofs.lemmas.search.WayLaws.{settled-both}
use Rattle.pc_flow.proofs.lemmas.search.KeptLaws.{with_list, waiting-kept, with_lengths, lengths-kept}

module _ (net : PricedNetwork) (s t : Sheet) (e a : ℕ) (against : Bool) (near room : ℕ) (search : IsSearch net s) (known : a < length net.network.arcs)
    (new : IsNewStep net.network s e a against near room) (entered : EntersAt s t e a against near room)
    (along_on : against ≡ false → IsOnStair (stair_at net a) (gap_at net s a) (flow_of s a + room))
    (against_on : against ≡ true → IsOnStair (stair_at net a) (gap_at net s a) (flow_of s a - room)) where
  time : (f : ℕ) → f < s.events → time_of t f ≡ time_of s f
  time = entered-time net.network s t e a against near room new entered search.times

  flow : (b : ℕ) → flow_of t b ≡ flow_of s b
  flow = entered-flow net.network s t e a against near room new entered

  from-time : (b : ℕ) → b < length net.network.arcs → time_of t (from_of net.network.arcs b) ≡ time_of s (from_of net.network.arcs b)
  from-time b kb = time (from_of net.network.arcs b) (omega (arith, search.in_range.from_in b kb, search.fits.events))

  to-time : (b : ℕ) → b < length net.network.arcs → time_of t (to_of net.network.arcs b) ≡ time_of s (to_of net.network.arcs b)
  to-time b kb = time (to_of net.network.arcs b) (omega (arith, search.in_range.to_in b kb, search.fits.events))

  gap : (b : ℕ) → b < length net.network.arcs → gap_at net t b ≡ gap_at net s b
  gap b kb = ap (λ n. n - time_of t (from_of net.network.arcs b)) (to-time b kb) ∙ ap (λ n. time_of s (to_of net.network.arcs b) - n) (from-time b kb)

  stairs : IsOnStairs net t
  stairs = record {
    falling = search.stairs.falling;
    reach = search.stairs.reach;
    ahead = λ b kb. omega (arith, from-time b kb, to-time b kb, search.stairs.ahead b kb);
    on = λ b kb. subst (λ f. IsOnStair (stair_at net b) (gap_at net t b) f) (sym (flow b)) (subst (λ g. IsOnStair (stair_at net b) g (flow_of s b)) (sym (gap b kb)) (search.stairs.on b kb));
    small = λ b kb. omega (arith, flow b, search.stairs.small b kb);
  }

  events-same : t.events ≡ s.events
  events-same = ap (λ (v : Sheet). v.events) entered.rest

  was : (f : ℕ) → f < t.events → f < s.events
  was f kf = omega (arith, kf, events-same)

  had : (f : ℕ) → f ≢ e → HasStep t f → HasStep s f
  had f apart has = omega (arith, has, entered.rank_off f apart)

  -- a flow on the staircase is on it still
  moved : (b x : ℕ) → b < length net.network.arcs → IsOnStair (stair_at net b) (gap_at net s b) x → IsOnStair (stair_at net b) (gap_at net t b) x
  moved b x kb on = subst (λ g. IsOnStair (stair_at net b) g x) (sym (gap b kb)) on

  way : (w : Bool) → against ≡ w → against_of t e ≡ way_number w
  way w at = entered.step.against_at ∙ ap way_number at

  led-along : (f : ℕ) → f < t.events → HasStep t f → against_of t f ≡ 0
      → IsOnStair (stair_at net (step_of t f)) (gap_at net t (step_of t f)) (flow_of t (step_of t f) + room_of t f)
  led-along f kf has none =
      elim (cases_eq f e) [
        | inl at ↦ here at
        | inr off ↦
            let b : step_of t f ≡ step_of s f = entered.step.step_off f off in
            let kb : step_of s f < length net.network.arcs = omega (arith, search.steps.known f (was f kf) (had f off has), search.fits.activities) in
            let on : IsOnStair (stair_at net (step_of s f)) (gap_at net t (step_of s f)) (flow_of s (step_of s f) + room_of s f) =
            moved (step_of s f) (flow_of s (step_of s f) + room_of s f) kb (search.led.along f (was f kf) (had f off has) (sym (entered.step.against_off f off) ∙ none)) in
            let total : flow_of s (step_of s f) + room_of s f ≡ flow_of t (step_of s f) + room_of t f = omega (arith, flow (step_of s f), entered.step.room_off f off) in
            subst (λ g. IsOnStair (stair_at net g) (gap_at net t g) (flow_of t g + room_of t f)) (sym b)
            (subst (λ n. IsOnStair (stair_at net (step_of s f)) (gap_at net t (step_of s f)) n) total on)
      ]
    where
      straight : f ≡ e → against ≡ false
      straight at = by against refl where
        by : (w : Bool) → against ≡ w → against ≡ false
        by true is = absurd (omega (arith, none, ap (against_of t) at, way true is))
        by false is = is

      here : f ≡ e → IsOnStair (stair_at net (step_of t f)) (gap_at net t (step_of t f)) (flow_of t (step_of t f) + room_of t f)
      here at =
          let b : step_of t f ≡ a = ap (step_of t) at ∙ entered.step.step_at in
          let total : flow_of s a + room ≡ flow_of t a + room_of t f = omega (arith, flow a, ap (room_of t) at, entered.step.room_at) in
          subst (λ g. IsOnStair (stair_at net g) (gap_at net t g) (flow_of t g + room_of t f)) (sym b)
          (subst (λ n. IsOnStair (stair_at net a) (gap_at net t a) n) total (moved a (flow_of s a + room) known (along_on (straight at))))

  led-against : (f : ℕ) → f < t.events → HasStep t f → 0 < against_of t f
      → IsOnStair (stair_at net (step_of t f)) (gap_at net t (step_of t f)) (flow_of t (step_of t f) - room_of t f)
  led-against f kf has some =
      elim (cases_eq f e) [
        | inl at ↦ here at
        | inr off ↦
            let b : step_of t f ≡ step_of s f = entered.step.step_off f off in
            let kb : step_of s f < length net.network.arcs = omega (arith, search.steps.known f (was f kf) (had f off has), search.fits.activities) in
            let on : IsOnStair (stair_at net (step_of s f)) (gap_at net t (step_of s f)) (flow_of s (step_of s f) - room_of s f) =
            moved (step_of s f) (flow_of s (step_of s f) - room_of s f) kb (search.led.against f (was f kf) (had f off has) (omega (arith, some, entered.step.against_off f off))) in
            let total : flow_of s (step_of s f) - room_of s f ≡ flow_of t (step_of s f) - room_of t f = omega (arith, flow (step_of s f), entered.step.room_off f off) in
            subst (λ g. IsOnStair (stair_at net g) (gap_at net t g) (flow_of t g - room_of t f)) (sym b)
            (subst (λ n. IsOnStair (stair_at net (step_of s f)) (gap_at net t (step_of s f)) n) total on)
      ]
    where
      turned : f ≡ e → against ≡ true
      turned at = by against refl where
        by : (w : Bool) → against ≡ w → against ≡ true
        by true is = is
        by false is = absurd (omega (arith, some, ap (against_of t) at, way false is))

      here : f ≡ e → IsOnStair (stair_at net (step_of t f)) (gap_at net t (step_of t f)) (flow_of t (step_of t f) - room_of t f)
      here at =
          let b : step_of t f ≡ a = ap (step_of t) at ∙ entered.step.step_at in
          let total : flow_of s a - room ≡ flow_of t a - room_of t f = omega (arith, flow a, ap (room_of t) at, entered.step.room_at) in
          subst (λ g. IsOnStair (stair_at net g) (gap_at net t g) (flow_of t g - room_of t f)) (sym b)
          (subst (λ n. IsOnStair (stair_at net a) (gap_at net t a) n) total (moved a (flow_of s a - room) known (against_on (turned at))))

  searched : IsSearch net t
  searched = record {
    in_range = search.in_range;
    few = search.few;
    fits = record { events = search.fits.events ∙ sym events-same; activities = search.fits.activities ∙ sym (ap (λ (v : Sheet). v.activities) entered.rest) };
    ranked = entered-ranked net.network s t e a against near room new entered search.ranked;
    start = entered.queue_off 0 (λ (at : 0 ≡ s.count). omega (arith, at, search.ranked.some)) ∙ search.start;
    back = entered-back net.network s t e a against near room new entered search.ranked search.back;
    steps = entered-steps net.network s t e a against near room new entered search.back search.joined search.steps;
    times = entered-times net.network s t e a against near room new entered search.times;
    joined = entered-joined net.network s t e a against near room new entered search.joined;
    waiting = waiting-kept s t (entered.rest ∙ ap (λ (v : Sheet). with_list v s) (sym entered.rest)) search.waiting;
    stairs = stairs;
    lengths = lengths-kept net s t (entered.rest ∙ ap (λ (v : Sheet). with_lengths v s) (sym entered.rest)) search.lengths;
    led = record { along = led-along; against = led-against };
  }

  grown : Grows s t
  grown = record {
    rest = entered.rest ∙ ap (λ (v : Sheet). grown_as s v) (sym entered.rest);
    labelled = λ f labelled. entered-kept net.network s t e a against near room new entered f labelled;
    time = time;
    waits = λ b had_slot. ap (λ (v : Sheet). slot_of v b) entered.rest;
    queue = λ k below. entered.queue_off k (λ (at : k ≡ s.count). omega arith);
    waiting = λ k below. ap (λ (v : Sheet). waiting_of v k) entered.rest;
    count = omega (arith, entered.count);
    len = omega (arith, ap (λ (v : Sheet). v.len) entered.rest);
  }

  -- both ends of the activity have labels now
  near-now : 0 < rank_of t near
  near-now = omega (arith, entered-kept net.network s t e a against near room new entered near new.near_labelled, new.near_labelled)

  settled : IsSettledActivity net t a
  settled = by against refl where
    by : (w : Bool) → against ≡ w → IsSettledActivity net t a
    by true is =
        settled-both net t a (omega (arith, ap (rank_of t) (new.back is).0, entered.rank_at)) (omega (arith, ap (rank_of t) (new.back is).1, near-now))
    by false is =
        settled-both net t a (omega (arith, ap (rank_of t) (new.along is).0, near-now)) (omega (arith, ap (rank_of t) (new.along is).1, entered.rank_at))

  pub visited-enters : HaveRoom s → IsVisited net s t a
  visited-enters rooms = record {
    grows = grown;
    search = searched;
    room = entered-room net.network s t e a against near room new entered rooms;
    settled = settled;
  }
