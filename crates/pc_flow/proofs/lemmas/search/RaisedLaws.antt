-- A search after an augmentation: its times and flows are a state again, and its labels remain, except for their rooms.
use Rattle.std.proofs.Common.{◌≡◌, ℕ, ◌+◌, ◌-◌, ◌^◌, ◌<◌, ◌≤◌, List, length, refl, sym, ◌∙◌, ap, subst, arith}
use Rattle.pc_model.specs.Walk.{from_of, to_of}
use Rattle.pc_model.specs.Network.{IsOrder}
use Rattle.pc_laws.specs.State.{IsPart}
use Rattle.pc_laws.specs.Stair.{IsOnStair}
use Rattle.pc_laws.specs.Steps.{IsStairOptimal}
use Rattle.pc_laws.proofs.Stairs.Raised.{stair-raised}
use Rattle.pc_crash.specs.Priced.{PricedNetwork, knees_in}
use Rattle.pc_flow.specs.board.Sheets.{Sheet, time_of, rank_of, flow_of}
use Rattle.pc_flow.specs.inside.board.Sheets.{queue_of, step_of, against_of, room_of}
use Rattle.pc_flow.specs.inside.board.Labelling.{HasStep}
use Rattle.pc_flow.specs.inside.board.Raising.{IsRaisedBy}
use Rattle.pc_flow.proofs.lemmas.board.AfterRaising.{
  raised-along,
  raised-against,
  raised-ranked,
  raised-back,
  raised-steps,
  raised-times,
  raised-time,
  raised-joined,
  raised-for,
}
use Rattle.pc_flow.specs.inside.search.Searches.{stair_at, gap_at, IsSearch, IsWaitingList, IsOnStairs, HaveLengths, AreLed}
use Rattle.pc_flow.specs.inside.search.Growing.{AreSettled}
use Rattle.pc_flow.specs.search.Labelling.{length_at, slopes_in}
use Rattle.pc_flow.specs.inside.search.Labelling.{slope_at, IsStateWith, IsAboveAllCrash, IsBetweenLabellings, HasRaised}
use Rattle.pc_flow.proofs.lemmas.search.StateLaws.{IsKnown, slopes-small, value-bounded, flow-bounded}
use Rattle.pc_flow.proofs.lemmas.search.RaiseLaws.{on-raised, settled-raised}

module _ (net : PricedNetwork) (known : IsKnown net) (order : List ℕ) (ordered : IsOrder net.network order) (s t : Sheet) (by k : ℕ) (between : IsBetweenLabellings net s)
    (above : IsAboveAllCrash net s) (raised : IsRaisedBy s t net.network.end by k) where
  abbrev search : IsSearch net s
  search = between.search

  rest : t ≡ record s { room = t.room; flow = t.flow; up = t.up; down = t.down }
  rest = raised.raising.rest

  part : IsPart net.network (flow_of s) (flow_of t) net.network.start by
  part =
      subst (λ x. IsPart net.network (flow_of s) (flow_of t) x by) search.start
      (raised.raising.part net.network search.fits refl search.joined)

  -- the state with the raised flows
  higher : IsStairOptimal net.network net.terms (knees_in net) (length_at net s) (time_of s) (flow_of t) (slope_at net s + by)
  higher =
      stair-raised net.network net.terms (knees_in net) (time_of s) (flow_of s) by (length_at net s) (slope_at net s) (flow_of t) known.priced between.state
      (record { part = part; fits = on-raised net s t net.network.end by k search raised })

  times : time_of t ≡ time_of s
  times = ap (λ (v : Sheet). time_of v) rest

  slope : slope_at net t ≡ slope_at net s + by
  slope = higher.leaves

  state : IsStateWith net t (length_at net t) (slope_at net t)
  state =
      subst (λ n. IsStairOptimal net.network net.terms (knees_in net) (length_at net t) (time_of t) (flow_of t) n) (sym slope)
      (subst (λ time. IsStairOptimal net.network net.terms (knees_in net) (time net.network.end) time (flow_of t) (slope_at net s + by)) (sym times) higher)

  bounded : slope_at net t ≤ slopes_in net
  bounded =
      omega (
        arith,
        slope,
        value-bounded net known order ordered (length_at net s) above.0 (slope_at net s + by) (time_of s) (flow_of t) higher above.1 above.2,
      )

  small : (a : ℕ) → a < length net.network.arcs → flow_of t a + 1 < 2 ^ 64
  small a inside =
      omega (
        arith,
        flow-bounded net known order ordered (length_at net s) (slope_at net s + by) (time_of s) (flow_of t) higher a inside,
        slope,
        bounded,
        slopes-small net known search.few,
      )

  gap : (a : ℕ) → gap_at net t a ≡ gap_at net s a
  gap a = ap (λ (v : Sheet). gap_at net v a) rest

  time-same : (e : ℕ) → time_of t e ≡ time_of s e
  time-same = raised-time s t net.network.end by k search.steps raised

  pub stairs-raised : IsOnStairs net t
  stairs-raised = record {
    falling = search.stairs.falling;
    reach = search.stairs.reach;
    ahead = λ a inside.
        omega (arith, search.stairs.ahead a inside, time-same (from_of net.network.arcs a), time-same (to_of net.network.arcs a));
    on = λ a inside.
        subst (λ n. IsOnStair (stair_at net a) n (flow_of t a)) (sym (gap a)) (on-raised net s t net.network.end by k search raised a inside);
    small = small;
  }

  was-event : (e : ℕ) → e < t.events → e < s.events
  was-event e inside = omega (arith, inside, ap (λ (v : Sheet). v.events) rest)

  had : (e : ℕ) → HasStep t e → HasStep s e
  had e has = omega (arith, has, ap (λ (v : Sheet). rank_of v e) rest)

  step-same : (e : ℕ) → step_of s e ≡ step_of t e
  step-same e = sym (ap (λ (v : Sheet). step_of v e) rest)

  against-same : (e : ℕ) → against_of t e ≡ against_of s e
  against-same e = ap (λ (v : Sheet). against_of v e) rest

  -- the flow to which the room of a step leads is as it was
  led : AreLed net t
  led = record {
    along = λ e inside has none.
        let was : against_of s e ≡ 0 = sym (against-same e) ∙ none in
        let total : flow_of s (step_of s e) + room_of s e ≡ flow_of t (step_of s e) + room_of t e =
        sym (raised-along s t net.network.end by k search.steps raised e (was-event e inside) (had e has) was) in
        subst (λ a. IsOnStair (stair_at net a) (gap_at net t a) (flow_of t a + room_of t e)) (step-same e)
        (subst (λ n. IsOnStair (stair_at net (step_of s e)) n (flow_of t (step_of s e) + room_of t e)) (sym (gap (step_of s e)))
        (subst (λ x. IsOnStair (stair_at net (step_of s e)) (gap_at net s (step_of s e)) x) total
        (search.led.along e (was-event e inside) (had e has) was)));
    against = λ e inside has some.
        let was : 0 < against_of s e = omega (arith, some, against-same e) in
        let total : flow_of s (step_of s e) - room_of s e ≡ flow_of t (step_of s e) - room_of t e =
        omega (
          arith,
          raised-against s t net.network.end by k search.steps raised e (was-event e inside) (had e has) was,
          search.steps.against e (was-event e inside) (had e has) was,
        ) in
        subst (λ a. IsOnStair (stair_at net a) (gap_at net t a) (flow_of t a - room_of t e)) (step-same e)
        (subst (λ n. IsOnStair (stair_at net (step_of s e)) n (flow_of t (step_of s e) - room_of t e)) (sym (gap (step_of s e)))
        (subst (λ x. IsOnStair (stair_at net (step_of s e)) (gap_at net s (step_of s e)) x) total
        (search.led.against e (was-event e inside) (had e has) was)));
  }

  waiting : IsWaitingList t
  waiting = subst (λ v. IsWaitingList v) (sym rest) (record {
    few = search.waiting.few;
    range = search.waiting.range;
    placed = search.waiting.placed;
    within = search.waiting.within;
    listed = search.waiting.listed;
  })

  search-raised : HaveLengths net t → IsSearch net t
  search-raised lengths = record {
    in_range = search.in_range;
    few = search.few;
    fits = raised-for s t net.network.end by k search.steps raised net.network search.fits;
    ranked = raised-ranked s t net.network.end by k search.steps raised search.ranked;
    start = ap (λ (v : Sheet). queue_of v 0) rest ∙ search.start;
    back = raised-back s t net.network.end by k search.steps raised search.back;
    steps = raised-steps s t net.network.end by k search.steps raised;
    times = raised-times s t net.network.end by k search.steps raised search.times;
    joined = raised-joined s t net.network.end by k search.steps raised net.network search.joined;
    waiting = waiting;
    stairs = stairs-raised;
    lengths = lengths;
    led = led;
  }

  pub has_raised : HaveLengths net t → AreSettled net s → HasRaised net s t by
  has_raised lengths settled = record {
    raised = (s.room, (k, raised));
    rest = rest;
    some = raised.some;
    search = search-raised lengths;
    settled = settled-raised net s t net.network.end by k search raised settled;
    slope = slope;
    state = state;
    bounded = bounded;
  }
