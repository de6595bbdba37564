-- A search after a fall: the events without a label are earlier, and what held before holds again.
use Rattle.std.proofs.Common.{◌≡◌, ℕ, ◌+◌, ◌-◌, ◌^◌, ◌<◌, ◌≤◌, Bool, true, false, not, ◌&&◌, if◌then◌else◌, length, refl, sym, ◌∙◌, ap, subst, inl, inr, arith}
use Rattle.std.proofs.lemmas.Bool.{cases_lt, eq-eqb, ne_eqb, eqb-true, cond-true, cond-false}
use Rattle.pc_model.specs.Walk.{from_of, to_of}
use Rattle.pc_model.specs.Cost.{IsPriced}
use Rattle.pc_laws.specs.Segment.{fall_of, is_forward}
use Rattle.pc_laws.specs.Stair.{IsOnStair}
use Rattle.pc_laws.specs.Steps.{IsStairOptimal}
use Rattle.pc_laws.proofs.Segments.Falls.{falls_along}
use Rattle.pc_laws.proofs.Stairs.StairStates.{stair-fallen, stair-times_within}
use Rattle.pc_crash.specs.Priced.{PricedNetwork, knees_in}
use Rattle.pc_flow.specs.board.Sheets.{Sheet, kept_time, time_of, rank_of, flow_of}
use Rattle.pc_flow.specs.inside.board.Sheets.{step_of, room_of, due_of}
use Rattle.pc_flow.specs.inside.board.Labelling.{HasStep, AreStoredTimes}
use Rattle.pc_flow.proofs.lemmas.board.AfterPruning.{time-labelled, time-unlabelled}
use Rattle.pc_flow.specs.declared.search.way.Way.TheVariants.{Along, Against}
use Rattle.pc_flow.specs.inside.search.Searches.{stair_at, gap_at, next_at, last_at, IsSearch, IsOnStairs, AreLed}
use Rattle.pc_flow.specs.inside.search.Growing.{IsMet, AreDueLater}
use Rattle.pc_flow.specs.inside.search.Choosing.{moving}
use Rattle.pc_flow.specs.search.Labelling.{length_at}
use Rattle.pc_flow.specs.inside.search.Labelling.{slope_at, IsStateWith, IsBetweenLabellings, MayFall, HasFallen}
use Rattle.pc_flow.proofs.lemmas.search.KeptLaws.{waiting-kept, search-recounted}
use Rattle.pc_flow.proofs.lemmas.search.StateLaws.{times-alike, state-own}
use Rattle.pc_flow.proofs.lemmas.search.StepLaws.{step-from_labelled, step-to_labelled}

-- from time u to time v, each earlier by the fall where it moves: b and c say whether the two move
still_ahead : (b c : Bool) (u v by : ℕ) → u ≤ v → ((not b && c) ≡ true → u + by ≤ v) → u + (if c then by else 0) ≤ v + (if b then by else 0)
still_ahead true true u v by ahead forward = omega arith
still_ahead true false u v by ahead forward = omega arith
still_ahead false true u v by ahead forward = omega (arith, forward refl)
still_ahead false false u v by ahead forward = omega arith

-- a sum that an activity stops no sooner than at stays one after a fall: from u to v, after the fall from w to x
gap-shrinks : (due unit fallen by u v w x : ℕ) → due + unit ≤ fallen + (v - u) → w ≡ u → x + by ≡ v → due + unit ≤ (fallen + by) + (x - w)
gap-shrinks due unit fallen by u v w x until rests falls = omega arith

gap-grows : (due unit fallen by u v w x : ℕ) → due + (v - u) ≤ fallen + unit → w + by ≡ u → x ≡ v → due + (x - w) ≤ (fallen + by) + unit
gap-grows due unit fallen by u v w x until falls rests = omega arith

module _ (net : PricedNetwork) (priced : IsPriced net.network net.terms (knees_in net)) (s : Sheet) (by : ℕ) (between : IsBetweenLabellings net s)
    (listed : AreDueLater net s) (falls : MayFall net s by) where
  abbrev search : IsSearch net s
  search = between.search

  abbrev there : Sheet
  there = record s { fallen = s.fallen + by }

  ahead-after : (a : ℕ) → a < length net.network.arcs
      → time_of s (from_of net.network.arcs a) + fall_of (moving s) by (to_of net.network.arcs a)
      ≤ time_of s (to_of net.network.arcs a) + fall_of (moving s) by (from_of net.network.arcs a)
  ahead-after a known =
      still_ahead (moving s (from_of net.network.arcs a)) (moving s (to_of net.network.arcs a))
      (time_of s (from_of net.network.arcs a)) (time_of s (to_of net.network.arcs a)) by (search.stairs.ahead a known)
      (λ (forward : is_forward net.network.arcs (moving s) a ≡ true). omega (arith, falls.least.forward a known forward, search.stairs.ahead a known))

  -- no event falls below 0
  above : (e : ℕ) → e < net.network.events → fall_of (moving s) by e ≤ time_of s e
  above e known =
      let (walk, walked) = priced.sound.reached e known in
      falls_along net.network.arcs (time_of s) (moving s) by ahead-after walk net.network.start e walked
      (omega (arith, cond-false (moving s net.network.start) by 0 falls.stuck.start_rests))

  event : (e : ℕ) → e < s.events → e < net.network.events
  event e known = omega (arith, known, search.fits.events)

  falls-none : (e : ℕ) → rank_of s e ≡ 0 → fall_of (moving s) by e ≡ by
  falls-none e none = cond-true (moving s e) by 0 (eq-eqb (rank_of s e) 0 none)

  rests : (e : ℕ) → 0 < rank_of s e → fall_of (moving s) by e ≡ 0
  rests e some = cond-false (moving s e) by 0 (ne_eqb (rank_of s e) 0 (λ (is : rank_of s e ≡ 0). omega (arith, is, some)))

  rested : (e : ℕ) → 0 < rank_of s e → time_of there e ≡ time_of s e
  rested e some = time-labelled there e some ∙ sym (time-labelled s e some)

  moved : (e : ℕ) → e < s.events → rank_of s e ≡ 0 → time_of there e + by ≡ time_of s e
  moved e known none =
      let now : time_of there e ≡ kept_time s e - (s.fallen + by) = time-unlabelled there e none in
      let then_ : time_of s e ≡ kept_time s e - s.fallen = time-unlabelled s e none in
      omega (arith, now, then_, above e (event e known), falls-none e none, search.times.deep e known none)

  -- each time is that of before, less the fall where the event moves
  times : (e : ℕ) → e < net.network.events → time_of s e - fall_of (moving s) by e ≡ time_of there e
  times e known =
      elim (cases_lt 0 (rank_of s e)) [
        | inl some ↦ omega (arith, rested e some, rests e some)
        | inr none ↦
            let is : rank_of s e ≡ 0 = omega arith in
            omega (arith, moved e (omega (arith, known, search.fits.events)) is, falls-none e is)
      ]

  end-moves : rank_of s net.network.end ≡ 0
  end-moves = eqb-true (rank_of s net.network.end) 0 falls.stuck.end_moves

  end-known : net.network.end < s.events
  end-known = omega (arith, search.in_range.end_in, search.fits.events)

  shorter : length_at net there + by ≡ length_at net s
  shorter = moved net.network.end end-known end-moves

  -- the falls fit a number
  pub fall-fits : s.fallen + by < 2 ^ 64
  fall-fits = omega (arith, between.fits, shorter)

  lower : IsStairOptimal net.network net.terms (knees_in net) (length_at net s - by) (time_of there) (flow_of s) (slope_at net s)
  lower =
      times-alike net.network net.terms (knees_in net) (length_at net s - by) (λ e. time_of s e - fall_of (moving s) by e) (time_of there) (flow_of s)
      (slope_at net s) search.in_range times
      (stair-fallen net.network net.terms (knees_in net) priced (length_at net s) (time_of s) (flow_of s) (slope_at net s) between.state
      (moving s) by falls)

  state : IsStateWith net there (length_at net there) (slope_at net there)
  state = state-own net there (length_at net s - by) (slope_at net s) lower

  within : (e : ℕ) → e < s.events → time_of there e ≤ length_at net there
  within e known =
      stair-times_within net.network net.terms (knees_in net) priced (length_at net there) (time_of there) (flow_of s) (slope_at net s) state
      e (event e known)

  times-there : AreStoredTimes there
  times-there = record {
    deep = λ e known none.
        let then_ : time_of s e ≡ kept_time s e - s.fallen = time-unlabelled s e none in
        let deep : s.fallen + by ≤ kept_time s e = omega (arith, then_, above e (event e known), falls-none e none, search.times.deep e known none) in
        deep;
    fits = λ e known.
        let fits : time_of there e + (s.fallen + by) < 2 ^ 64 = omega (arith, within e known, shorter, between.fits) in fits;
  }

  stairs : IsOnStairs net there
  stairs = record {
    falling = search.stairs.falling;
    reach = search.stairs.reach;
    ahead = lower.ahead;
    on = lower.on_stair;
    small = search.stairs.small;
  }

  -- the gap of a step's activity is as it was
  gap : (e : ℕ) → e < s.events → HasStep s e → gap_at net s (step_of s e) ≡ gap_at net there (step_of s e)
  gap e known has =
      ap (λ n. n - time_of s (from_of net.network.arcs (step_of s e)))
      (sym (rested (to_of net.network.arcs (step_of s e)) (step-to_labelled net s search e known has)))
      ∙ ap (λ n. time_of there (to_of net.network.arcs (step_of s e)) - n)
      (sym (rested (from_of net.network.arcs (step_of s e)) (step-from_labelled net s search e known has)))

  led : AreLed net there
  led = record {
    along = λ e known has none.
        subst (λ n. IsOnStair (stair_at net (step_of s e)) n (flow_of s (step_of s e) + room_of s e)) (gap e known has) (search.led.along e known has none);
    against = λ e known has some.
        subst (λ n. IsOnStair (stair_at net (step_of s e)) n (flow_of s (step_of s e) - room_of s e)) (gap e known has) (search.led.against e known has some);
  }

  met-before : (a : ℕ) → IsMet net there a → IsMet net s a
  met-before a (inl from) = inl (record { labelled = from.labelled; within = from.within })
  met-before a (inr to) = inr (record { labelled = to.labelled; within = to.within })

  listed-there : AreDueLater net there
  listed-there a known met Along may =
      let waits = listed a known (met-before a met) Along (record { near = may.near; far = may.far; flows = may.flows }) in
      record {
        listed = waits.listed;
        due = gap-shrinks (due_of s a) (next_at net s a) s.fallen by (time_of s (from_of net.network.arcs a)) (time_of s (to_of net.network.arcs a))
            (time_of there (from_of net.network.arcs a)) (time_of there (to_of net.network.arcs a)) waits.due
            (rested (from_of net.network.arcs a) may.near)
            (moved (to_of net.network.arcs a) (omega (arith, search.in_range.to_in a known, search.fits.events)) may.far);
      }
  listed-there a known met Against may =
      let waits = listed a known (met-before a met) Against (record { near = may.near; far = may.far; flows = may.flows }) in
      record {
        listed = waits.listed;
        due = gap-grows (due_of s a) (last_at net s a) s.fallen by (time_of s (from_of net.network.arcs a)) (time_of s (to_of net.network.arcs a))
            (time_of there (from_of net.network.arcs a)) (time_of there (to_of net.network.arcs a)) waits.due
            (moved (from_of net.network.arcs a) (omega (arith, search.in_range.from_in a known, search.fits.events)) may.far)
            (rested (to_of net.network.arcs a) may.near);
      }

  fallen-there : HasFallen net s there by
  fallen-there = record {
    rest = refl;
    moved = moved;
    rested = rested;
    shorter = shorter;
    between = record {
      search =
          search-recounted net s there search search.ranked.scanned times-there (waiting-kept s there refl search.waiting) stairs led;
      room = record { some = between.room.some };
      state = state;
      fits = omega (arith, shorter, between.fits);
    };
    listed = listed-there;
  }

  pub has_fallen : (t : Sheet) → t ≡ there → HasFallen net s t by
  has_fallen t is = subst (λ v. HasFallen net s v by) (sym is) fallen-there
