-- A solver before its first segment: all durations are normal, and nothing flows.
use Rattle.std.proofs.Common.{◌≡◌, ℕ, ◌-◌, ◌^◌, ◌<◌, ◌≤◌, true, false, List, [], ◌∷◌, length, refl, sym, ◌∙◌, ap, subst, inl, inr, arith}
use Rattle.std.proofs.Math.Path.{fun_ext}
use Rattle.std.proofs.lemmas.Bool.{cases_eq, cases_lt}
use Rattle.pc_cells.specs.Spans.{Cells}
use Rattle.pc_model.specs.Sums.{sum_to}
use Rattle.pc_model.specs.Walk.{from_of, to_of, IsWalk}
use Rattle.pc_model.specs.Network.{Network, IsSound, IsInRange, IsOrder, IsEarly}
use Rattle.pc_model.specs.Schedule.{normal_of, base_cost_of, normals, lesser_of, IsSchedule, IsAllNormalLength, IsAllCrashLength}
use Rattle.pc_model.specs.Cost.{IsPriced, cost_of}
use Rattle.pc_model.specs.Pieces.{ArePieces}
use Rattle.pc_model.proofs.Walks.EarlyLaws.{early_at_start, early_fits}
use Rattle.pc_model.proofs.Schedules.Durations.{normals-at, crash-normal}
use Rattle.pc_model.proofs.Costs.NormalCost.{cost_of-same}
use Rattle.pc_model.proofs.Costs.PieceLaws.{normal_cost}
use Rattle.pc_model.proofs.Walks.PlaceLaws.{zero-at}
use Rattle.pc_laws.specs.Stair.{full_reach}
use Rattle.pc_laws.specs.Steps.{IsStairOptimal}
use Rattle.pc_laws.proofs.Stairs.OnStair.{knees_fall}
use Rattle.pc_laws.proofs.Stairs.StairStates.{stair-opening_state}
use Rattle.pc_laws.proofs.Flows.Bounds.{last_slope-small}
use Rattle.pc_laws.proofs.States.Opening.{normal_lesser}
use Rattle.pc_crash.specs.Priced.{PricedNetwork, knees_in, ArePiecesWithinLimits}
use Rattle.pc_crash.specs.Terms.{AreWithinLimits}
use Rattle.pc_flow.specs.board.Sheets.{Sheet, kept_time, time_of, rank_of, flow_of}
use Rattle.pc_flow.specs.inside.board.Sheets.{queue_of, slot_of, clear_sheet}
use Rattle.pc_flow.specs.inside.board.Labelling.{HasStep, HaveRoom, AreStoredTimes, IsRanked}
use Rattle.pc_flow.specs.inside.board.Moves.{StartsAt}
use Rattle.pc_flow.proofs.lemmas.board.AfterPruning.{time-labelled, time-unlabelled}
use Rattle.pc_flow.specs.inside.search.Searches.{stair_at, IsSearch, IsOnStairs, HaveLengths, IsWaitingList}
use Rattle.pc_flow.specs.inside.search.Growing.{IsScanned, IsMet, AreDueLater}
use Rattle.pc_flow.specs.search.Labelling.{length_at}
use Rattle.pc_flow.specs.inside.search.Labelling.{slope_at, IsStateWith, IsBetweenLabellings}
use Rattle.pc_flow.proofs.lemmas.search.KeptLaws.{with_lengths, lengths-kept}
use Rattle.pc_flow.proofs.lemmas.search.StateLaws.{state-own}
use Rattle.pc_flow.specs.declared.early.TheConstants.{MAX_LENGTH}
use Rattle.pc_flow.specs.Courses.{Course, IsLevel}
use Rattle.pc_flow.specs.inside.Courses.{IsOnCourse}
use Rattle.pc_flow.specs.inside.Openings.{IsOpened}

-- a sound network has activities
pub some-activities : (net : Network) → IsInRange net → IsSound net → 0 < length net.arcs
some-activities net range sound = let (walk, walked) = sound.reached net.end range.end_in in some walk walked
  where
    some : (walk : List ℕ) → IsWalk net.arcs net.start walk net.end → 0 < length net.arcs
    some [] walked = absurd (range.apart walked)
    some (a ∷ walk) walked = omega (arith, walked.0)

-- the stored time does not change when lengths are stored and the start gets its label
pub kept-before : (t v u : Sheet) (start e : ℕ) {end : ℕ} → v ≡ record t { up = v.up; down = v.down } → StartsAt v u start → end ≡ e
    → kept_time t end ≡ kept_time u e
kept-before t v u start e third starts same =
    ap (kept_time t) same ∙ (sym (ap (λ (w : Sheet). kept_time w e) third) ∙ sym (ap (λ (w : Sheet). kept_time w e) starts.rest))

-- nothing flows on a board whose times alone were set
pub flow-clear : (home : Cells) (events activities : ℕ) (b s t : Sheet) → b ≡ clear_sheet home events activities → s ≡ record b { time = s.time }
    → t ≡ record s { time = t.time } → (a : ℕ) → flow_of t a ≡ 0
flow-clear home events activities b s t board first second a =
    ap (λ (w : Sheet). flow_of w a) second
    ∙ (ap (λ (w : Sheet). flow_of w a) first ∙ (ap (λ (w : Sheet). flow_of w a) board ∙ zero-at activities a))

-- the knees of an activity reach at most a number
pub reach-small : (net : PricedNetwork) → IsPriced net.network net.terms (knees_in net) → AreWithinLimits net.terms → ArePieces net.terms net.pieces
    → ArePiecesWithinLimits net.pieces → (a : ℕ) → a < length net.network.arcs → full_reach (stair_at net a) < 2 ^ 64
reach-small net priced limits pieces piece_limits a known =
    omega (arith, last_slope-small net.terms net.pieces a pieces limits.gentle piece_limits.gentle (omega (arith, known, priced.terms_fit.one_each)))

-- the board after both passes over the events, with the start's label
module _ (net : PricedNetwork) (home : Cells) (b s t v u : Sheet) (events activities start : ℕ)
    (are_events : events ≡ net.network.events) (are_activities : activities ≡ length net.network.arcs) (is_start : start ≡ net.network.start)
    (board : b ≡ clear_sheet home events activities) (first : s ≡ record b { time = s.time }) (second : t ≡ record s { time = t.time })
    (third : v ≡ record t { up = v.up; down = v.down }) (starts : StartsAt v u start) where
  clear-board : b ≡ clear_sheet home net.network.events (length net.network.arcs)
  clear-board =
      board
      ∙ (ap (λ (n : ℕ). clear_sheet home n activities) are_events ∙ ap (λ (n : ℕ). clear_sheet home net.network.events n) are_activities)

  kept : (e : ℕ) → kept_time u e ≡ kept_time t e
  kept e = ap (λ (w : Sheet). kept_time w e) starts.rest ∙ ap (λ (w : Sheet). kept_time w e) third

  rank-clear : (e : ℕ) → rank_of v e ≡ 0
  rank-clear e =
      ap (λ (w : Sheet). rank_of w e) third
      ∙ (ap (λ (w : Sheet). rank_of w e) second
      ∙ (ap (λ (w : Sheet). rank_of w e) first ∙ (ap (λ (w : Sheet). rank_of w e) clear-board ∙ zero-at net.network.events e)))

  -- board w with the labels, times and lengths of board x
  abbrev opened_as : Sheet → Sheet → Sheet
  opened_as w x = record w { time = x.time; rank = x.rank; queue = x.queue; count = 1; up = x.up; down = x.down }

  abbrev there : Sheet → Sheet
  there w = record w { time = t.time; rank = u.rank; queue = u.queue; count = 1; up = v.up; down = v.down }

  reached : u ≡ there (clear_sheet home net.network.events (length net.network.arcs))
  reached =
      starts.rest
      ∙ (ap (λ (w : Sheet). record w { rank = u.rank; queue = u.queue; count = 1 }) third
      ∙ (ap (λ (w : Sheet). record w { rank = u.rank; queue = u.queue; count = 1; up = v.up; down = v.down }) second
      ∙ (ap there first ∙ ap there clear-board)))

  rest : u ≡ opened_as (clear_sheet home net.network.events (length net.network.arcs)) u
  rest = reached ∙ ap (opened_as (clear_sheet home net.network.events (length net.network.arcs))) (sym reached)

  pub opened : ((e : ℕ) → e < net.network.events → IsEarly net.network (normals net.terms) e (kept_time t e))
      → ((e : ℕ) → e < net.network.events → kept_time t e ≤ MAX_LENGTH) → HaveLengths net v → IsOpened net home u
  opened early small lengths = record {
    rest = rest;
    queue = starts.queue_at ∙ is_start;
    first = subst (λ e. rank_of u e ≡ 1) is_start starts.rank_at;
    others = λ e other. starts.rank_off e (λ same. other (same ∙ is_start)) ∙ rank-clear e;
    early = λ e inside. subst (λ n. IsEarly net.network (normals net.terms) e n) (sym (kept e)) (early e inside);
    lengths = lengths-kept net v u (starts.rest ∙ ap (λ (w : Sheet). with_lengths w v) (sym starts.rest)) lengths;
    small = λ e inside. omega (arith, kept e, small e inside);
  }

module _ (net : PricedNetwork) (home : Cells) (s : Sheet) (is : IsOpened net home s) (priced : IsPriced net.network net.terms (knees_in net))
    (limits : AreWithinLimits net.terms) (pieces : ArePieces net.terms net.pieces) (piece_limits : ArePiecesWithinLimits net.pieces) where
  abbrev clear : Sheet
  clear = clear_sheet home net.network.events (length net.network.arcs)

  events-are : s.events ≡ net.network.events
  events-are = ap (λ (v : Sheet). v.events) is.rest

  activities-are : s.activities ≡ length net.network.arcs
  activities-are = ap (λ (v : Sheet). v.activities) is.rest

  count-is : s.count ≡ 1
  count-is = ap (λ (v : Sheet). v.count) is.rest

  head-is : s.head ≡ 0
  head-is = ap (λ (v : Sheet). v.head) is.rest

  len-is : s.len ≡ 0
  len-is = ap (λ (v : Sheet). v.len) is.rest

  fallen-is : s.fallen ≡ 0
  fallen-is = ap (λ (v : Sheet). v.fallen) is.rest

  flow-is : (a : ℕ) → flow_of s a ≡ 0
  flow-is a = ap (λ (v : Sheet). flow_of v a) is.rest ∙ zero-at (length net.network.arcs) a

  slot-is : (a : ℕ) → slot_of s a ≡ 0
  slot-is a = ap (λ (v : Sheet). slot_of v a) is.rest ∙ zero-at (length net.network.arcs) a

  -- only the start has a label
  rank-few : (e : ℕ) → rank_of s e ≤ 1
  rank-few e =
      elim (cases_eq e net.network.start) [
        | inl same ↦ omega (arith, ap (rank_of s) same, is.first)
        | inr other ↦ omega (arith, is.others e other)
      ]

  labelled-start : (e : ℕ) → 0 < rank_of s e → e ≡ net.network.start
  labelled-start e some =
      elim (cases_eq e net.network.start) [
        | inl same ↦ same
        | inr other ↦ absurd (omega (arith, some, is.others e other))
      ]

  no-step : (e : ℕ) → HasStep s e → ⊥
  no-step e has = omega (arith, has, rank-few e)

  time-is : (e : ℕ) → time_of s e ≡ kept_time s e
  time-is e =
      elim (cases_lt 0 (rank_of s e)) [
        | inl some ↦ time-labelled s e some
        | inr none ↦ omega (arith, time-unlabelled s e (omega arith), fallen-is)
      ]

  early-time : (e : ℕ) → e < net.network.events → IsEarly net.network (normals net.terms) e (time_of s e)
  early-time e inside = subst (λ n. IsEarly net.network (normals net.terms) e n) (sym (time-is e)) (is.early e inside)

  schedule : IsSchedule net.network net.terms (length_at net s) (normal_of net.terms) (time_of s)
  schedule = record {
    enough = λ a known. crash-normal net.network net.terms priced.terms_fit a known;
    within = λ a known. omega arith;
    starts = early_at_start net.network priced.sound (normals net.terms) (time_of s net.network.start) (early-time net.network.start priced.range.start_in);
    fits = λ a known.
        omega (
          arith,
          early_fits net.network (normals net.terms) a known (time_of s (from_of net.network.arcs a)) (time_of s (to_of net.network.arcs a))
              (early-time (from_of net.network.arcs a) (priced.range.from_in a known)) (early-time (to_of net.network.arcs a) (priced.range.to_in a known)),
          normals-at net.terms a (omega (arith, known, priced.terms_fit.one_each)),
        );
    ends = omega arith;
  }

  state-at : IsStateWith net s (length_at net s) 0
  state-at =
      subst (λ (along : ℕ → ℕ). IsStairOptimal net.network net.terms (knees_in net) (length_at net s) (time_of s) along 0) (sym (fun_ext flow-is))
      (stair-opening_state net.network net.terms (knees_in net) priced (length_at net s) (time_of s) schedule refl)

  slope-is : slope_at net s ≡ 0
  slope-is = state-at.leaves

  state : IsStateWith net s (length_at net s) (slope_at net s)
  state = state-own net s (length_at net s) 0 state-at

  ranked : IsRanked s
  ranked = record {
    some = omega (arith, count-is);
    few = omega (arith, count-is, events-are, priced.range.start_in);
    scanned = omega (arith, head-is);
    range = λ k below.
        let first : queue_of s k ≡ net.network.start = (let none : k ≡ 0 = omega (arith, below, count-is) in ap (queue_of s) none ∙ is.queue) in
        omega (arith, first, events-are, priced.range.start_in);
    placed = λ k below.
        let none : k ≡ 0 = omega (arith, below, count-is) in
        omega (arith, none, ap (rank_of s) (ap (queue_of s) none ∙ is.queue), is.first);
    within = λ e inside. omega (arith, rank-few e, count-is);
    queued = λ e inside some.
        let place : rank_of s e - 1 ≡ 0 = omega (arith, some, rank-few e) in
        ap (queue_of s) place ∙ (is.queue ∙ sym (labelled-start e some));
  }

  times : AreStoredTimes s
  times = record {
    deep = λ e inside none. omega (arith, fallen-is);
    fits = λ e inside. omega (arith, fallen-is, time-is e, is.small e (omega (arith, inside, events-are)));
  }

  waiting : IsWaitingList s
  waiting = record {
    few = omega (arith, len-is);
    range = λ k below. absurd (omega (arith, below, len-is));
    placed = λ k below. absurd (omega (arith, below, len-is));
    within = λ a inside. omega (arith, slot-is a);
    listed = λ a inside some. absurd (omega (arith, some, slot-is a));
  }

  stairs : IsOnStairs net s
  stairs = record {
    falling = knees_fall net.network net.terms (knees_in net) priced.knees_fit;
    reach = reach-small net priced limits pieces piece_limits;
    ahead = state.ahead;
    on = state.on_stair;
    small = λ a known. omega (arith, flow-is a);
  }

  search : IsSearch net s
  search = record {
    in_range = priced.range;
    few = omega (arith, limits.few, priced.terms_fit.one_each);
    fits = record { events = sym events-are; activities = sym activities-are };
    ranked = ranked;
    start = is.queue;
    back = record {
      known = λ e inside has. absurd (no-step e has);
      labelled = λ e inside has. absurd (no-step e has);
      before = λ e inside has. absurd (no-step e has);
    };
    steps = record {
      known = λ e inside has. absurd (no-step e has);
      apart = λ e f inside other has had not_same. absurd (no-step e has);
      along = λ e inside has none. absurd (no-step e has);
      against = λ e inside has some. absurd (no-step e has);
    };
    times = times;
    joined = record {
      along_from = λ e inside has none. absurd (no-step e has);
      along_to = λ e inside has none. absurd (no-step e has);
      against_from = λ e inside has some. absurd (no-step e has);
      against_to = λ e inside has some. absurd (no-step e has);
    };
    waiting = waiting;
    stairs = stairs;
    lengths = is.lengths;
    led = record {
      along = λ e inside has none. absurd (no-step e has);
      against = λ e inside has some. absurd (no-step e has);
    };
  }

  room : HaveRoom s
  room = record { some = λ e inside has. absurd (no-step e has) }

  between : IsBetweenLabellings net s
  between = record {
    search = search;
    room = room;
    state = state;
    fits = omega (arith, fallen-is, time-is net.network.end, is.small net.network.end priced.range.end_in);
  }

  -- none was scanned
  none-scanned : (e : ℕ) → IsScanned s e → ⊥
  none-scanned e scanned = omega (arith, scanned.labelled, scanned.within, head-is)

  none-met : (a : ℕ) → IsMet net s a → ⊥
  none-met a (inl from) = none-scanned (from_of net.network.arcs a) from
  none-met a (inr to) = none-scanned (to_of net.network.arcs a) to

  listed : AreDueLater net s
  listed a known met way may = absurd (none-met a met)

  normal-is : (a : ℕ) → a < length net.network.arcs → lesser_of net.network net.terms (time_of s) a ≡ normal_of net.terms a
  normal-is = normal_lesser net.network net.terms (length_at net s) (time_of s) schedule

  cost-is : sum_to (length net.terms) (base_cost_of net.terms) ≡ cost_of net.terms (knees_in net) (lesser_of net.network net.terms (time_of s))
  cost-is =
      sym (normal_cost net.network net.terms (knees_in net) priced.terms_fit priced.knees_fit)
      ∙ cost_of-same net.terms (knees_in net) (normal_of net.terms) (lesser_of net.network net.terms (time_of s))
      (λ a inside. sym (normal-is a (omega (arith, inside, priced.terms_fit.one_each))))

  module _ (longest shortest cost : ℕ) (is_longest : longest ≡ kept_time s net.network.end) (is_cost : cost ≡ sum_to (length net.terms) (base_cost_of net.terms)) where
    -- the solver
    abbrev pub opening : Course
    opening = record {
      net = net;
      board = s;
      longest = longest;
      shortest = shortest;
      cost = cost;
      slope = 0;
      fall = 0;
      given = false;
    }

    upper-is : length_at net s ≡ longest
    upper-is = time-is net.network.end ∙ sym is_longest

    pub opening-level : IsLevel opening
    opening-level = record { upper = upper-is; slope = refl; fall = refl; empty = flow-is }

    pub opening-longest : IsAllNormalLength net.network net.terms longest
    opening-longest = subst (λ n. IsAllNormalLength net.network net.terms n) (sym is_longest) (is.early net.network.end priced.range.end_in)

    pub opening-on_course : (order : List ℕ) → IsOrder net.network order → IsAllCrashLength net.network net.terms shortest → IsOnCourse opening
    opening-on_course order ordered all_crash = record {
      priced = priced;
      limits = limits;
      pieces = pieces;
      piece_limits = piece_limits;
      ordered = (order, ordered);
      between = between;
      listed = listed;
      longest = opening-longest;
      shortest = all_crash;
      small = omega (arith, is_longest, is.small net.network.end priced.range.end_in);
      within = omega (arith, upper-is);
      cost = is_cost ∙ cost-is;
      slope = sym slope-is;
      untouched = λ none. opening-level;
      normal = λ none. normal-is;
      falls = λ given. absurd (no given);
      level = λ given. absurd (no given);
    }
      where
        no : false ≡ true → ⊥
        no same = cc
