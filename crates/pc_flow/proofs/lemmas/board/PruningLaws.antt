-- The queue looked at place by place, while events keep their labels or lose them.
use Rattle.std.proofs.Common.{◌≡◌, ◌≢◌, ℕ, suc, ◌+◌, ◌-◌, ◌<◌, ◌≤◌, ◌⊎◌, refl, sym, ◌∙◌, ap, subst, inl, inr, arith}
use Rattle.std.proofs.lemmas.Bool.{cases_lt}
use Rattle.pc_model.specs.Sums.{sum_to}
use Rattle.pc_model.proofs.Sums.{sum_to-same}
use Rattle.pc_flow.specs.board.Sheets.{Sheet, kept_time, rank_of}
use Rattle.pc_flow.specs.inside.board.Sheets.{queue_of, near_of, room_of, lost_of}
use Rattle.pc_flow.specs.inside.board.Moves.{KeepsAt, LosesAt}
use Rattle.pc_flow.specs.inside.board.Labelling.{HasStep, IsRanked, IsRankedBack}
use Rattle.pc_flow.specs.inside.board.Raising.{StandFirst}
use Rattle.pc_flow.specs.inside.board.Pruning.{KeepsLabel, IsLost, IsSorted, IsPruned}

-- what holds of a board while its queue is looked at
pub record IsPruning (s t : Sheet) (i kept gone seen : ℕ) : Type 0 where
  pub rest : t ≡ record s { time = t.time; rank = t.rank; queue = t.queue; lost = t.lost }
  pub sorted : IsSorted s t i kept gone seen

-- at first only the events whose labels remain are known to keep them
pub pruning-begins : (s : Sheet) (standing : ℕ) → IsRanked s → IsRankedBack s → StandFirst s standing → IsPruning s s standing standing 0 s.head
pruning-begins s standing ranked back stand = record {
  rest = refl;
  sorted = record {
    some = stand.some;
    split = omega arith;
    fates = λ e known labelled early. inl (record {
      labelled = labelled;
      within = early;
      placed = ranked.queued e known labelled;
      time = refl;
      room = λ has. stand.room e known has early;
      near = λ has. back.labelled e known has;
    });
    unlabelled = λ e known none. none;
    later = λ e known after. refl;
    time_off = λ e known off. refl;
    queue_off = λ k after. refl;
    range = λ k before. ranked.range k (omega (arith, stand.within));
    placed = λ k before. ranked.placed k (omega (arith, stand.within));
    first = refl;
    ordered = λ e f ke kf before within le lf. before;
    lost_range = λ k none. absurd (omega arith);
    lost_none = λ k none. absurd (omega arith);
    weights = λ w. omega arith;
    early = λ within. omega arith;
    late = λ within. omega arith;
    still_seen = λ e known within labelled seen. seen;
    was_seen = λ e known within labelled seen. seen;
  };
}

-- the event at the next place, and what holds of it
module _ (s t : Sheet) (i kept gone seen : ℕ) (ranked : IsRanked s) (back : IsRankedBack s) (below : i < s.count) (some_place : 0 < i) (pruning : IsPruning s t i kept gone seen) where
  sorted : IsSorted s t i kept gone seen
  sorted = pruning.sorted

  abbrev next : ℕ
  next = queue_of s i

  known : next < s.events
  known = ranked.range i below

  rank-next : rank_of s next ≡ i + 1
  rank-next = ranked.placed i below

  has : HasStep s next
  has = omega (arith, rank-next)

  near-known : near_of s next < s.events
  near-known = back.known next known has

  near-before : rank_of s (near_of s next) ≤ i
  near-before = omega (arith, back.before next known has, rank-next)

  near-labelled : 0 < rank_of s (near_of s next)
  near-labelled = back.labelled next known has

  near-apart : near_of s next ≢ next
  near-apart same = omega (arith, near-before, rank-next, ap (rank_of s) same)

  -- an event that was looked at is another one
  earlier-apart : (e : ℕ) → rank_of s e ≤ i → e ≢ next
  earlier-apart e early same = omega (arith, early, rank-next, ap (rank_of s) same)

  -- an event with a rank of i + 1 is this one
  here-at : (e : ℕ) → e < s.events → rank_of s e ≡ i + 1 → e ≡ next
  here-at e ke at =
      sym (ranked.queued e ke (omega arith)) ∙ ap (queue_of s) (let place : rank_of s e - 1 ≡ i = omega arith in place)

  -- each event that was looked at has its place among the kept ones or none
  within-kept : (e : ℕ) → e < s.events → rank_of s e ≤ i → rank_of t e ≤ kept
  within-kept e ke early =
      elim (cases_lt 0 (rank_of s e)) [
        | inl labelled ↦ elim (sorted.fates e ke labelled early) [
          | inl is ↦ is.within
          | inr is ↦ omega (arith, is.none)
        ]
        | inr none ↦ omega (arith, sorted.unlabelled e ke (let zero_rank : rank_of s e ≡ 0 = omega arith in zero_rank))
      ]

  -- so do those that are among the kept ones
  kept-early : (k : ℕ) → k < kept → rank_of s (queue_of t k) ≤ i
  kept-early k before =
      elim (cases_lt i (rank_of s (queue_of t k))) [
        | inl after ↦ absurd (omega (arith, sorted.later (queue_of t k) (sorted.range k before) after, sorted.placed k before, sorted.split))
        | inr early ↦ early
      ]

  kept-apart : (k : ℕ) → k < kept → queue_of t k ≢ next
  kept-apart k before = earlier-apart (queue_of t k) (kept-early k before)

  -- the next event is in the queue as it was
  pub next-same : queue_of t i ≡ next
  next-same = sorted.queue_off i (omega arith)

  -- the board t with the next event's fate, one fact for each column
  other-labelled : (e : ℕ) → (rank_of s e ≡ 0) ⊎ (i + 1 < rank_of s e) → e ≢ next
  other-labelled e (inl none) same = omega (arith, none, rank-next, ap (rank_of s) same)
  other-labelled e (inr after) same = omega (arith, after, rank-next, ap (rank_of s) same)

  lost-apart : (k : ℕ) → k < gone → lost_of t k ≢ next
  lost-apart k before same =
      omega (arith, sorted.lost_none k before, ap (rank_of t) same, sorted.later next known (omega (arith, rank-next)), rank-next)

  near-early : (e : ℕ) → e < s.events → HasStep s e → rank_of s e ≤ i → near_of s e ≢ next
  near-early e ke has_e early = earlier-apart (near_of s e) (omega (arith, back.before e ke has_e, early))

  early-time : (e : ℕ) → (rank_of s e ≡ 0) ⊎ (i + 1 < rank_of s e) → (rank_of s e ≡ 0) ⊎ (i < rank_of s e)
  early-time e (inl none) = inl none
  early-time e (inr after) = inr (omega arith)

  time-next : kept_time t next ≡ kept_time s next
  time-next = sorted.time_off next known (inr (omega (arith, rank-next)))

  -- the next event keeps its label
  module _ (u : Sheet) (room : 0 < room_of s next) (near : 0 < rank_of t (near_of s next)) (moved : KeepsAt t u next kept) where
    time-on : (f : ℕ) → kept_time u f ≡ kept_time t f
    time-on f = ap (λ (v : Sheet). kept_time v f) moved.rest

    lost-on : (k : ℕ) → lost_of u k ≡ lost_of t k
    lost-on k = ap (λ (v : Sheet). lost_of v k) moved.rest

    kept-still : (e : ℕ) → e < s.events → rank_of s e ≤ i → KeepsLabel s t kept e → KeepsLabel s u (kept + 1) e
    kept-still e ke early is =
        let same : rank_of u e ≡ rank_of t e = moved.rank_off e (earlier-apart e early) in
        record {
          labelled = omega (arith, same, is.labelled);
          within = omega (arith, same, is.within);
          placed =
              ap (λ n. queue_of u (n - 1)) same
              ∙ moved.queue_off (rank_of t e - 1) (λ (at : rank_of t e - 1 ≡ kept). omega (arith, at, is.within, is.labelled))
              ∙ is.placed;
          time = time-on e ∙ is.time;
          room = is.room;
          near = λ has_e. omega (arith, moved.rank_off (near_of s e) (near-early e ke has_e early), is.near has_e);
        }

    lost-still : (e : ℕ) → e < s.events → rank_of s e ≤ i → IsLost s t gone e → IsLost s u gone e
    lost-still e ke early is = record {
      none = moved.rank_off e (earlier-apart e early) ∙ is.none;
      stepped = is.stepped;
      time = time-on e ∙ is.time;
      listed = (is.listed.0, is.listed.1, lost-on is.listed.0 ∙ is.listed.2);
      why = elim is.why [
        | inl no_room ↦ inl no_room
        | inr no_label ↦ inr (moved.rank_off (near_of s e) (near-early e ke is.stepped early) ∙ no_label)
      ];
    }

    kept-here : KeepsLabel s u (kept + 1) next
    kept-here = record {
      labelled = omega (arith, moved.rank_at);
      within = omega (arith, moved.rank_at);
      placed = ap (queue_of u) (let at : rank_of u next - 1 ≡ kept = omega (arith, moved.rank_at) in at) ∙ moved.queue_at;
      time = time-on next ∙ time-next;
      room = λ has_step. room;
      near = λ has_step. omega (arith, moved.rank_off (near_of s next) near-apart, near);
    }

    fates : (e : ℕ) → e < s.events → 0 < rank_of s e → rank_of s e ≤ i + 1 → KeepsLabel s u (kept + 1) e ⊎ IsLost s u gone e
    fates e ke labelled within =
        elim (cases_lt i (rank_of s e)) [
          | inl after ↦
              let at : e ≡ next = here-at e ke (omega arith) in
              subst (λ f. KeepsLabel s u (kept + 1) f ⊎ IsLost s u gone f) (sym at) (inl kept-here)
          | inr early ↦ elim (sorted.fates e ke labelled early) [ inl is ↦ inl (kept-still e ke early is) | inr is ↦ inr (lost-still e ke early is) ]
        ]

    queue-on : (k : ℕ) → k < kept → queue_of u k ≡ queue_of t k
    queue-on k before = moved.queue_off k (λ (at : k ≡ kept). omega arith)

    at-end : (k : ℕ) → k < kept + 1 → (k < kept) ⊎ (k ≡ kept)
    at-end k before = elim (cases_lt k kept) [ inl early ↦ inl early | inr last ↦ inr (omega arith) ]

    range : (k : ℕ) → k < kept + 1 → queue_of u k < s.events
    range k before = elim (at-end k before) [
      | inl early ↦ omega (arith, queue-on k early, sorted.range k early)
      | inr last ↦ omega (arith, ap (queue_of u) last, moved.queue_at, known)
    ]

    placed : (k : ℕ) → k < kept + 1 → rank_of u (queue_of u k) ≡ k + 1
    placed k before = elim (at-end k before) [
      | inl early ↦
          ap (rank_of u) (queue-on k early) ∙ moved.rank_off (queue_of t k) (kept-apart k early) ∙ sorted.placed k early
      | inr last ↦
          ap (λ j. rank_of u (queue_of u j)) last ∙ ap (rank_of u) moved.queue_at ∙ moved.rank_at ∙ ap (λ j. j + 1) (sym last)
    ]

    weights : (w : ℕ → ℕ) → sum_to (kept + 1) (λ k. w (queue_of u k)) + sum_to gone (λ k. w (lost_of u k)) ≡ sum_to (i + 1) (λ k. w (queue_of s k))
    weights w =
        omega (
          arith,
          ap (λ n. sum_to n (λ k. w (queue_of u k))) (let e : kept + 1 ≡ suc kept = omega arith in e),
          ap (λ n. sum_to n (λ k. w (queue_of s k))) (let e : i + 1 ≡ suc i = omega arith in e),
          sum_to-same kept (λ k. w (queue_of u k)) (λ k. w (queue_of t k)) (λ k before. ap w (queue-on k before)),
          sum_to-same gone (λ k. w (lost_of u k)) (λ k. w (lost_of t k)) (λ k before. ap w (lost-on k)),
          ap w moved.queue_at,
          sorted.weights w,
        )

    rank-early : (e : ℕ) → rank_of s e ≤ i → rank_of u e ≡ rank_of t e
    rank-early e early = moved.rank_off e (earlier-apart e early)

    ordered : (e f : ℕ) → e < s.events → f < s.events → rank_of s e < rank_of s f → rank_of s f ≤ i + 1 → 0 < rank_of u e → 0 < rank_of u f
        → rank_of u e < rank_of u f
    ordered e f ke kf before within le lf =
        let same : rank_of u e ≡ rank_of t e = rank-early e (omega arith) in
        elim (cases_lt i (rank_of s f)) [
          | inl after ↦ omega (arith, same, within-kept e ke (omega arith), ap (rank_of u) (here-at f kf (omega arith)), moved.rank_at)
          | inr early ↦
              let same_f : rank_of u f ≡ rank_of t f = rank-early f early in
              omega (arith, same, same_f, sorted.ordered e f ke kf before early (omega arith) (omega arith))
        ]

    still_seen : (e : ℕ) → e < s.events → rank_of s e ≤ i + 1 → 0 < rank_of u e → rank_of s e ≤ s.head → rank_of u e ≤ seen
    still_seen e ke within labelled was =
        elim (cases_lt i (rank_of s e)) [
          | inl after ↦ omega (arith, ap (rank_of u) (here-at e ke (omega arith)), moved.rank_at, sorted.early (omega arith), sorted.split)
          | inr early ↦ let same : rank_of u e ≡ rank_of t e = rank-early e early in omega (arith, same, sorted.still_seen e ke early (omega arith) was)
        ]

    was_seen : (e : ℕ) → e < s.events → rank_of s e ≤ i + 1 → 0 < rank_of u e → rank_of u e ≤ seen → rank_of s e ≤ s.head
    was_seen e ke within labelled now =
        elim (cases_lt i (rank_of s e)) [
          | inl after ↦
              elim (cases_lt i s.head) [
                | inl scanned ↦ omega arith
                | inr not_scanned ↦ absurd (omega (arith, ap (rank_of u) (here-at e ke (omega arith)), moved.rank_at, now, sorted.late not_scanned))
              ]
          | inr early ↦ let same : rank_of u e ≡ rank_of t e = rank-early e early in sorted.was_seen e ke early (omega arith) (omega arith)
        ]

    late : s.head ≤ i + 1 → seen ≤ kept + 1
    late within =
        elim (cases_lt i s.head) [
          | inl last ↦ omega (arith, sorted.early (omega arith), sorted.split)
          | inr over ↦ omega (arith, sorted.late over)
        ]

    rest : u ≡ record s { time = u.time; rank = u.rank; queue = u.queue; lost = u.lost }
    rest =
        moved.rest
        ∙ ap (λ (v : Sheet). record v { rank = u.rank; queue = u.queue }) pruning.rest
        ∙ ap (λ xs. record s { time = xs; rank = u.rank; queue = u.queue; lost = t.lost }) (sym (ap (λ (v : Sheet). v.time) moved.rest))
        ∙ ap (λ xs. record s { time = u.time; rank = u.rank; queue = u.queue; lost = xs }) (sym (ap (λ (v : Sheet). v.lost) moved.rest))

    pub pruning-keeps : IsPruning s u (i + 1) (kept + 1) gone seen
    pruning-keeps = record {
      rest = rest;
      sorted = record {
        some = omega arith;
        split = omega (arith, sorted.split);
        fates = fates;
        unlabelled = λ e ke none. moved.rank_off e (other-labelled e (inl none)) ∙ sorted.unlabelled e ke none;
        later = λ e ke after. moved.rank_off e (other-labelled e (inr after)) ∙ sorted.later e ke (omega arith);
        time_off = λ e ke off. time-on e ∙ sorted.time_off e ke (early-time e off);
        queue_off = λ k after. moved.queue_off k (λ (at : k ≡ kept). omega (arith, at, after, sorted.split)) ∙ sorted.queue_off k (omega arith);
        range = range;
        placed = placed;
        first = queue-on 0 sorted.some ∙ sorted.first;
        ordered = ordered;
        lost_range = λ k before. omega (arith, lost-on k, sorted.lost_range k before);
        lost_none = λ k before. ap (rank_of u) (lost-on k) ∙ moved.rank_off (lost_of t k) (lost-apart k before) ∙ sorted.lost_none k before;
        weights = weights;
        early = λ within. sorted.early (omega arith);
        late = late;
        still_seen = still_seen;
        was_seen = was_seen;
      };
    }

  -- the next event loses its label
  module _ (u : Sheet) (why : (room_of s next ≡ 0) ⊎ (rank_of t (near_of s next) ≡ 0)) (moved : LosesAt t u next gone)
      (seen' : ℕ) (seen_below : i < s.head → seen' + 1 ≡ seen) (seen_beyond : s.head ≤ i → seen' ≡ seen) where
    losing-queue-on : (k : ℕ) → queue_of u k ≡ queue_of t k
    losing-queue-on k = ap (λ (v : Sheet). queue_of v k) moved.rest

    fallen-same : t.fallen ≡ s.fallen
    fallen-same = ap (λ (v : Sheet). v.fallen) pruning.rest

    losing-rank-early : (e : ℕ) → rank_of s e ≤ i → rank_of u e ≡ rank_of t e
    losing-rank-early e early = moved.rank_off e (earlier-apart e early)

    losing-kept-still : (e : ℕ) → e < s.events → rank_of s e ≤ i → KeepsLabel s t kept e → KeepsLabel s u kept e
    losing-kept-still e ke early is =
        let same : rank_of u e ≡ rank_of t e = losing-rank-early e early in
        record {
          labelled = omega (arith, same, is.labelled);
          within = omega (arith, same, is.within);
          placed = ap (λ n. queue_of u (n - 1)) same ∙ losing-queue-on (rank_of t e - 1) ∙ is.placed;
          time = moved.time_off e (earlier-apart e early) ∙ is.time;
          room = is.room;
          near = λ has_e. omega (arith, moved.rank_off (near_of s e) (near-early e ke has_e early), is.near has_e);
        }

    losing-lost-still : (e : ℕ) → e < s.events → rank_of s e ≤ i → IsLost s t gone e → IsLost s u (gone + 1) e
    losing-lost-still e ke early is = record {
      none = losing-rank-early e early ∙ is.none;
      stepped = is.stepped;
      time = moved.time_off e (earlier-apart e early) ∙ is.time;
      listed = (
        is.listed.0,
        omega (arith, is.listed.1),
        moved.lost_off is.listed.0 (λ (at : is.listed.0 ≡ gone). omega (arith, at, is.listed.1)) ∙ is.listed.2,
      );
      why = elim is.why [
        | inl no_room ↦ inl no_room
        | inr no_label ↦ inr (moved.rank_off (near_of s e) (near-early e ke is.stepped early) ∙ no_label)
      ];
    }

    lost-here : IsLost s u (gone + 1) next
    lost-here = record {
      none = moved.rank_at;
      stepped = has;
      time = moved.time_at ∙ ap (λ n. n + t.fallen) time-next ∙ ap (λ n. kept_time s next + n) fallen-same;
      listed = (gone, omega arith, moved.lost_at);
      why = elim why [ inl no_room ↦ inl no_room | inr no_label ↦ inr (moved.rank_off (near_of s next) near-apart ∙ no_label) ];
    }

    losing-fates : (e : ℕ) → e < s.events → 0 < rank_of s e → rank_of s e ≤ i + 1 → KeepsLabel s u kept e ⊎ IsLost s u (gone + 1) e
    losing-fates e ke labelled within =
        elim (cases_lt i (rank_of s e)) [
          | inl after ↦
              let at : e ≡ next = here-at e ke (omega arith) in
              subst (λ f. KeepsLabel s u kept f ⊎ IsLost s u (gone + 1) f) (sym at) (inr lost-here)
          | inr early ↦ elim (sorted.fates e ke labelled early) [ inl is ↦ inl (losing-kept-still e ke early is) | inr is ↦ inr (losing-lost-still e ke early is) ]
        ]

    -- an event that still has a label after this was looked at before
    still-early : (e : ℕ) → e < s.events → rank_of s e ≤ i + 1 → 0 < rank_of u e → rank_of s e ≤ i
    still-early e ke within labelled =
        elim (cases_lt i (rank_of s e)) [
          | inl after ↦ absurd (omega (arith, ap (rank_of u) (here-at e ke (omega arith)), moved.rank_at, labelled))
          | inr early ↦ early
        ]

    losing-at-end : (k : ℕ) → k < gone + 1 → (k < gone) ⊎ (k ≡ gone)
    losing-at-end k before = elim (cases_lt k gone) [ inl early ↦ inl early | inr last ↦ inr (omega arith) ]

    losing-lost-on : (k : ℕ) → k < gone → lost_of u k ≡ lost_of t k
    losing-lost-on k before = moved.lost_off k (λ (at : k ≡ gone). omega arith)

    losing-weights : (w : ℕ → ℕ) → sum_to kept (λ k. w (queue_of u k)) + sum_to (gone + 1) (λ k. w (lost_of u k)) ≡ sum_to (i + 1) (λ k. w (queue_of s k))
    losing-weights w =
        omega (
          arith,
          ap (λ n. sum_to n (λ k. w (lost_of u k))) (let e : gone + 1 ≡ suc gone = omega arith in e),
          ap (λ n. sum_to n (λ k. w (queue_of s k))) (let e : i + 1 ≡ suc i = omega arith in e),
          sum_to-same kept (λ k. w (queue_of u k)) (λ k. w (queue_of t k)) (λ k before. ap w (losing-queue-on k)),
          sum_to-same gone (λ k. w (lost_of u k)) (λ k. w (lost_of t k)) (λ k before. ap w (losing-lost-on k before)),
          ap w moved.lost_at,
          sorted.weights w,
        )

    -- the kept ones come before the scanned ones that are left
    losing-seen-some : i < s.head → kept ≤ seen'
    losing-seen-some scanned = omega (arith, sorted.early (omega arith), sorted.split, seen_below scanned)

    losing-early : i + 1 ≤ s.head → seen' + (gone + 1) ≡ s.head
    losing-early within = omega (arith, sorted.early (omega arith), seen_below (omega arith))

    losing-late : s.head ≤ i + 1 → seen' ≤ kept
    losing-late within =
        elim (cases_lt i s.head) [
          | inl scanned ↦ omega (arith, sorted.early (omega arith), sorted.split, seen_below scanned)
          | inr over ↦ omega (arith, sorted.late over, seen_beyond over)
        ]

    losing-still_seen : (e : ℕ) → e < s.events → rank_of s e ≤ i + 1 → 0 < rank_of u e → rank_of s e ≤ s.head → rank_of u e ≤ seen'
    losing-still_seen e ke within labelled was =
        let before : rank_of s e ≤ i = still-early e ke within labelled in
        let same : rank_of u e ≡ rank_of t e = losing-rank-early e before in
        elim (cases_lt i s.head) [
          | inl scanned ↦ omega (arith, same, within-kept e ke before, losing-seen-some scanned)
          | inr over ↦ omega (arith, same, sorted.still_seen e ke before (omega arith) was, seen_beyond over)
        ]

    losing-was_seen : (e : ℕ) → e < s.events → rank_of s e ≤ i + 1 → 0 < rank_of u e → rank_of u e ≤ seen' → rank_of s e ≤ s.head
    losing-was_seen e ke within labelled now =
        let before : rank_of s e ≤ i = still-early e ke within labelled in
        let same : rank_of u e ≡ rank_of t e = losing-rank-early e before in
        elim (cases_lt i s.head) [
          | inl scanned ↦ omega arith
          | inr over ↦ sorted.was_seen e ke before (omega arith) (omega (arith, same, now, seen_beyond over))
        ]

    losing-ordered : (e f : ℕ) → e < s.events → f < s.events → rank_of s e < rank_of s f → rank_of s f ≤ i + 1 → 0 < rank_of u e → 0 < rank_of u f
        → rank_of u e < rank_of u f
    losing-ordered e f ke kf before within le lf =
        let early_f : rank_of s f ≤ i = still-early f kf within lf in
        let same : rank_of u e ≡ rank_of t e = losing-rank-early e (omega arith) in
        let same_f : rank_of u f ≡ rank_of t f = losing-rank-early f early_f in
        omega (arith, same, same_f, sorted.ordered e f ke kf before early_f (omega arith) (omega arith))

    losing-rest : u ≡ record s { time = u.time; rank = u.rank; queue = u.queue; lost = u.lost }
    losing-rest =
        moved.rest
        ∙ ap (λ (v : Sheet). record v { time = u.time; rank = u.rank; lost = u.lost }) pruning.rest
        ∙ ap (λ xs. record s { time = u.time; rank = u.rank; queue = xs; lost = u.lost }) (sym (ap (λ (v : Sheet). v.queue) moved.rest))

    pub pruning-loses : IsPruning s u (i + 1) kept (gone + 1) seen'
    pruning-loses = record {
      rest = losing-rest;
      sorted = record {
        some = sorted.some;
        split = omega (arith, sorted.split);
        fates = losing-fates;
        unlabelled = λ e ke none. moved.rank_off e (other-labelled e (inl none)) ∙ sorted.unlabelled e ke none;
        later = λ e ke after. moved.rank_off e (other-labelled e (inr after)) ∙ sorted.later e ke (omega arith);
        time_off = λ e ke off. moved.time_off e (other-labelled e off) ∙ sorted.time_off e ke (early-time e off);
        queue_off = λ k after. losing-queue-on k ∙ sorted.queue_off k (omega arith);
        range = λ k before. omega (arith, losing-queue-on k, sorted.range k before);
        placed = λ k before. ap (rank_of u) (losing-queue-on k) ∙ moved.rank_off (queue_of t k) (kept-apart k before) ∙ sorted.placed k before;
        first = losing-queue-on 0 ∙ sorted.first;
        ordered = losing-ordered;
        lost_range = λ k before. elim (losing-at-end k before) [
          | inl inside ↦ omega (arith, losing-lost-on k inside, sorted.lost_range k inside)
          | inr last ↦ omega (arith, ap (lost_of u) last, moved.lost_at, known)
        ];
        lost_none = λ k before. elim (losing-at-end k before) [
          | inl inside ↦ ap (rank_of u) (losing-lost-on k inside) ∙ moved.rank_off (lost_of t k) (lost-apart k inside) ∙ sorted.lost_none k inside
          | inr last ↦ ap (λ j. rank_of u (lost_of u j)) last ∙ ap (rank_of u) moved.lost_at ∙ moved.rank_at
        ];
        weights = losing-weights;
        early = losing-early;
        late = losing-late;
        still_seen = losing-still_seen;
        was_seen = losing-was_seen;
      };
    }

-- the same in terms of the board as it is at that place
module _ (s t u : Sheet) (i kept gone seen x : ℕ) (ranked : IsRanked s) (back : IsRankedBack s) (below : i < s.count) (some_place : 0 < i)
    (pruning : IsPruning s t i kept gone seen) (at : x ≡ queue_of t i) where
  abbrev place : ℕ
  place = queue_of s i

  is-next : x ≡ place
  is-next = at ∙ next-same s t i kept gone seen ranked back below some_place pruning

  room-now : room_of s place ≡ room_of t x
  room-now = sym (ap (λ (v : Sheet). room_of v place) pruning.rest) ∙ ap (room_of t) (sym is-next)

  near-now : near_of s place ≡ near_of t x
  near-now = sym (ap (λ (v : Sheet). near_of v place) pruning.rest) ∙ ap (near_of t) (sym is-next)

  pub pruning-keeps_at : 0 < room_of t x → 0 < rank_of t (near_of t x) → KeepsAt t u x kept → IsPruning s u (i + 1) (kept + 1) gone seen
  pruning-keeps_at room near moved =
      pruning-keeps s t i kept gone seen ranked back below some_place pruning u
      (omega (arith, room, room-now))
      (omega (arith, near, ap (rank_of t) near-now))
      (subst (λ e. KeepsAt t u e kept) is-next moved)

  pub pruning-loses_at : (room_of t x ≡ 0) ⊎ (rank_of t (near_of t x) ≡ 0) → LosesAt t u x gone → (next_seen : ℕ) → (i < u.head → next_seen + 1 ≡ seen)
      → (u.head ≤ i → next_seen ≡ seen) → IsPruning s u (i + 1) kept (gone + 1) next_seen
  pruning-loses_at why moved next_seen seen_below seen_beyond =
      pruning-loses s t i kept gone seen ranked back below some_place pruning u
      (elim why [ inl none ↦ inl (room-now ∙ none) | inr none ↦ inr (ap (rank_of t) near-now ∙ none) ])
      (subst (λ e. LosesAt t u e gone) is-next moved)
      next_seen
      (λ scanned. seen_below (omega (arith, scanned, head-same)))
      (λ over. seen_beyond (omega (arith, over, head-same)))
    where
      head-same : u.head ≡ s.head
      head-same = ap (λ (v : Sheet). v.head) moved.rest ∙ ap (λ (v : Sheet). v.head) pruning.rest

-- the queue was looked at to its end, and is cut
module _ (s t : Sheet) (kept gone seen : ℕ) (pruning : IsPruning s t s.count kept gone seen) where
  abbrev cut : Sheet
  cut = record t { count = kept; head = seen }

  abbrev looked : IsSorted s t s.count kept gone seen
  looked = pruning.sorted

  ending-fates : (e : ℕ) → e < s.events → 0 < rank_of s e → rank_of s e ≤ s.count → KeepsLabel s cut kept e ⊎ IsLost s cut gone e
  ending-fates e ke labelled within =
      elim (looked.fates e ke labelled within) [
        | inl is ↦ inl (record { labelled = is.labelled; within = is.within; placed = is.placed; time = is.time; room = is.room; near = is.near })
        | inr is ↦ inr (record { none = is.none; stepped = is.stepped; time = is.time; listed = is.listed; why = is.why })
      ]

  pub pruning-ends : IsPruned s cut gone
  pruning-ends = record {
    rest = ap (λ (v : Sheet). record v { count = kept; head = seen }) pruning.rest;
    sorted = record {
      some = looked.some;
      split = looked.split;
      fates = ending-fates;
      unlabelled = looked.unlabelled;
      later = looked.later;
      time_off = looked.time_off;
      queue_off = looked.queue_off;
      range = looked.range;
      placed = looked.placed;
      first = looked.first;
      ordered = looked.ordered;
      lost_range = looked.lost_range;
      lost_none = looked.lost_none;
      weights = looked.weights;
      early = looked.early;
      late = looked.late;
      still_seen = looked.still_seen;
      was_seen = looked.was_seen;
    };
  }
