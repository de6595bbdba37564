-- The activities of arrows: the tasks, the links of the rows, and links at the two ends; and which of them follow one another.
use Rattle.std.proofs.Common.{◌≡◌, ℕ, ◌+◌, ◌-◌, ◌<◌, ◌≤◌, ◌⊎◌, inl, inr, ⊎_elim, true, false, List, [], ◌∷◌, ◌++◌, length, map, slice_index_or, refl, sym, ◌∙◌, ap, subst, arith}
use Rattle.std.specs.Prelude.{All, nat_lt}
use Rattle.std.specs.List.{range_with_len}
use Rattle.std.proofs.lemmas.Bool.{cases_lt, lt-ltb, ltb-true, false_from_ne_true}
use Rattle.std.proofs.lemmas.List.{get_or_append_left, get_or-append_right, get_or-map, length-append, length-map}
use Rattle.std.proofs.lemmas.List.FromFn.{get_or-map-range_with_len, length-map-range_with_len}
use Rattle.pc_model.specs.declared.Arc.{Arc}
use Rattle.pc_model.specs.Walk.{arc_at, from_of, to_of, IsWalk}
use Rattle.pc_project.specs.declared.placed.AfterRow.{AfterRow}
use Rattle.pc_tasks.specs.network.Tasks.{after_at, AreAmong}
use Rattle.pc_tasks.specs.network.Arrows.{begin_event, end_event, last_event, task_arc, after_arc, tasks_of}
use Rattle.pc_tasks.specs.network.Cycles.{ComesAfter, IsTaskWalk}
use Rattle.pc_tasks.proofs.lemmas.network.Kept.{filter-yes, filter-no}

-- a link from the start to where a task begins, or from where one ends to the end
abbrev pub IsOuter : ℕ → Arc → Type 0
IsOuter n arc =
    ((arc.from ≡ 0) × ((i : ℕ) × (i < n) × (arc.to ≡ begin_event i)))
    ⊎ ((arc.to ≡ last_event n) × ((i : ℕ) × (i < n) × (arc.from ≡ end_event i)))

abbrev no_arc : Arc
no_arc = record { from = 0; to = 0 }

module _ (n : ℕ) (afters : List AfterRow) (among : AreAmong n afters) (more : List Arc) (outer : All (IsOuter n) more) where
  abbrev pub arcs : List Arc
  arcs = map task_arc (range_with_len 0 n) ++ (map after_arc afters ++ more)

  pub length-joined : length arcs ≡ n + (length afters + length more)
  length-joined =
      omega (
        arith,
        length-append (map task_arc (range_with_len 0 n)) (map after_arc afters ++ more),
        length-map-range_with_len task_arc 0 n,
        length-append (map after_arc afters) more,
        length-map afters after_arc,
      )

  pub at_task : (a : ℕ) → a < n → arc_at arcs a ≡ task_arc a
  at_task a inside =
      get_or_append_left (map task_arc (range_with_len 0 n)) (map after_arc afters ++ more) no_arc a (omega (arith, length-map-range_with_len task_arc 0 n))
      ∙ get_or-map-range_with_len task_arc 0 n a a no_arc inside (omega arith)

  behind_tasks : (a : ℕ) → n ≤ a → arc_at arcs a ≡ slice_index_or (map after_arc afters ++ more) (a - n) no_arc
  behind_tasks a past =
      get_or-append_right (map task_arc (range_with_len 0 n)) (map after_arc afters ++ more) n a no_arc (length-map-range_with_len task_arc 0 n) past

  pub at_after : (j : ℕ) → j < length afters → arc_at arcs (n + j) ≡ after_arc (after_at afters j)
  at_after j inside =
      let place : n + j - n ≡ j = omega arith in
      behind_tasks (n + j) (omega arith)
      ∙ (ap (λ i. slice_index_or (map after_arc afters ++ more) i no_arc) place
      ∙ (get_or_append_left (map after_arc afters) more no_arc j (omega (arith, length-map afters after_arc))
      ∙ get_or-map after_arc afters j (record { task = 0; before = 0 }) no_arc inside))

  pub at_more : (k : ℕ) → k < length more → arc_at arcs (n + (length afters + k)) ≡ slice_index_or more k no_arc
  at_more k inside =
      let place : n + (length afters + k) - n ≡ length afters + k = omega arith in
      let rest : length afters + k - length afters ≡ k = omega arith in
      behind_tasks (n + (length afters + k)) (omega arith)
      ∙ (ap (λ i. slice_index_or (map after_arc afters ++ more) i no_arc) place
      ∙ (get_or-append_right (map after_arc afters) more (length afters) (length afters + k) no_arc (length-map afters after_arc) (omega arith)
      ∙ ap (λ i. slice_index_or more i no_arc) rest))

  -- an activity is a task, a link of a row, or one at the two ends
  pub data IsOne (a : ℕ) : Type 0 where
    task : a < n → arc_at arcs a ≡ task_arc a → IsOne a
    after : (j : ℕ) → j < length afters → a ≡ n + j → arc_at arcs a ≡ after_arc (after_at afters j) → IsOne a
    other : n ≤ a → IsOuter n (arc_at arcs a) → IsOne a

  pub one_of : (a : ℕ) → a < length arcs → IsOne a
  one_of a inside =
      ⊎_elim (λ first. task first (at_task a first))
      (λ past. ⊎_elim
      (λ second. let place : n + (a - n) ≡ a = omega arith in
      after (a - n) second (sym place) (ap (arc_at arcs) (sym place) ∙ at_after (a - n) second))
      (λ third. let k : ℕ = a - n - length afters in
      let place : n + (length afters + k) ≡ a = omega arith in
      let known : k < length more = omega (arith, length-joined) in
      other past (subst (IsOuter n) (sym (ap (arc_at arcs) (sym place) ∙ at_more k known)) (outer k no_arc known)))
      (cases_lt (a - n) (length afters)))
      (cases_lt a n)

  -- what leads away from where a task begins is the task
  pub from_begin : (a s : ℕ) → a < length arcs → from_of arcs a ≡ begin_event s → (a ≡ s) × (s < n) × (to_of arcs a ≡ end_event s)
  from_begin a s inside from = of (one_of a inside)
    where
      of : IsOne a → (a ≡ s) × (s < n) × (to_of arcs a ≡ end_event s)
      of (task first is) = let same : a ≡ s = omega (arith, ap (λ arc. arc.from) is, from) in (same, omega arith, ap (λ arc. arc.to) is ∙ ap end_event same)
      of (after j known at is) = absurd (omega (arith, ap (λ arc. arc.from) is, from))
      of (other past (inl (zero_is, (i, known, to)))) = absurd (omega (arith, zero_is, from))
      of (other past (inr (to, (i, known, from_is)))) = absurd (omega (arith, from_is, from))

  -- what leads away from where a task ends leads to where one begins that comes after it, or to the end
  pub from_end : (a s : ℕ) → a < length arcs → from_of arcs a ≡ end_event s →
      ((u : ℕ) × ComesAfter afters u s × (n ≤ a) × (to_of arcs a ≡ begin_event u)) ⊎ (to_of arcs a ≡ last_event n)
  from_end a s inside from = of (one_of a inside)
    where
      of : IsOne a → ((u : ℕ) × ComesAfter afters u s × (n ≤ a) × (to_of arcs a ≡ begin_event u)) ⊎ (to_of arcs a ≡ last_event n)
      of (task first is) = absurd (omega (arith, ap (λ arc. arc.from) is, from))
      of (after j known at is) =
          inl ((after_at afters j).task, (j, known, refl, omega (arith, ap (λ arc. arc.from) is, from)), omega arith, ap (λ arc. arc.to) is)
      of (other past (inl (zero_is, (i, known, to)))) = absurd (omega (arith, zero_is, from))
      of (other past (inr (to, (i, known, from_is)))) = inr to

  -- nothing leads away from the end, and nothing to the start
  pub none_from_last : (a : ℕ) → a < length arcs → from_of arcs a ≡ last_event n → ⊥
  none_from_last a inside from = let (same, below, to) = from_begin a n inside (omega (arith, from)) in omega arith

  pub none_to_start : (a : ℕ) → a < length arcs → to_of arcs a ≡ 0 → ⊥
  none_to_start a inside to = of (one_of a inside)
    where
      of : IsOne a → ⊥
      of (task first is) = omega (arith, ap (λ arc. arc.to) is, to)
      of (after j known at is) = omega (arith, ap (λ arc. arc.to) is, to)
      of (other past (inl (zero_is, (i, known, to_is)))) = omega (arith, to_is, to)
      of (other past (inr (to_is, (i, known, from_is)))) = omega (arith, to_is, to)

  is_task : (a : ℕ) → a < n → nat_lt a n ≡ true
  is_task a inside = lt-ltb a n inside

  is_link : (a : ℕ) → n ≤ a → nat_lt a n ≡ false
  is_link a past = false_from_ne_true (nat_lt a n) (λ yes. omega (arith, ltb-true a n yes))

  -- a walk from where one task begins to where another does passes tasks, each of which comes after the one before
  pub read_walk : (s t : ℕ) (walk : List ℕ) → t < n → IsWalk arcs (begin_event s) walk (begin_event t) → IsTaskWalk afters s (tasks_of n walk) t
  read_walk s t [] below walked = omega (arith, walked)
  read_walk s t (a ∷ []) below walked =
      let (same, known, to) = from_begin a s walked.0 walked.1 in absurd (omega (arith, to, walked.2))
  read_walk s t (a ∷ b ∷ walk) below walked =
      let (same, known, to) = from_begin a s walked.0 walked.1 in
      let next = walked.2 in
      ⊎_elim
      (λ (u, comes, past, to_u). let rest : IsWalk arcs (begin_event u) walk (begin_event t) = subst (λ e. IsWalk arcs e walk (begin_event t)) to_u next.2 in
      let kept : tasks_of n (a ∷ b ∷ walk) ≡ a ∷ tasks_of n walk =
      filter-yes (λ x. nat_lt x n) a (b ∷ walk) (is_task a (omega arith)) ∙ ap (λ tasks. a ∷ tasks) (filter-no (λ x. nat_lt x n) b walk (is_link b past)) in
      let goes : IsTaskWalk afters s (a ∷ tasks_of n walk) t = (same, u, comes, read_walk u t walk below rest) in
      subst (λ tasks. IsTaskWalk afters s tasks t) (sym kept) goes)
      (λ to_last. absurd (ends walk (subst (λ e. IsWalk arcs e walk (begin_event t)) to_last next.2)))
      (from_end b s next.0 (next.1 ∙ to))
    where
      ends : (walk : List ℕ) → IsWalk arcs (last_event n) walk (begin_event t) → ⊥
      ends [] walked = omega (arith, walked)
      ends (c ∷ walk) walked = none_from_last c walked.0 walked.1

  -- and such tasks are those of a walk
  pub draw_walk : (s t : ℕ) (tasks : List ℕ) → IsTaskWalk afters s tasks t → (walk : List ℕ) × IsWalk arcs (begin_event s) walk (begin_event t) × (tasks_of n walk ≡ tasks)
  draw_walk s t [] same = ([], ap begin_event same, refl)
  draw_walk s t (v ∷ tasks) (is, u, (j, known, task_is, before_is), rest) =
      let (walk, walked, of) = draw_walk u t tasks rest in
      let below : s < n = omega (arith, among.before j known, before_is) in
      let link : ℕ = n + j in
      let from_link : from_of arcs link ≡ to_of arcs s = ap (λ arc. arc.from) (at_after j known) ∙ (ap end_event before_is ∙ sym (ap (λ arc. arc.to) (at_task s below))) in
      let to_link : to_of arcs link ≡ begin_event u = ap (λ arc. arc.to) (at_after j known) ∙ ap begin_event task_is in
      let kept : tasks_of n (s ∷ link ∷ walk) ≡ s ∷ tasks_of n walk =
      filter-yes (λ x. nat_lt x n) s (link ∷ walk) (is_task s below) ∙ ap (λ kept. s ∷ kept) (filter-no (λ x. nat_lt x n) link walk (is_link link (omega arith))) in (
        s ∷ link ∷ walk,
        (
          omega (arith, length-joined),
          ap (λ arc. arc.from) (at_task s below),
          (omega (arith, length-joined), from_link, subst (λ e. IsWalk arcs e walk (begin_event t)) (sym to_link) walked),
        ),
        kept ∙ (ap (λ kept. s ∷ kept) of ∙ ap (λ first. first ∷ tasks) (sym is)),
      )
