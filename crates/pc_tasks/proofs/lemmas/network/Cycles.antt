-- The cycles of arrows are those of the tasks.
use Rattle.std.proofs.Common.{◌≡◌, ℕ, ◌<◌, ◌≤◌, ◌⊎◌, inl, inr, ⊎_elim, List, [], ◌∷◌, ◌++◌, length, slice_index, refl, sym, ◌∙◌, ap, subst, arith}
use Rattle.std.specs.Prelude.{All, nat_lt}
use Rattle.std.proofs.lemmas.Bool.{lt-ltb}
use Rattle.pc_model.specs.declared.Arc.{Arc}
use Rattle.pc_model.specs.Greatest.{StandsBelow}
use Rattle.pc_model.specs.Walk.{from_of, to_of, IsWalk, IsCycle}
use Rattle.pc_model.proofs.Walks.WalkLaws.{last_of_walk, IsWalk-push}
use Rattle.pc_net.specs.Cycles.{LiesOnCycle, IsFirstCycle}
use Rattle.pc_project.specs.declared.placed.AfterRow.{AfterRow}
use Rattle.pc_tasks.specs.network.Tasks.{after_at, AreAmong}
use Rattle.pc_tasks.specs.network.Arrows.{begin_event, end_event, last_event, tasks_of}
use Rattle.pc_tasks.specs.network.Cycles.{IsTaskCycle, LiesOnTaskCycle, IsFirstTaskCycle}
use Rattle.pc_tasks.proofs.lemmas.network.Kept.{filter-yes, kept_stands, AreOnce, AreOnce-filter}
use Rattle.pc_tasks.proofs.lemmas.network.Joined as joined

module _ (n : ℕ) (afters : List AfterRow) (among : AreAmong n afters) (more : List Arc) (outer : All (joined.IsOuter n) more) where
  abbrev arcs : List Arc
  arcs = joined.arcs n afters among more outer

  -- a cycle begins with a task, or with a link to the beginning of a task that comes next in it
  data Begins (a : ℕ) (walk : List ℕ) : Type 0 where
    by_task : a < n → Begins a walk
    by_link : n ≤ a → (u : ℕ) → u < n → (rest : List ℕ) → walk ≡ u ∷ rest → to_of arcs a ≡ begin_event u → Begins a walk

  first_of_cycle : (e a : ℕ) (walk : List ℕ) → IsWalk arcs e (a ∷ walk) e → Begins a walk
  first_of_cycle e a walk walked = of (joined.one_of n afters among more outer a walked.0)
    where
      none_back : (e : ℕ) (walk : List ℕ) → IsWalk arcs e (a ∷ walk) 0 → ⊥
      none_back e walk walked =
          elim (last_of_walk arcs e 0 (a ∷ walk) walked) [
            | inl stays ↦ cc
            | inr last ↦ joined.none_to_start n afters among more outer last.1 last.3 last.5
          ]

      next : (walk : List ℕ) (u : ℕ) → n ≤ a → (e ≡ 0 → ⊥) → ((e ≡ 0) ⊎ ((s : ℕ) × (e ≡ end_event s))) → to_of arcs a ≡ begin_event u → IsWalk arcs (to_of arcs a) walk e → Begins a walk
      next [] u past not_zero ends to goes = absurd (⊎_elim (λ z. not_zero z) (λ (s, is). omega (arith, goes, to, is)) ends)
      next (b ∷ walk) u past not_zero ends to goes =
          let (same, known, at) = joined.from_begin n afters among more outer b u goes.0 (goes.1 ∙ to) in
          by_link past u known walk (ap (λ first. first ∷ walk) same) to

      last_goes : (walk : List ℕ) → to_of arcs a ≡ last_event n → ((i : ℕ) × (i < n) × (from_of arcs a ≡ end_event i)) → from_of arcs a ≡ e → IsWalk arcs (to_of arcs a) walk e → ⊥
      last_goes [] to (i, known, from_is) from goes = omega (arith, goes, to, from_is, from)
      last_goes (b ∷ walk) to i from goes = joined.none_from_last n afters among more outer b goes.0 (goes.1 ∙ to)

      of : joined.IsOne n afters among more outer a → Begins a walk
      of (joined.task first is) = by_task first
      of (joined.after j known at is) =
          next walk (after_at afters j).task (omega arith) (λ z. omega (arith, z, walked.1, ap (λ arc. arc.from) is))
          (inr ((after_at afters j).before, sym walked.1 ∙ ap (λ arc. arc.from) is)) (ap (λ arc. arc.to) is) walked.2
      of (joined.other beyond (inl (zero_is, rest))) =
          absurd (none_back e walk (subst (λ f. IsWalk arcs e (a ∷ walk) f) (sym walked.1 ∙ zero_is) walked))
      of (joined.other beyond (inr (to_is, rest))) = absurd (last_goes walk to_is rest walked.1 walked.2)

  -- a cycle of arrows that begins with a task passes a cycle of tasks
  from_task : (e a : ℕ) (walk : List ℕ) → a < n → IsWalk arcs e (a ∷ walk) e → IsTaskCycle afters (tasks_of n (a ∷ walk))
  from_task e a walk first walked =
      let at : e ≡ begin_event a = sym walked.1 ∙ ap (λ arc. arc.from) (joined.at_task n afters among more outer a first) in
      let round : IsWalk arcs (begin_event a) (a ∷ walk) (begin_event a) = subst (λ x. IsWalk arcs x (a ∷ walk) x) at walked in
      ((λ none. absurd (some none)), (a, joined.read_walk n afters among more outer a a (a ∷ walk) first round))
    where
      some : tasks_of n (a ∷ walk) ≡ [] → ⊥
      some none = cc (sym (filter-yes (λ x. nat_lt x n) a walk (lt-ltb a n first)) ∙ none)

  -- where the arrows have a cycle, the tasks have one
  pub read_cycle : (walk : List ℕ) → IsCycle arcs walk → (tasks : List ℕ) × IsTaskCycle afters tasks
  read_cycle [] cycle = absurd (cycle.0 refl)
  read_cycle (a ∷ walk) (some, (e, walked)) = of (first_of_cycle e a walk walked)
    where
      of : Begins a walk → (tasks : List ℕ) × IsTaskCycle afters tasks
      of (by_task first) = (tasks_of n (a ∷ walk), from_task e a walk first walked)
      of (by_link past u known rest is to) =
          let on : IsWalk arcs (begin_event u) (u ∷ rest) e = subst (λ w. IsWalk arcs (begin_event u) w e) is (subst (λ x. IsWalk arcs x walk e) to walked.2) in
          let round : IsWalk arcs (begin_event u) ((u ∷ rest) ++ a ∷ []) (begin_event u) =
          subst (λ x. IsWalk arcs (begin_event u) ((u ∷ rest) ++ a ∷ []) x) to (IsWalk-push arcs (begin_event u) e (u ∷ rest) a on walked.0 walked.1) in
          (tasks_of n (u ∷ (rest ++ a ∷ [])), from_task (begin_event u) u (rest ++ a ∷ []) known round)

  -- and a task on a cycle of tasks is an activity on one of arrows
  pub draw_cycle : (tasks : List ℕ) → IsTaskCycle afters tasks → (walk : List ℕ) × IsCycle arcs walk × (tasks_of n walk ≡ tasks)
  draw_cycle tasks (some, (s, goes)) =
      let (walk, walked, of) = joined.draw_walk n afters among more outer s s tasks goes in
      (walk, ((λ none. some (sym of ∙ ap (tasks_of n) none)), (begin_event s, walked)), of)

  draw_lies : (i : ℕ) → LiesOnTaskCycle afters i → LiesOnCycle arcs i
  draw_lies i (tasks, cycle, stands) =
      let (walk, round, of) = draw_cycle tasks cycle in
      (walk, round, kept_stands (λ a. nat_lt a n) walk i (subst (λ kept. StandsBelow kept (length kept) i) (sym of) stands))

  -- the first cycle of the arrows passes the first cycle of the tasks
  pub read_first_cycle : (walk : List ℕ) → IsFirstCycle arcs walk → IsFirstTaskCycle afters (tasks_of n walk)
  read_first_cycle [] found = absurd (found.cycle.0 refl)
  read_first_cycle (a ∷ walk) found = of (first_of_cycle e a walk walked)
    where
      e : ℕ
      e = found.cycle.1.0

      walked : IsWalk arcs e (a ∷ walk) e
      walked = found.cycle.1.1

      once : AreOnce (a ∷ walk)
      once j k before inside same = found.once j k before inside (ap (from_of arcs) same)

      by_first : a < n → IsFirstTaskCycle afters (tasks_of n (a ∷ walk))
      by_first first =
          let kept : tasks_of n (a ∷ walk) ≡ a ∷ tasks_of n walk = filter-yes (λ x. nat_lt x n) a walk (lt-ltb a n first) in
          let front : slice_index (tasks_of n (a ∷ walk)) 0 ≡ a = ap (λ tasks. slice_index tasks 0) kept in
          let cycle = from_task e a walk first walked in
          record {
            cycle = cycle;
            once = AreOnce-filter (λ x. nat_lt x n) (a ∷ walk) once;
            first = record {
              holds = (tasks_of n (a ∷ walk), cycle, (0, omega (arith, ap length kept), refl));
              first = λ b before lies. found.first.first b (omega (arith, front)) (draw_lies b lies);
            };
          }

      of : Begins a walk → IsFirstTaskCycle afters (tasks_of n (a ∷ walk))
      of (by_task first) = by_first first
      of (by_link past u known rest is to) =
          absurd (found.first.first u (omega arith) (a ∷ walk, found.cycle, (1, omega (arith, ap length is), ap (λ w. slice_index w 0) is)))
