-- The arrows of tasks that do not wait for each other in a circle are a sound network.
use Rattle.std.proofs.Common.{◌≡◌, ℕ, zero, suc, ◌+◌, ◌*◌, ◌<◌, ◌≤◌, ◌==◌, ⊎_elim, true, false, List, [], ◌∷◌, ◌++◌, length, slice_index_or, refl, sym, ◌∙◌, ap, subst, arith}
use Rattle.std.specs.Prelude.{not}
use Rattle.std.specs.List.{range_with_len}
use Rattle.std.proofs.lemmas.Bool.{cases_Bool, eqb-true}
use Rattle.std.proofs.lemmas.List.{get_or_default, length-append}
use Rattle.std.proofs.lemmas.List.Folds.{Any-from_list_any}
use Rattle.pc_model.specs.declared.Arc.{Arc}
use Rattle.pc_model.specs.Walk.{arc_at, from_of, to_of, IsWalk, IsCycle}
use Rattle.pc_model.specs.Network.{Network, IsSound}
use Rattle.pc_model.proofs.Walks.WalkLaws.{IsWalk-append, IsWalk-push}
use Rattle.pc_model.proofs.Walks.CycleLaws.{long_walk_has_cycle}
use Rattle.pc_project.specs.declared.placed.AfterRow.{AfterRow}
use Rattle.pc_tasks.specs.network.Tasks.{after_at, AreAmong}
use Rattle.pc_tasks.specs.network.Arrows.{begin_event, end_event, last_event, task_arc, first_arc, last_arc, comes_after, comes_before, firsts, lasts, arrows}
use Rattle.pc_tasks.specs.network.Cycles.{ComesAfter, HasNoTaskCycle}
use Rattle.pc_tasks.proofs.lemmas.network.Kept.{stands_kept}
use Rattle.pc_tasks.proofs.lemmas.network.Joined as joined
use Rattle.pc_tasks.proofs.lemmas.network.Cycles.{read_cycle}
use Rattle.pc_tasks.proofs.lemmas.network.Outer.{IsEvent, event_of, ends, stands_in_range, first_stands, last_stands, narrow_outer, joined_in_range, nothing_enters, nothing_leaves}
use Rattle.pc_tasks.proofs.lemmas.network.Outer.IsEvent.{at_start, at_begin, at_end, at_last}

-- a row by any value past the end
row_at : (afters : List AfterRow) (j : ℕ) (row : AfterRow) → j < length afters → slice_index_or afters j row ≡ row → after_at afters j ≡ row
row_at afters j row inside is = get_or_default afters j (record { task = 0; before = 0 }) row inside ∙ is

-- what a test finds is a row
pub some_before : (afters : List AfterRow) (i : ℕ) → comes_after afters i ≡ true → (s : ℕ) × ComesAfter afters i s
some_before afters i found =
    let (j, row, inside, is, passes) = Any-from_list_any (λ after. after.task == i) afters found in
    let at = row_at afters j row inside is in
    (row.before, (j, inside, ap (λ after. after.task) at ∙ eqb-true row.task i passes, ap (λ after. after.before) at))

pub some_after : (afters : List AfterRow) (i : ℕ) → comes_before afters i ≡ true → (u : ℕ) × ComesAfter afters u i
some_after afters i found =
    let (j, row, inside, is, passes) = Any-from_list_any (λ after. after.before == i) afters found in
    let at = row_at afters j row inside is in
    (row.task, (j, inside, ap (λ after. after.task) at, ap (λ after. after.before) at ∙ eqb-true row.before i passes))

module _ (n : ℕ) (afters : List AfterRow) (among : AreAmong n afters) (some : 0 < n) (acyclic : HasNoTaskCycle afters) where
  abbrev more : List Arc
  more = ends n (firsts n afters) (lasts n afters)

  abbrev net : Network
  net = arrows n afters

  no_cycle : (walk : List ℕ) → IsCycle (arrows n afters).arcs walk → ⊥
  no_cycle walk cycle = let (tasks, round) = read_cycle n afters among more (narrow_outer n afters) walk cycle in acyclic tasks round

  -- the activities that are walked
  task_at : (i : ℕ) → i < n → (i < length (arrows n afters).arcs) × (arc_at (arrows n afters).arcs i ≡ task_arc i)
  task_at i inside = (omega (arith, joined.length-joined n afters among more (narrow_outer n afters)), joined.at_task n afters among more (narrow_outer n afters) i inside)

  link_at : (u s : ℕ) → ComesAfter afters u s →
      (a : ℕ) × (a < length (arrows n afters).arcs) × (from_of (arrows n afters).arcs a ≡ end_event s)
      × (to_of (arrows n afters).arcs a ≡ begin_event u) × (s < n) × (u < n)
  link_at u s (j, inside, task_is, before_is) =
      let at = joined.at_after n afters among more (narrow_outer n afters) j inside in (
        n + j,
        omega (arith, joined.length-joined n afters among more (narrow_outer n afters)),
        ap (λ arc. arc.from) at ∙ ap end_event before_is,
        ap (λ arc. arc.to) at ∙ ap begin_event task_is,
        omega (arith, among.before j inside, before_is),
        omega (arith, among.task j inside, task_is),
      )

  first_at : (i : ℕ) → i < n → comes_after afters i ≡ false → (a : ℕ) × (a < length (arrows n afters).arcs) × (arc_at (arrows n afters).arcs a ≡ first_arc i)
  first_at i inside none =
      let stands = stands_kept (λ k. not (comes_after afters k)) (range_with_len 0 n) i (stands_in_range n i inside) (ap not none) in
      let (k, known, is) = first_stands n (firsts n afters) (lasts n afters) i stands in (
        n + (length afters + k),
        omega (arith, joined.length-joined n afters among more (narrow_outer n afters)),
        joined.at_more n afters among more (narrow_outer n afters) k known ∙ is,
      )

  last_at : (i : ℕ) → i < n → comes_before afters i ≡ false → (a : ℕ) × (a < length (arrows n afters).arcs) × (arc_at (arrows n afters).arcs a ≡ last_arc n i)
  last_at i inside none =
      let stands = stands_kept (λ k. not (comes_before afters k)) (range_with_len 0 n) i (stands_in_range n i inside) (ap not none) in
      let (k, known, is) = last_stands n (firsts n afters) (lasts n afters) i stands in (
        n + (length afters + k),
        omega (arith, joined.length-joined n afters among more (narrow_outer n afters)),
        joined.at_more n afters among more (narrow_outer n afters) k known ∙ is,
      )

  -- a way from the start to where a task begins, or as long a walk as one wants that ends there
  data Back (i length_wanted : ℕ) : Type 0 where
    reached : (walk : List ℕ) → IsWalk (arrows n afters).arcs 0 walk (begin_event i) → Back i length_wanted
    longer : (s : ℕ) (walk : List ℕ) → s < n → IsWalk (arrows n afters).arcs (begin_event s) walk (begin_event i) → length_wanted ≤ length walk → Back i length_wanted

  back : (wanted i : ℕ) → i < n → Back i wanted
  back zero i inside = longer i [] inside refl (omega arith)
  back (suc wanted) i inside = on (back wanted i inside)
    where
      on : Back i wanted → Back i (suc wanted)
      on (reached walk walked) = reached walk walked
      on (longer s walk known walked long) =
          ⊎_elim
          (λ after. let (b, comes) = some_before afters s after in
          let (a, below, from, to, b_in, s_in) = link_at s b comes in
          let (task_in, task_is) = task_at b b_in in
          let joins : from_of net.arcs a ≡ to_of net.arcs b = from ∙ sym (ap (λ arc. arc.to) task_is) in
          longer b (b ∷ a ∷ walk) b_in (task_in, ap (λ arc. arc.from) task_is, (below, joins, subst (λ e. IsWalk net.arcs e walk (begin_event i)) (sym to) walked)) (omega (arith, long)))
          (λ none. let (a, below, is) = first_at s known none in
          reached (a ∷ walk) (below, ap (λ arc. arc.from) is, subst (λ e. IsWalk net.arcs e walk (begin_event i)) (sym (ap (λ arc. arc.to) is)) walked))
          (cases_Bool (comes_after afters s))

  from_start : (i : ℕ) → i < n → (walk : List ℕ) × IsWalk (arrows n afters).arcs 0 walk (begin_event i)
  from_start i inside = of (back (2 * n + 2) i inside)
    where
      of : Back i (2 * n + 2) → (walk : List ℕ) × IsWalk (arrows n afters).arcs 0 walk (begin_event i)
      of (reached walk walked) = (walk, walked)
      of (longer s walk known walked long) =
          let (cycle, round) = long_walk_has_cycle net (joined_in_range n afters among more (narrow_outer n afters)) (begin_event s) (begin_event i) walk walked (omega arith) long in
          absurd (no_cycle cycle round)

  -- and a way from where a task ends to the end, or a walk as long that begins there
  data Forth (i length_wanted : ℕ) : Type 0 where
    reaches : (walk : List ℕ) → IsWalk (arrows n afters).arcs (end_event i) walk (last_event n) → Forth i length_wanted
    further : (s : ℕ) (walk : List ℕ) → s < n → IsWalk (arrows n afters).arcs (end_event i) walk (end_event s) → length_wanted ≤ length walk → Forth i length_wanted

  forth : (wanted i : ℕ) → i < n → Forth i wanted
  forth zero i inside = further i [] inside refl (omega arith)
  forth (suc wanted) i inside = on (forth wanted i inside)
    where
      on : Forth i wanted → Forth i (suc wanted)
      on (reaches walk walked) = reaches walk walked
      on (further s walk known walked long) =
          ⊎_elim
          (λ before. let (u, comes) = some_after afters s before in
          let (a, below, from, to, s_in, u_in) = link_at u s comes in
          let (task_in, task_is) = task_at u u_in in
          let joins : from_of net.arcs u ≡ to_of net.arcs a = ap (λ arc. arc.from) task_is ∙ sym to in
          further u (walk ++ a ∷ u ∷ []) u_in
          (IsWalk-append net.arcs (end_event i) (end_event s) (end_event u) walk (a ∷ u ∷ []) walked (below, from, (task_in, joins, ap (λ arc. arc.to) task_is)))
          (omega (arith, long, length-append walk (a ∷ u ∷ []))))
          (λ none. let (a, below, is) = last_at s known none in
          reaches (walk ++ a ∷ [])
          (IsWalk-append net.arcs (end_event i) (end_event s) (last_event n) walk (a ∷ []) walked (below, ap (λ arc. arc.from) is, ap (λ arc. arc.to) is)))
          (cases_Bool (comes_before afters s))

  pub to_end : (i : ℕ) → i < n → (walk : List ℕ) × IsWalk (arrows n afters).arcs (end_event i) walk (last_event n)
  to_end i inside = of (forth (2 * n + 2) i inside)
    where
      of : Forth i (2 * n + 2) → (walk : List ℕ) × IsWalk (arrows n afters).arcs (end_event i) walk (last_event n)
      of (reaches walk walked) = (walk, walked)
      of (further s walk known walked long) =
          let (cycle, round) = long_walk_has_cycle net (joined_in_range n afters among more (narrow_outer n afters)) (end_event i) (end_event s) walk walked (omega arith) long in
          absurd (no_cycle cycle round)

  to_its_end : (i : ℕ) → i < n → (walk : List ℕ) × IsWalk (arrows n afters).arcs 0 walk (end_event i)
  to_its_end i inside =
      let (walk, walked) = from_start i inside in
      let (below, is) = task_at i inside in
      (walk ++ i ∷ [], subst (λ e. IsWalk net.arcs 0 (walk ++ i ∷ []) e) (ap (λ arc. arc.to) is) (IsWalk-push net.arcs 0 (begin_event i) walk i walked below (ap (λ arc. arc.from) is)))

  from_its_begin : (i : ℕ) → i < n → (walk : List ℕ) × IsWalk (arrows n afters).arcs (begin_event i) walk (last_event n)
  from_its_begin i inside =
      let (walk, walked) = to_end i inside in
      let (below, is) = task_at i inside in
      (i ∷ walk, (below, ap (λ arc. arc.from) is, subst (λ e. IsWalk net.arcs e walk (last_event n)) (sym (ap (λ arc. arc.to) is)) walked))

  through : (walk : List ℕ) × IsWalk (arrows n afters).arcs 0 walk (last_event n)
  through =
      let (front, to_begin) = from_start 0 some in
      let (rest, to_last) = from_its_begin 0 some in
      (front ++ rest, IsWalk-append net.arcs 0 (begin_event 0) (last_event n) front rest to_begin to_last)

  way_to : (e : ℕ) → IsEvent n e → (walk : List ℕ) × IsWalk (arrows n afters).arcs 0 walk e
  way_to e (at_start is) = ([], sym is)
  way_to e (at_begin i known is) = let (walk, walked) = from_start i known in (walk, subst (λ x. IsWalk net.arcs 0 walk x) (sym is) walked)
  way_to e (at_end i known is) = let (walk, walked) = to_its_end i known in (walk, subst (λ x. IsWalk net.arcs 0 walk x) (sym is) walked)
  way_to e (at_last is) = let (walk, walked) = through in (walk, subst (λ x. IsWalk net.arcs 0 walk x) (sym is) walked)

  way_from : (e : ℕ) → IsEvent n e → (walk : List ℕ) × IsWalk (arrows n afters).arcs e walk (last_event n)
  way_from e (at_start is) = let (walk, walked) = through in (walk, subst (λ x. IsWalk net.arcs x walk (last_event n)) (sym is) walked)
  way_from e (at_begin i known is) = let (walk, walked) = from_its_begin i known in (walk, subst (λ x. IsWalk net.arcs x walk (last_event n)) (sym is) walked)
  way_from e (at_end i known is) = let (walk, walked) = to_end i known in (walk, subst (λ x. IsWalk net.arcs x walk (last_event n)) (sym is) walked)
  way_from e (at_last is) = ([], is)

  pub arrows_are_sound : IsSound (arrows n afters)
  arrows_are_sound = record {
    not_entered = nothing_enters n afters among more (narrow_outer n afters);
    not_left = nothing_leaves n afters among more (narrow_outer n afters);
    reached = λ e inside. way_to e (event_of n e inside);
    reaches = λ e inside. way_from e (event_of n e inside);
    no_cycle = no_cycle;
  }
