-- That the arrows of tasks keep their schedules and their costs.
use Rattle.std.proofs.Common.{◌≡◌, ℕ, ◌+◌, ◌-◌, ◌*◌, ◌<◌, ◌≤◌, ◌==◌, ⊎_elim, List, [], ◌∷◌, ◌++◌, length, map, slice_index_or, refl, sym, ◌∙◌, ap, arith}
use Rattle.std.specs.Prelude.{All, not}
use Rattle.std.specs.List.{range_with_len}
use Rattle.std.proofs.lemmas.Bool.{cases_lt, ne_eqb, cond-false}
use Rattle.std.proofs.lemmas.List.Elements.{All-append, All-map, All-from_get_or, All-filter, All-head, All-tail}
use Rattle.std.proofs.lemmas.List.FromFn.{get_or-range_with_len, length-range_with_len}
use Rattle.pc_model.specs.declared.Arc.{Arc}
use Rattle.pc_model.specs.declared.Term.{Term}
use Rattle.pc_model.specs.declared.PieceRow.{PieceRow}
use Rattle.pc_model.specs.Sums.{sum_to}
use Rattle.pc_model.specs.Walk.{from_of, to_of}
use Rattle.pc_model.specs.Schedule.{IsSchedule}
use Rattle.pc_model.specs.Cost.{cost_of, activity_cost, IsLeastCost}
use Rattle.pc_model.specs.Pieces.{pieces_of, knees_of, rise_in, knee_in}
use Rattle.pc_model.proofs.Sums.{sum_to-same, sum_to-ends}
use Rattle.pc_model.proofs.Walks.WalkLaws.{times_bound_walk}
use Rattle.pc_project.specs.declared.placed.AfterRow.{AfterRow}
use Rattle.pc_tasks.specs.network.Cycles.{HasNoTaskCycle}
use Rattle.pc_tasks.specs.network.Tasks.{after_at, AreAmong, IsTaskSchedule, IsLeastTaskCost}
use Rattle.pc_tasks.specs.network.Arrows.{begin_event, end_event, last_event, after_arc, first_arc, last_arc, comes_before, firsts, lasts, links, arrows, arrow_terms, no_term}
use Rattle.pc_tasks.proofs.lemmas.network.EventTimes.{event_time, at_begin, at_end, at_last}
use Rattle.pc_tasks.proofs.lemmas.network.Sound.{to_end}
use Rattle.pc_tasks.proofs.lemmas.network.Drawing.{drawn, drawn-task, drawn-link, length-arcs, length-terms, length-links, arc-task, arc-link, arc-after, term-task, term-link}

-- pieces of tasks are none of a link's
pieces_of-none : (pieces : List PieceRow) (n a : ℕ) → n ≤ a → All (λ piece. piece.activity < n) pieces → pieces_of pieces a ≡ []
pieces_of-none [] n a past named = refl
pieces_of-none (piece ∷ pieces) n a past named =
    let here : piece.activity < n = All-head (λ piece. piece.activity < n) piece pieces named in
    cond-false (piece.activity == a) (piece ∷ pieces_of pieces a) (pieces_of pieces a) (ne_eqb piece.activity a (λ same. omega (arith, same, here, past)))
    ∙ pieces_of-none pieces n a past (All-tail (λ piece. piece.activity < n) piece pieces named)

module _ (terms : List Term) (afters : List AfterRow) (limit : ℕ) (among : AreAmong (length terms) afters) where
  abbrev n : ℕ
  n = length terms

  abbrev count : ℕ
  count = length (links (length terms) afters)

  -- a schedule of the tasks is one of the arrows
  module _ (durations begins : ℕ → ℕ) (is : IsTaskSchedule terms afters limit durations begins) where
    abbrev times : ℕ → ℕ
    times = event_time (length terms) limit begins durations

    abbrev Fits : Arc → Type 0
    Fits arc = times arc.from ≤ times arc.to

    after_fits : All Fits (map after_arc afters)
    after_fits =
        All-map Fits after_arc afters (All-from_get_or (λ after. Fits (after_arc after)) afters (record { task = 0; before = 0 })
        (λ j inside. omega (
          arith,
          is.follows j inside,
          at_end n limit begins durations (after_at afters j).before (among.before j inside),
          at_begin n limit begins durations (after_at afters j).task (among.task j inside),
        )))

    in_range : All (λ i. i < length terms) (range_with_len 0 (length terms))
    in_range =
        All-from_get_or (λ i. i < length terms) (range_with_len 0 n) 0
        (λ i inside. omega (arith, length-range_with_len 0 n, get_or-range_with_len 0 n i 0 (omega (arith, length-range_with_len 0 n))))

    first_fits : All Fits (map first_arc (firsts (length terms) afters))
    first_fits = All-map Fits first_arc (firsts n afters) (λ k d inside. omega arith)

    last_fits : All Fits (map (last_arc (length terms)) (lasts (length terms) afters))
    last_fits =
        All-map Fits (last_arc n) (lasts n afters) (All-filter (λ i. not (comes_before afters i)) (λ i. Fits (last_arc n i)) (range_with_len 0 n)
        (λ k d inside. let one : slice_index_or (range_with_len 0 n) k d < n = in_range k d inside in
        omega (
          arith,
          at_end n limit begins durations (slice_index_or (range_with_len 0 n) k d) one,
          at_last n limit begins durations,
          is.ends (slice_index_or (range_with_len 0 n) k d) one,
        )))

    links_fit : All Fits (links (length terms) afters)
    links_fit =
        All-append Fits (map after_arc afters) (map first_arc (firsts n afters) ++ map (last_arc n) (lasts n afters)) after_fits
        (All-append Fits (map first_arc (firsts n afters)) (map (last_arc n) (lasts n afters)) first_fits last_fits)

    fits : (a : ℕ) → a < length (arrows (length terms) afters).arcs →
        times (from_of (arrows (length terms) afters).arcs a) + drawn (length terms) durations a ≤ times (to_of (arrows (length terms) afters).arcs a)
    fits a inside =
        ⊎_elim
        (λ task. omega (
          arith,
          ap (λ arc. times arc.from) (arc-task n afters a task),
          ap (λ arc. times arc.to) (arc-task n afters a task),
          drawn-task n durations a task,
          at_begin n limit begins durations a task,
          at_end n limit begins durations a task,
        ))
        (λ link. let place : a - n < count = omega (arith, length-arcs n afters) in
        omega (
          arith,
          ap (λ arc. times arc.from) (arc-link n afters a link),
          ap (λ arc. times arc.to) (arc-link n afters a link),
          drawn-link n durations a link,
          links_fit (a - n) (record { from = 0; to = 0 }) place,
        ))
        (cases_lt a n)

    pub drawn_schedule : IsSchedule (arrows (length terms) afters) (arrow_terms terms afters) limit (drawn (length terms) durations) times
    drawn_schedule = record {
      enough = λ a inside. ⊎_elim
          (λ task. omega (arith, ap (λ term. term.crash) (term-task terms afters a task), drawn-task n durations a task, is.enough a task))
          (λ link. omega (arith, ap (λ term. term.crash) (term-link terms afters a link (omega (arith, length-arcs n afters, length-terms terms afters))))) (cases_lt a n);
      within = λ a inside. ⊎_elim
          (λ task. omega (arith, ap (λ term. term.normal) (term-task terms afters a task), drawn-task n durations a task, is.within a task))
          (λ link. omega (arith, drawn-link n durations a link)) (cases_lt a n);
      starts = refl;
      fits = fits;
      ends = omega (arith, at_last n limit begins durations);
    }

  -- and a schedule of the arrows one of the tasks
  pub read_schedule : HasNoTaskCycle afters → (durations times : ℕ → ℕ) →
      IsSchedule (arrows (length terms) afters) (arrow_terms terms afters) limit durations times →
      IsTaskSchedule terms afters limit durations (λ i. times (begin_event i))
  read_schedule acyclic durations times is = record {
    enough = λ i inside. omega (arith, ap (λ term. term.crash) (term-task terms afters i inside), is.enough i (below i inside));
    within = λ i inside. omega (arith, ap (λ term. term.normal) (term-task terms afters i inside), is.within i (below i inside));
    follows = λ j inside. omega (
      arith,
      spans (after_at afters j).before (among.before j inside),
      is.fits (n + j) (omega (arith, length-arcs n afters, length-links n afters)),
      ap (λ arc. times arc.from) (arc-after n afters j inside),
      ap (λ arc. times arc.to) (arc-after n afters j inside),
    );
    ends = λ i inside. omega (arith, spans i inside, reaches i inside, is.ends);
  }
    where
      below : (i : ℕ) → i < length terms → i < length (arrows (length terms) afters).arcs
      below i inside = omega (arith, length-arcs n afters)

      spans : (i : ℕ) → i < length terms → times (begin_event i) + durations i ≤ times (end_event i)
      spans i inside = omega (arith, is.fits i (below i inside), ap (λ arc. times arc.from) (arc-task n afters i inside), ap (λ arc. times arc.to) (arc-task n afters i inside))

      reaches : (i : ℕ) → i < length terms → times (end_event i) ≤ times (last_event (length terms))
      reaches i inside =
          let (walk, walked) = to_end n afters among (omega (arith, inside)) acyclic i inside in
          omega (arith, times_bound_walk (arrows n afters).arcs [] times (λ a known. omega (arith, is.fits a known)) (end_event i) (last_event n) walk walked)

  -- what durations cost is what those of the tasks cost
  module _ (pieces : List PieceRow) (named : All (λ piece. piece.activity < length terms) pieces) where
    pub same_cost : (durations : ℕ → ℕ) →
        cost_of (arrow_terms terms afters) (knees_of (arrow_terms terms afters) pieces) durations ≡ cost_of terms (knees_of terms pieces) durations
    same_cost durations =
        ap (λ m. sum_to m drawn_cost) (length-terms terms afters)
        ∙ (sum_to-ends (n + count) n drawn_cost (omega arith) (λ a past inside. free a past (omega (arith, length-terms terms afters)))
        ∙ sum_to-same n drawn_cost (λ a. activity_cost terms (knees_of terms pieces) a (durations a)) same)
      where
        drawn_cost : ℕ → ℕ
        drawn_cost a = activity_cost (arrow_terms terms afters) (knees_of (arrow_terms terms afters) pieces) a (durations a)

        priced : Term → List PieceRow → ℕ → ℕ
        priced term own d = term.cost + sum_to (length own + 1) (λ k. rise_in term own k * (knee_in term own k - d))

        same : (a : ℕ) → a < length terms → drawn_cost a ≡ activity_cost terms (knees_of terms pieces) a (durations a)
        same a inside = ap (λ term. priced term (pieces_of pieces a) (durations a)) (term-task terms afters a inside)

        nothing : (d : ℕ) → priced no_term [] d ≡ 0
        nothing d = omega arith

        free : (a : ℕ) → length terms ≤ a → a < length (arrow_terms terms afters) → drawn_cost a ≡ 0
        free a past inside =
            ap (λ term. priced term (pieces_of pieces a) (durations a)) (term-link terms afters a past inside)
            ∙ (ap (λ own. priced no_term own (durations a)) (pieces_of-none pieces n a past named) ∙ nothing (durations a))

    drawn_cost_of : (durations : ℕ → ℕ) → cost_of terms (knees_of terms pieces) (drawn (length terms) durations) ≡ cost_of terms (knees_of terms pieces) durations
    drawn_cost_of durations =
        sum_to-same n (λ a. activity_cost terms (knees_of terms pieces) a (drawn n durations a)) (λ a. activity_cost terms (knees_of terms pieces) a (durations a))
        (λ a inside. ap (activity_cost terms (knees_of terms pieces) a) (drawn-task n durations a inside))

    pub drawn_least : (cost : ℕ) → HasNoTaskCycle afters → IsLeastTaskCost terms (knees_of terms pieces) afters limit cost →
        IsLeastCost (arrows (length terms) afters) (arrow_terms terms afters) (knees_of (arrow_terms terms afters) pieces) limit cost
    drawn_least cost acyclic least = record {
      reached = let (durations, begins, is, costs) = least.reached in
          (drawn n durations, event_time n limit begins durations, drawn_schedule durations begins is, same_cost (drawn n durations) ∙ (drawn_cost_of durations ∙ costs));
      least = λ durations times is. omega (arith, same_cost durations, least.least durations (λ i. times (begin_event i)) (read_schedule acyclic durations times is));
    }

    pub read_least : (cost : ℕ) → HasNoTaskCycle afters →
        IsLeastCost (arrows (length terms) afters) (arrow_terms terms afters) (knees_of (arrow_terms terms afters) pieces) limit cost →
        IsLeastTaskCost terms (knees_of terms pieces) afters limit cost
    read_least cost acyclic least = record {
      reached = let (durations, times, is, costs) = least.reached in
          (durations, (λ i. times (begin_event i)), read_schedule acyclic durations times is, sym (same_cost durations) ∙ costs);
      least = λ durations begins is. omega (
        arith,
        same_cost (drawn n durations),
        drawn_cost_of durations,
        least.least (drawn n durations) (event_time n limit begins durations) (drawn_schedule durations begins is),
      );
    }
