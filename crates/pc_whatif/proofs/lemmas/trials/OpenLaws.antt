-- A session's region at its opening: spans of zeros, and the first two of them written.
use Rattle.std.proofs.Common.{◌≡◌, ℕ, ◌+◌, ◌-◌, ◌*◌, List, [], ◌∷◌, length, replicate, refl, sym, ◌∙◌, ap, subst, arith}
use Rattle.std.specs.Prelude.{sum_by}
use Rattle.std.proofs.lemmas.List.{get_or-replicate, length-replicate}
use Rattle.std.proofs.lemmas.List.Sums.{sum_by-cons}
use Rattle.pc_cells.specs.Spans.{Cells}
use Rattle.pc_cells.specs.inside.Spans.{free_of, with_span}
use Rattle.pc_model.specs.declared.limits.TheConstants.{MAX_VARIANCE}
use Rattle.pc_times.specs.declared.TheConstants.{MAX_ACTIVITY_LENGTH}
use Rattle.pc_whatif.specs.declared.trials.Spans.{Spans}
use Rattle.pc_whatif.specs.inside.trials.SessionRegion.{SessionRegion}
use Rattle.pc_whatif.specs.inside.trials.Laid.{AreAtMost, AreSpansTaken, IsLaidIn, IsSoundRegion, kept_in, span_list}
use Rattle.pc_whatif.proofs.lemmas.trials.LaidLaws.{IsPut, put}

-- this many numbers in all
sum-five : (m n : List ℕ) → sum_by length (m ∷ m ∷ n ∷ n ∷ n ∷ []) ≡ 2 * length m + 3 * length n
sum-five m n =
    omega (
      arith,
      sum_by-cons length m (m ∷ n ∷ n ∷ n ∷ []),
      sum_by-cons length m (n ∷ n ∷ n ∷ []),
      sum_by-cons length n (n ∷ n ∷ []),
      sum_by-cons length n (n ∷ []),
      sum_by-cons length n [],
    )

zeros-small : (n most : ℕ) → AreAtMost most (replicate n 0)
zeros-small n most i below =
    let size : length (replicate {A = ℕ} n 0) ≡ n = length-replicate n 0 in
    omega (arith, get_or-replicate {A = ℕ} n i 0 0 (omega (arith, below, size)))

-- these expected times and variances, zeros for each event, and this many free cells
abbrev pub opened : ℕ → List ℕ → List ℕ → ℕ → SessionRegion
opened events times squares cells = record {
  expected = times;
  variances = squares;
  early = replicate events 0;
  tails = replicate events 0;
  path_cells = replicate events 0;
  path_len = 0;
  free = cells;
}

-- the region r3, where the expected times and the variances are written
pub record IsOpened (events activities : ℕ) (spans : Spans) (r0 r3 : Cells) (times squares : List ℕ) : Type 0 where
  pub laid : IsLaidIn r3 spans
  pub kept : kept_in r3 0 ≡ opened events times squares (r0.capacity - (2 * activities + 3 * events))
  pub early : length (span_list r3 2) ≡ events
  pub whole : AreAtMost MAX_ACTIVITY_LENGTH times → AreAtMost MAX_VARIANCE squares → IsSoundRegion (kept_in r3 0)

module _ (events activities : ℕ) (spans : Spans) (r0 r1 r2 : Cells) (expected : List ℕ) (taken : AreSpansTaken r0 r1 events activities spans)
    (one_each : length expected ≡ activities) (written : r2 ≡ with_span r1 0 expected) where
  abbrev m : List ℕ
  m = replicate activities 0

  abbrev n : List ℕ
  n = replicate events 0

  list : (k : ℕ) → span_list r1 k ≡ span_list (record { capacity = r0.capacity; spans = m ∷ m ∷ n ∷ n ∷ n ∷ [] }) k
  list k = ap (λ (r : Cells). span_list r k) taken.region

  laid-1 : IsLaidIn r1 spans
  laid-1 = record { count = ap (λ (r : Cells). length r.spans) taken.region; live = taken.spans }

  first : IsPut r1 r2 0 expected
  first = put r1 r2 0 expected written (omega (arith, laid-1.count)) (one_each ∙ sym (ap length (list 0) ∙ length-replicate activities 0))

  pub laid-2 : IsLaidIn r2 spans
  laid-2 = first.laid spans laid-1

  module _ (r3 : Cells) (variances : List ℕ) (also_each : length variances ≡ activities) (also : r3 ≡ with_span r2 1 variances) where
    second : IsPut r2 r3 1 variances
    second =
        put r2 r3 1 variances also (omega (arith, laid-2.count))
        (also_each ∙ sym (ap length (first.off 1 (λ e. omega (arith, e)) ∙ list 1) ∙ length-replicate activities 0))

    laid-3 : IsLaidIn r3 spans
    laid-3 = second.laid spans laid-2

    free : free_of r3 ≡ r0.capacity - (2 * activities + 3 * events)
    free =
        second.free
        ∙ first.free
        ∙ ap free_of taken.region
        ∙ ap (λ s. r0.capacity - s) (sum-five m n)
        ∙ ap (λ k. r0.capacity - (2 * k + 3 * length n)) (length-replicate activities 0)
        ∙ ap (λ k. r0.capacity - (2 * activities + 3 * k)) (length-replicate events 0)

    abbrev made : List ℕ → List ℕ → List ℕ → List ℕ → List ℕ → ℕ → SessionRegion
    made e f t u p cells = record { expected = e; variances = f; early = t; tails = u; path_cells = p; path_len = 0; free = cells }

    expected-3 : span_list r3 0 ≡ expected
    expected-3 = second.off 0 (λ e. omega (arith, e)) ∙ first.at

    early-3 : span_list r3 2 ≡ n
    early-3 = second.off 2 (λ e. omega (arith, e)) ∙ first.off 2 (λ e. omega (arith, e)) ∙ list 2

    tails-3 : span_list r3 3 ≡ n
    tails-3 = second.off 3 (λ e. omega (arith, e)) ∙ first.off 3 (λ e. omega (arith, e)) ∙ list 3

    path_cells-3 : span_list r3 4 ≡ n
    path_cells-3 = second.off 4 (λ e. omega (arith, e)) ∙ first.off 4 (λ e. omega (arith, e)) ∙ list 4

    -- what is stored then
    kept-3 : kept_in r3 0 ≡ opened events expected variances (r0.capacity - (2 * activities + 3 * events))
    kept-3 =
        ap (λ e. made e (span_list r3 1) (span_list r3 2) (span_list r3 3) (span_list r3 4) (free_of r3)) expected-3
        ∙ ap (λ f. made expected f (span_list r3 2) (span_list r3 3) (span_list r3 4) (free_of r3)) second.at
        ∙ ap (λ t. made expected variances t (span_list r3 3) (span_list r3 4) (free_of r3)) early-3
        ∙ ap (λ u. made expected variances n u (span_list r3 4) (free_of r3)) tails-3
        ∙ ap (λ p. made expected variances n n p (free_of r3)) path_cells-3
        ∙ ap (λ cells. made expected variances n n n cells) free

    early-size : length (span_list r3 2) ≡ events
    early-size = ap length early-3 ∙ length-replicate events 0

    whole-3 : AreAtMost MAX_ACTIVITY_LENGTH expected → AreAtMost MAX_VARIANCE variances → IsSoundRegion (kept_in r3 0)
    whole-3 small gentle =
        let whole : IsSoundRegion (opened events expected variances (r0.capacity - (2 * activities + 3 * events))) = record {
          variances = also_each ∙ sym one_each;
          tails = refl;
          path_cells = refl;
          path_len = omega arith;
          small_expected = small;
          small_variances = gentle;
          small_early = zeros-small events _;
          small_tails = zeros-small events _;
        } in
        subst IsSoundRegion (sym kept-3) whole

    pub is-opened : IsOpened events activities spans r0 r3 expected variances
    is-opened = record { laid = laid-3; kept = kept-3; early = early-size; whole = whole-3 }
