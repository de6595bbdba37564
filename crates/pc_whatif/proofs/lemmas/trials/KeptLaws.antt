-- What a session's region keeps when numbers in its spans change.
use Rattle.std.proofs.Common.{◌≡◌, ℕ, ◌<◌, ◌≤◌, List, length, set, sym, ◌∙◌, ap, subst, arith}
use Rattle.std.specs.Prelude.{Some, unwrap_or}
use Rattle.std.proofs.lemmas.List.{length-set}
use Rattle.pc_cells.specs.Spans.{Cells}
use Rattle.pc_cells.specs.inside.Spans.{free_of, with_span}
use Rattle.pc_model.specs.Network.{Network}
use Rattle.pc_model.specs.declared.limits.TheConstants.{MAX_VARIANCE}
use Rattle.pc_times.specs.declared.TheConstants.{MAX_ACTIVITY_LENGTH}
use Rattle.pc_whatif.specs.declared.trials.SessionRegion.TheInside.{Inside}
use Rattle.pc_whatif.specs.declared.trials.Spans.{Spans}
use Rattle.pc_whatif.specs.inside.trials.SessionRegion.{SessionRegion}
use Rattle.pc_whatif.specs.inside.trials.Laid.{AreAtMost, AreRenewed, IsLaidIn, IsSoundRegion, kept_in, span_list, region_of, no_region}
use Rattle.pc_whatif.proofs.lemmas.trials.LaidLaws.{IsPut, put, small-set}

-- two numbers are set
abbrev pub with_numbers : SessionRegion → ℕ → ℕ → ℕ → SessionRegion
with_numbers r a x v = record r { expected = set r.expected a x; variances = set r.variances a v }

-- the region that was found in the fields is theirs
pub region-found : (r : Inside) (region : Cells) → r.region ≡ Some region → region_of r ≡ region
region-found r region is = ap (λ o. unwrap_or o no_region) is

-- the times are renewed
pub renewed-whole : (net : Network) (spans : Spans) (old new : Cells) (before path_len : ℕ) → IsSoundRegion (kept_in old before) → AreRenewed net spans old new path_len
    → IsSoundRegion (kept_in new path_len)
renewed-whole net spans old new before path_len whole renewed = record {
  variances = ap length renewed.variances ∙ whole.variances ∙ sym (ap length renewed.expected);
  tails = renewed.tails.one_each ∙ sym renewed.early.one_each;
  path_cells = renewed.path_cells ∙ sym renewed.early.one_each;
  path_len = omega (arith, renewed.short, renewed.path_cells);
  small_expected = subst (AreAtMost MAX_ACTIVITY_LENGTH) (sym renewed.expected) whole.small_expected;
  small_variances = subst (AreAtMost MAX_VARIANCE) (sym renewed.variances) whole.small_variances;
  small_early = renewed.small_early;
  small_tails = renewed.small_tails;
}

-- an expected time and a variance of activity a are set, one after the other
pub record AreSet (spans : Spans) (r0 r1 r2 : Cells) (a x v : ℕ) : Type 0 where
  pub laid : IsLaidIn r0 spans
  pub expected : r1 ≡ with_span r0 0 (set (span_list r0 0) a x)
  pub variance : r2 ≡ with_span r1 1 (set (span_list r1 1) a v)

-- the first
module _ (spans : Spans) (r0 r1 : Cells) (a x : ℕ) (laid : IsLaidIn r0 spans) (written : r1 ≡ with_span r0 0 (set (span_list r0 0) a x)) where
  first : IsPut r0 r1 0 (set (span_list r0 0) a x)
  first = put r0 r1 0 (set (span_list r0 0) a x) written (omega (arith, laid.count)) (length-set (span_list r0 0) a x)

  pub laid-set : IsLaidIn r1 spans
  laid-set = first.laid spans laid

-- and the other
module _ (spans : Spans) (r0 r1 r2 : Cells) (a x v : ℕ) (are : AreSet spans r0 r1 r2 a x v) where
  begun : IsPut r0 r1 0 (set (span_list r0 0) a x)
  begun = first spans r0 r1 a x are.laid are.expected

  laid-begun : IsLaidIn r1 spans
  laid-begun = laid-set spans r0 r1 a x are.laid are.expected

  second : IsPut r1 r2 1 (set (span_list r1 1) a v)
  second = put r1 r2 1 (set (span_list r1 1) a v) are.variance (omega (arith, laid-begun.count)) (length-set (span_list r1 1) a v)

  pub laid-both : IsLaidIn r2 spans
  laid-both = second.laid spans laid-begun

  expected : span_list r2 0 ≡ set (span_list r0 0) a x
  expected = second.off 0 (λ e. omega (arith, e)) ∙ begun.at

  variances : span_list r2 1 ≡ set (span_list r0 1) a v
  variances = second.at ∙ ap (λ ys. set ys a v) (begun.off 1 (λ e. omega (arith, e)))

  early : span_list r2 2 ≡ span_list r0 2
  early = second.off 2 (λ e. omega (arith, e)) ∙ begun.off 2 (λ e. omega (arith, e))

  tails : span_list r2 3 ≡ span_list r0 3
  tails = second.off 3 (λ e. omega (arith, e)) ∙ begun.off 3 (λ e. omega (arith, e))

  path_cells : span_list r2 4 ≡ span_list r0 4
  path_cells = second.off 4 (λ e. omega (arith, e)) ∙ begun.off 4 (λ e. omega (arith, e))

  abbrev made : List ℕ → List ℕ → List ℕ → List ℕ → List ℕ → ℕ → ℕ → SessionRegion
  made e f t u p n free = record { expected = e; variances = f; early = t; tails = u; path_cells = p; path_len = n; free = free }

  -- nothing else changes
  pub kept-both : (path_len : ℕ) → kept_in r2 path_len ≡ with_numbers (kept_in r0 path_len) a x v
  kept-both path_len =
      ap (λ e. made e (span_list r2 1) (span_list r2 2) (span_list r2 3) (span_list r2 4) path_len (free_of r2)) expected
      ∙ ap (λ f. made (set (span_list r0 0) a x) f (span_list r2 2) (span_list r2 3) (span_list r2 4) path_len (free_of r2)) variances
      ∙ ap (λ t. made (set (span_list r0 0) a x) (set (span_list r0 1) a v) t (span_list r2 3) (span_list r2 4) path_len (free_of r2)) early
      ∙ ap (λ u. made (set (span_list r0 0) a x) (set (span_list r0 1) a v) (span_list r0 2) u (span_list r2 4) path_len (free_of r2)) tails
      ∙ ap (λ p. made (set (span_list r0 0) a x) (set (span_list r0 1) a v) (span_list r0 2) (span_list r0 3) p path_len (free_of r2)) path_cells
      ∙ ap (λ free. made (set (span_list r0 0) a x) (set (span_list r0 1) a v) (span_list r0 2) (span_list r0 3) (span_list r0 4) path_len free) (second.free ∙ begun.free)

  pub early-both : length (span_list r2 2) ≡ length (span_list r0 2)
  early-both = ap length early

  -- it is sound, if neither number is too great
  pub whole-both : (path_len : ℕ) → IsSoundRegion (kept_in r0 path_len) → a < length (span_list r0 0) → x ≤ MAX_ACTIVITY_LENGTH → v ≤ MAX_VARIANCE → IsSoundRegion (kept_in r2 path_len)
  whole-both path_len whole known small gentle =
      let same : IsSoundRegion (with_numbers (kept_in r0 path_len) a x v) = record {
        variances = length-set (span_list r0 1) a v ∙ whole.variances ∙ sym (length-set (span_list r0 0) a x);
        tails = whole.tails;
        path_cells = whole.path_cells;
        path_len = whole.path_len;
        small_expected = small-set MAX_ACTIVITY_LENGTH (span_list r0 0) a x known small whole.small_expected;
        small_variances = small-set MAX_VARIANCE (span_list r0 1) a v (omega (arith, known, whole.variances)) gentle whole.small_variances;
        small_early = whole.small_early;
        small_tails = whole.small_tails;
      } in
      subst IsSoundRegion (sym (kept-both path_len)) same
