-- What is in the spans of a session's region, and what one write changes.
use Rattle.std.proofs.Common.{◌≡◌, ◌≢◌, ℕ, zero, suc, ◌+◌, ◌-◌, ◌<◌, ◌≤◌, List, [], ◌∷◌, length, set, refl, sym, ◌∙◌, ap, subst, inl, inr, arith}
use Rattle.std.specs.Prelude.{sum_by, slice_index}
use Rattle.std.proofs.lemmas.List.{length-set, get_or-set_same, get_or-set_other}
use Rattle.std.proofs.lemmas.List.Sums.{sum_by-cons}
use Rattle.std.proofs.lemmas.Bool.{cases_eq}
use Rattle.pc_cells.specs.declared.region.Span.{Span}
use Rattle.pc_cells.specs.Spans.{Cells}
use Rattle.pc_cells.specs.inside.Spans.{span_at, with_span, free_of, IsSpan}
use Rattle.pc_cells.proofs.LiveLaws.{live-set}
use Rattle.pc_whatif.specs.declared.trials.Spans.{Spans}
use Rattle.pc_whatif.specs.inside.trials.Laid.{AreAtMost, IsLaidIn, span_list}

-- another list of its length in a span: all spans are together as long as before
sum-set : (spans : List (List ℕ)) (k : ℕ) (xs : List ℕ) → length xs ≡ length (span_at spans k) → sum_by length (set spans k xs) ≡ sum_by length spans
sum-set [] k xs size = refl
sum-set (s ∷ spans) zero xs size = sum_by-cons length xs spans ∙ ap (λ n. n + sum_by length spans) size ∙ sym (sum_by-cons length s spans)
sum-set (s ∷ spans) (suc k) xs size =
    sum_by-cons length s (set spans k xs) ∙ ap (λ n. length s + n) (sum-set spans k xs size) ∙ sym (sum_by-cons length s spans)

-- the new region has xs in its k-th span, and all else is as it was
pub record IsPut (old new : Cells) (k : ℕ) (xs : List ℕ) : Type 0 where
  pub at : span_list new k ≡ xs
  pub off : (j : ℕ) → j ≢ k → span_list new j ≡ span_list old j
  pub free : free_of new ≡ free_of old
  pub laid : (spans : Spans) → IsLaidIn old spans → IsLaidIn new spans

pub put : (old new : Cells) (k : ℕ) (xs : List ℕ) → new ≡ with_span old k xs → k < length old.spans → length xs ≡ length (span_list old k) → IsPut old new k xs
put old new k xs is known size = record {
  at = ap (λ ys. span_at ys k) spans ∙ get_or-set_same old.spans k xs [] known;
  off = λ j apart. ap (λ ys. span_at ys j) spans ∙ get_or-set_other old.spans k j xs [] apart;
  free = ap free_of is ∙ ap (λ n. old.capacity - n) (sum-set old.spans k xs size);
  laid = λ s laid. record {
    count = ap length spans ∙ length-set old.spans k xs ∙ laid.count;
    live = record {
      expected = live 0 s.expected laid.live.expected;
      variances = live 1 s.variances laid.live.variances;
      early = live 2 s.early laid.live.early;
      tails = live 3 s.tails laid.live.tails;
      path_cells = live 4 s.path_cells laid.live.path_cells;
    };
  };
} where
  spans : new.spans ≡ set old.spans k xs
  spans = ap (λ (r : Cells). r.spans) is

  live : (j : ℕ) (s : Span) → IsSpan old.spans j s → IsSpan new.spans j s
  live j s is-live = subst (λ ys. IsSpan ys j s) (sym spans) (live-set old.spans k j xs s size is-live)

-- a span's number is set
pub small-set : (most : ℕ) (xs : List ℕ) (i v : ℕ) → i < length xs → v ≤ most → AreAtMost most xs → AreAtMost most (set xs i v)
small-set most xs i v known fits small j below =
    elim (cases_eq j i) [
      | inl here ↦ omega (arith, ap (slice_index (set xs i v)) here, get_or-set_same xs i v 0 known, fits)
      | inr off ↦ omega (arith, get_or-set_other xs i j v 0 off, small j (omega (arith, below, length-set xs i v)))
    ]
