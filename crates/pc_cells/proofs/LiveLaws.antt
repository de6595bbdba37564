-- Which spans stay live, and with what in them, when a span is written, taken or given back.
use Rattle.std.proofs.Common.{◌≡◌, ℕ, zero, suc, ◌+◌, List, [], ◌∷◌, ◌++◌, length, take, set, get_or, refl, sym, ◌∙◌, ap, arith}
use Rattle.std.specs.Prelude.{sum_by}
use Rattle.std.proofs.lemmas.List.{length-set, length-append, get_or-set_same, get_or-set_other, get_or_append_left, take-append-le}
use Rattle.std.proofs.lemmas.List.Sums.{sum_by-cons}
use Rattle.std.proofs.lemmas.Bool.{cases_eq}
use Rattle.std.proofs.Common.{inl, inr}
use Rattle.pc_cells.specs.declared.region.Span.{Span}
use Rattle.pc_cells.specs.inside.Spans.{span_at, cells_before, IsSpan}

-- a write into a span moves no other
pub cells_before-set : (spans : List (List ℕ)) (k j : ℕ) (xs : List ℕ) → length xs ≡ length (span_at spans k)
    → cells_before (set spans k xs) j ≡ cells_before spans j
cells_before-set [] k j xs size = refl
cells_before-set (s ∷ spans) k zero xs size = refl
cells_before-set (s ∷ spans) zero (suc j) xs size =
    sum_by-cons length xs (take j spans) ∙ ap (λ n. n + cells_before spans j) size ∙ sym (sum_by-cons length s (take j spans))
cells_before-set (s ∷ spans) (suc k) (suc j) xs size =
    sum_by-cons length s (take j (set spans k xs))
    ∙ ap (λ n. length s + n) (cells_before-set spans k j xs size)
    ∙ sym (sum_by-cons length s (take j spans))

-- where a span gets another list of its length, all spans stay where they are
pub live-set : (spans : List (List ℕ)) (k j : ℕ) (xs : List ℕ) (s : Span) → length xs ≡ length (span_at spans k)
    → IsSpan spans j s → IsSpan (set spans k xs) j s
live-set spans k j xs s size is = record {
  known = omega (arith, length-set spans k xs, is.known);
  begins = is.begins ∙ sym (cells_before-set spans k j xs size);
  extends = is.extends ∙ sym (elim (cases_eq j k) [
    | inl same ↦
        ap (λ i. length (get_or (set spans k xs) i [])) same
        ∙ ap length (get_or-set_same spans k xs [] (omega (arith, is.known, same)))
        ∙ size
        ∙ ap (λ i. length (get_or spans i [])) (sym same)
    | inr apart ↦ ap length (get_or-set_other spans k j xs [] apart)
  ]);
}

-- where more spans are taken, the earlier ones stay
pub live-append : (spans more : List (List ℕ)) (j : ℕ) (s : Span) → IsSpan spans j s → IsSpan (spans ++ more) j s
live-append spans more j s is = record {
  known = omega (arith, length-append spans more, is.known);
  begins = is.begins ∙ sym (ap (sum_by length) (take-append-le j spans more (omega (arith, is.known))));
  extends = is.extends ∙ sym (ap length (get_or_append_left spans more [] j is.known));
}
