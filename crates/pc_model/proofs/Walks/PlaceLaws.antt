-- What lists have at their places, and the greater of two numbers.
use Rattle.std.proofs.Common.{◌≡◌, ℕ, ◌+◌, ◌-◌, ◌<◌, zero, suc, List, length, slice_index, reverse, get_or, replicate, refl, sym, ◌∙◌, max, arith}
use Rattle.std.specs.Ordering.{nat_cmp, ord_max}
use Rattle.std.proofs.lemmas.Bool.Decides.{nat_tests}
use Rattle.std.proofs.lemmas.List.{length-reverse, get_or-reverse, get_or_default}

-- `max` of numbers
pub ord_max-nat : (a b : ℕ) → ord_max nat_cmp a b ≡ max a b
ord_max-nat a b = grind (arith, nat_tests)

-- a list of zeros has a 0 at each place
pub zero-at : (n i : ℕ) → slice_index (replicate n 0) i ≡ 0
zero-at zero i = refl
zero-at (suc n) zero = refl
zero-at (suc n) (suc i) = zero-at n i

-- what a list has at place k from its end
pub place_from_end : (order : List ℕ) (k e : ℕ) → k < length (reverse order) → e ≡ get_or (reverse order) k e → (i : ℕ) × (i < length order) × (i + k + 1 ≡ length order) × (slice_index order i ≡ e)
place_from_end order k e in_list is =
    let all : length (reverse order) ≡ length order = length-reverse order in
    let at : e ≡ get_or order (length order - 1 - k) e = is ∙ get_or-reverse order k e (omega arith) in
    (length order - 1 - k, omega arith, omega arith, sym (at ∙ get_or_default order (length order - 1 - k) e 0 (omega arith)))
