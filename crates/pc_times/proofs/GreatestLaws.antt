-- The greatest value of some activities, taken one after another.
use Rattle.std.proofs.Common.{◌≡◌, ℕ, ◌+◌, ◌<◌, ◌≤◌, ◌⊎◌, inl, inr, ⊎_elim, List, length, slice_index, ap, max, below_more, arith}
use Rattle.std.proofs.lemmas.Bool.{cases_lt}
use Rattle.pc_model.specs.inside.Greatest.{IsListed}

-- n is the greatest value of g for the first k of the items, or 0 if there are none
pub record IsGreatestOf (g : ℕ → ℕ) (items : List ℕ) (k n : ℕ) : Type 0 where
  pub above : (j : ℕ) → j < k → g (slice_index items j) ≤ n
  pub attained : ((j : ℕ) × (j < k) × (g (slice_index items j) ≡ n)) ⊎ ((n ≡ 0) × (k ≡ 0))

-- n is the greatest value of g for the numbers below a count that have P, or 0 if there are none
pub record IsGreatestWhere (P : ℕ → Type 0) (count : ℕ) (g : ℕ → ℕ) (n : ℕ) : Type 0 where
  pub above : (a : ℕ) → a < count → P a → g a ≤ n
  pub attained : ((a : ℕ) × (a < count) × P a × (g a ≡ n)) ⊎ ((n ≡ 0) × ((a : ℕ) → a < count → P a → ⊥))

-- one item more, for which g gives m: the greater of n and m
pub greatest_more : (g : ℕ → ℕ) (items : List ℕ) (k n m : ℕ) → IsGreatestOf g items k n → m ≡ g (slice_index items k) →
    IsGreatestOf g items (k + 1) (max n m)
greatest_more g items k n m so_far is = record {
  above = below_more (λ j. g (slice_index items j) ≤ max n m) k (λ j lower. omega (arith, so_far.above j lower)) (omega arith);
  attained = ⊎_elim (λ less. inl (k, omega arith, omega arith))
      (λ no_less. ⊎_elim (λ (j, lower, at). inl (j, omega arith, omega arith))
      (λ (zero_is, none). inl (k, omega arith, omega arith)) so_far.attained) (cases_lt n m);
}

-- all of them, where the items are the numbers that have P
pub greatest_all : (P : ℕ → Type 0) (count : ℕ) (g : ℕ → ℕ) (items : List ℕ) (k n : ℕ) → IsListed P count items → k ≡ length items →
    IsGreatestOf g items k n → IsGreatestWhere P count g n
greatest_all P count g items k n listed all so_far = record {
  above = λ a in_range has. let (j, lower, at) = listed.every a in_range has in omega (arith, so_far.above j (omega arith), ap g at);
  attained = ⊎_elim (λ (j, lower, at). inl (slice_index items j, (listed.each j (omega arith)).0, (listed.each j (omega arith)).1, at))
      (λ (zero_is, none). inr (zero_is, λ a in_range has. let (j, lower, at) = listed.every a in_range has in absurd (omega arith)))
      so_far.attained;
}
