-- A list of different numbers below a bound that leaves one of them out is shorter than the bound.
use Rattle.std.proofs.Common.{◌≡◌, ◌≢◌, ℕ, zero, suc, ◌<◌, List, ◌∷◌, length, map, sym, ◌∙◌, arith}
use Rattle.std.specs.Prelude.{slice_index}
use Rattle.std.specs.List.{range_with_len}
use Rattle.std.proofs.lemmas.List.FromFn.{length-map-range_with_len, get_or-map-range_with_len}
use Rattle.pc_model.proofs.Walks.OrderLaws.{room_below}

module _ (f : ℕ → ℕ) (count n x : ℕ) (range : (k : ℕ) → k < count → f k < n) (once : (j k : ℕ) → j < k → k < count → f j ≢ f k)
    (known : x < n) (other : (k : ℕ) → k < count → f k ≢ x) where
  abbrev numbers : List ℕ
  numbers = map f (range_with_len 0 count)

  at : (k : ℕ) → k < count → slice_index (x ∷ numbers) (suc k) ≡ f k
  at k below = get_or-map-range_with_len f 0 count k k 0 below (omega arith)

  size : length numbers ≡ count
  size = length-map-range_with_len f 0 count

  small : (k : ℕ) → k < length (x ∷ numbers) → slice_index (x ∷ numbers) k < n
  small zero below = known
  small (suc k) below = let before : k < count = omega (arith, below, size) in omega (arith, at k before, range k before)

  different : (j k : ℕ) → j < k → k < length (x ∷ numbers) → slice_index (x ∷ numbers) j ≢ slice_index (x ∷ numbers) k
  different zero zero before below same = omega (arith, before)
  different zero (suc k) before below same =
      let inside : k < count = omega (arith, below, size) in other k inside (sym (same ∙ at k inside))
  different (suc j) zero before below same = omega (arith, before)
  different (suc j) (suc k) before below same =
      let inside : k < count = omega (arith, below, size) in
      let early : j < k = omega arith in
      once j k early inside (sym (at j (omega arith)) ∙ same ∙ at k inside)

  pub room-left : count < n
  room-left = omega (arith, room_below (x ∷ numbers) n small different, size)
