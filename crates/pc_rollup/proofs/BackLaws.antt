-- A loop over a list from its end.
use Rattle.std.proofs.Common.{◌≡◌, ℕ, ◌+◌, ◌<◌, ◌≤◌, List, length, Bor, Option, Some, None, refl, arith}
use Rattle.std.specs.Prelude.{slice_index}
use Rattle.std.specs.declared.iter.Rev.{Rev}
use Rattle.std.specs.declared.slice.Iter.{Iter}
use Rattle.std.specs.Iterator.{Yields}
use Rattle.std.specs.Iterator.Adapters.{rev_source, rev_steps}
use Rattle.std.specs.Slice.Iter.{iter_rest, iter_steps_back}
use Rattle.std.proofs.lemmas.List.{length-reverse}
use Rattle.std.proofs.lemmas.Iterator.Adapters.{YieldsList-from_rev_slice}
use Rattle.std.proofs.lemmas.Iterator.Consumers.{YieldsList-turn, YieldsList-end}
use Rattle.pc_model.proofs.Walks.PlaceLaws.{place_from_end}

-- the list that an iterator goes back over
abbrev pub order_of : Rev (Iter ℕ) → List ℕ
order_of s = iter_rest (rev_source s)

module _ (s t u : Rev (Iter ℕ)) (yielded : List (Bor ℕ)) (so_far : Yields (rev_steps iter_steps_back) s yielded t) (r : Option (Bor ℕ)) (step : rev_steps iter_steps_back t r u) where
  -- the next one is before those that have come
  pub place_of_turn : (x : Bor ℕ) → r ≡ Some x → (i : ℕ) × (i < length (order_of s)) × (i + length yielded + 1 ≡ length (order_of s)) × (slice_index (order_of s) i ≡ x.now)
  place_of_turn x is =
      let turn = YieldsList-turn (YieldsList-from_rev_slice (order_of s) refl) yielded t so_far r u x is step in
      place_from_end (order_of s) (length yielded) x.now turn.0 turn.1

  -- where nothing comes, all has come
  pub all_came : r ≡ None → length (order_of s) ≤ length yielded
  all_came is =
      let end = YieldsList-end (YieldsList-from_rev_slice (order_of s) refl) yielded t so_far r u is step in
      omega (arith, end.1, length-reverse (order_of s))
