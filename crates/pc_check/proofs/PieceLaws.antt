-- What the pieces of a text show about the pulls that gave them.
use Rattle.std.proofs.Common.{◌≡◌, ℕ, ◌+◌, ◌≤◌, List, [], ◌∷◌, ◌++◌, length, length-append, Option, sym, ap, subst, arith}
use Rattle.pc_edges.specs.Pulls.{CameIn, TakesPulls}
use Rattle.pc_edges.proofs.PullLaws.{TakesPulls-then, TakesPulls-none, TakesPulls-more}

module _ {X : Type 0} (left : X → Option (List ℕ)) (faults : X → ℕ) (pulls : X → Option ℕ) where
  -- there were at most as many pulls as pieces
  pub CameIn-pulls : (pieces : List (List ℕ)) (bytes : List ℕ) (a b : X) → CameIn left faults pulls pieces bytes a b → TakesPulls (length pieces) (pulls a) (pulls b)
  CameIn-pulls [] bytes a b p = subst (λ s. TakesPulls 0 (pulls a) (pulls s)) (sym (p.1)) (TakesPulls-none 0 (pulls a))
  CameIn-pulls (piece ∷ pieces) bytes a b p =
      TakesPulls-more (1 + length pieces) (length (piece ∷ pieces)) (pulls a) (pulls b) (omega arith)
      (TakesPulls-then 1 (length pieces) (pulls a) (pulls (p.1)) (pulls b) (p.6) (CameIn-pulls pieces (p.0) (p.1) b (p.7)))

  -- there are at most as many pieces as bytes
  CameIn-some : (pieces : List (List ℕ)) (bytes : List ℕ) (a b : X) → CameIn left faults pulls pieces bytes a b → length pieces ≤ length bytes
  CameIn-some [] bytes a b p = omega arith
  CameIn-some (piece ∷ pieces) bytes a b p =
      omega (arith, ap length (p.2), length-append piece (p.0), p.3, CameIn-some pieces (p.0) (p.1) b (p.7))

  -- so there were at most as many pulls as bytes, and with one pull more at most one more
  pub CameIn-pulls_and_one : (pieces : List (List ℕ)) (bytes : List ℕ) (a b : X) (after : Option ℕ) → CameIn left faults pulls pieces bytes a b → TakesPulls 1 (pulls b) after
      → TakesPulls (length bytes + 1) (pulls a) after
  CameIn-pulls_and_one pieces bytes a b after p once =
      TakesPulls-more (length pieces + 1) (length bytes + 1) (pulls a) after (omega (arith, CameIn-some pieces bytes a b p))
      (TakesPulls-then (length pieces) 1 (pulls a) (pulls b) after (CameIn-pulls pieces bytes a b p) once)
