-- How pulls from a source are counted, and what follows from where reading stops.
use Rattle.std.proofs.Common.{◌≡◌, ℕ, ◌+◌, ◌<◌, ◌≤◌, List, [], ◌∷◌, ◌++◌, length, append_assoc, append-nil, Option, Some, None, refl, sym, ap, ◌∙◌, subst, arith}
use Rattle.std.specs.Io.KnownBytes.{Consumes}
use Rattle.std.proofs.KnownBytes.{Consumes-nil, Consumes-trans}
use Rattle.pc_edges.specs.Pulls.{TakesPulls, CameIn, IsReadWithin}

-- some pulls, and then some more
pub TakesPulls-then : (j k : ℕ) (a b c : Option ℕ) → TakesPulls j a b → TakesPulls k b c → TakesPulls (j + k) a c
TakesPulls-then j k None b c p q = tt
TakesPulls-then j k (Some a) None c p q = absurd p
TakesPulls-then j k (Some a) (Some b) None p q = absurd q
TakesPulls-then j k (Some a) (Some b) (Some c) p q = omega (arith, p, q)

-- no pull
pub TakesPulls-none : (k : ℕ) (a : Option ℕ) → TakesPulls k a a
TakesPulls-none k None = tt
TakesPulls-none k (Some a) = omega arith

-- at most more pulls
pub TakesPulls-more : (j k : ℕ) (a b : Option ℕ) → j ≤ k → TakesPulls j a b → TakesPulls k a b
TakesPulls-more j k None b more p = tt
TakesPulls-more j k (Some a) None more p = absurd p
TakesPulls-more j k (Some a) (Some b) more p = omega (arith, p, more)

-- at most j + 1 pulls are at most k + 1 pulls if j is at most k
pub TakesPulls-one_more : (j k : ℕ) (a b : Option ℕ) → j ≤ k → TakesPulls (j + 1) a b → TakesPulls (k + 1) a b
TakesPulls-one_more j k a b more p = TakesPulls-more (j + 1) (k + 1) a b (omega (arith, more)) p

-- ---- pieces

module _ {X : Type 0} (left : X → Option (List ℕ)) (faults : X → ℕ) (pulls : X → Option ℕ) where
  -- some pieces, and then some more
  pub CameIn-then : (first second : List (List ℕ)) (xs ys : List ℕ) (a b c : X) → CameIn left faults pulls first xs a b → CameIn left faults pulls second ys b c
      → CameIn left faults pulls (first ++ second) (xs ++ ys) a c
  CameIn-then [] second xs ys a b c p q =
      subst (λ l. CameIn left faults pulls second (l ++ ys) a c) (sym (p.0)) (subst (λ s. CameIn left faults pulls second ys s c) (p.1) q)
  CameIn-then (piece ∷ pieces) second xs ys a b c p q =
      (p.0 ++ ys, p.1, ap (λ l. l ++ ys) (p.2) ∙ append_assoc piece (p.0) ys, p.3, p.4, p.5, p.6, CameIn-then pieces second (p.0) ys (p.1) b c (p.7) q)

  -- one pull more
  pub CameIn-more : (pieces : List (List ℕ)) (bytes piece : List ℕ) (a b c : X) → CameIn left faults pulls pieces bytes a b → 0 < length piece
      → Consumes (left b) (left c) piece → faults c ≡ faults b → TakesPulls 1 (pulls b) (pulls c)
      → CameIn left faults pulls (pieces ++ piece ∷ []) (bytes ++ piece) a c
  CameIn-more pieces bytes piece a b c p some taken no_fault once =
      CameIn-then pieces (piece ∷ []) bytes piece a b c p ([], c, sym (append-nil piece), some, taken, no_fault, once, (refl, refl))

  -- the pieces together are taken of what was left
  pub CameIn-consumes : (pieces : List (List ℕ)) (bytes : List ℕ) (a b : X) → CameIn left faults pulls pieces bytes a b → Consumes (left a) (left b) bytes
  CameIn-consumes [] bytes a b p =
      subst (λ l. Consumes (left a) (left b) l) (sym (p.0)) (subst (λ s. Consumes (left a) (left s) []) (sym (p.1)) (Consumes-nil (left a)))
  CameIn-consumes (piece ∷ pieces) bytes a b p =
      subst (λ l. Consumes (left a) (left b) l) (sym (p.2)) (Consumes-trans _ _ _ piece (p.0) (p.4) (CameIn-consumes pieces (p.0) (p.1) b (p.7)))

-- ---- where reading stops

module _ {X : Type 0} (limit room : ℕ) (left : X → Option (List ℕ)) (faults : X → ℕ) (pulls : X → Option ℕ) where
  -- nothing is read
  pub IsReadWithin_none : (a : X) → IsReadWithin limit room left faults pulls a a
  IsReadWithin_none a = record {
    before = a;
    pieces = [];
    front = [];
    last = [];
    came = (refl, refl);
    within = omega arith;
    pulled = Consumes-nil (left a);
    short = omega arith;
    once = TakesPulls-none 1 (pulls a);
  }
