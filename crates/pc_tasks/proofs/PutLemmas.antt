-- What one more element of a list appends to others.
use Rattle.std.proofs.Common.{◌≡◌, ℕ, ◌+◌, ◌<◌, List, [], ◌∷◌, ◌++◌, length, map, take, get_or, sym, ◌∙◌, ap, append_assoc}
use Rattle.std.proofs.lemmas.List.{map_push, take_more}

module _ {X : Type 0} where
  -- what the next place of a list gives
  pub put_place : {Y : Type 0} (f : Y → X) (ys : List Y) (front now : List X) (i : ℕ) (x : X) (d : Y) → i < length ys →
      now ≡ front ++ map f (take i ys) → x ≡ f (get_or ys i d) → now ++ x ∷ [] ≡ front ++ map f (take (i + 1) ys)
  put_place f ys front now i x d inside is here =
      ap (λ xs. xs ++ x ∷ []) is
      ∙ (ap (λ z. (front ++ map f (take i ys)) ++ z ∷ []) here
      ∙ (append_assoc front (map f (take i ys)) (f (get_or ys i d) ∷ [])
      ∙ ap (λ back. front ++ back) (sym (ap (map f) (take_more ys i d inside) ∙ map_push f (take i ys) (get_or ys i d)))))
