-- Lists that are made one element after the other, and results that may be missing.
use Rattle.std.proofs.Common.{Result, Ok, Err, IfOk, ◌≡◌, ℕ, ◌+◌, ◌<◌, List, [], ◌∷◌, ◌++◌, length, slice_index_or, sym, subst, ⊎_elim, arith}
use Rattle.std.proofs.lemmas.Bool.{cases_eq}
use Rattle.std.proofs.lemmas.List.{get_or_push, get_or_append_left}

-- what holds of the elements so far and of the next one holds of them all
pub each_more : {A : Type 0} (P : ℕ → A → Type 0) (xs : List A) (x d : A) (n : ℕ) → length xs ≡ n →
    ((k : ℕ) → k < n → P k (slice_index_or xs k d)) → P n x → (k : ℕ) → k < n + 1 → P k (slice_index_or (xs ++ x ∷ []) k d)
each_more P xs x d n count so_far here k lt =
    ⊎_elim
    (λ e. subst (λ (i : ℕ). P i (slice_index_or (xs ++ x ∷ []) i d)) (sym e) (subst (P n) (sym (get_or_push xs x d n count)) here))
    (λ ne. let low : k < length xs = omega arith in subst (P k) (sym (get_or_append_left xs (x ∷ []) d k low)) (so_far k (omega arith)))
    (cases_eq k n)

-- what follows from a result follows if there is one
pub if_answered : {T E : Type 0} (r : Result T E) (P Q : T → Type 0) → ((v : T) → P v → Q v) → IfOk r P → IfOk r Q
if_answered (Ok v) P Q follows is = follows v is
if_answered (Err e) P Q follows is = is
