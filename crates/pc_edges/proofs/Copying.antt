-- Pieces of lists that are cut and copied.
use Rattle.std.proofs.Common.{◌≡◌, ℕ, ◌+◌, ◌-◌, List, ◌++◌, length, take, drop, sym, ap, ◌∙◌, arith}
use Rattle.std.proofs.Math.Seq.{take-add, take-append_seam}
use Rattle.std.proofs.lemmas.List.{take-append-drop, drop-drop, take_rest}

-- one more front of the bytes after the place
pub take-at_add : (xs : List ℕ) (at n : ℕ) → take (at + n) xs ≡ take at xs ++ take n (take (length xs - at) (drop at xs))
take-at_add xs at n = take-add at n xs ∙ ap (λ l. take at xs ++ take n l) (sym (take_rest xs at))

-- the bytes from the place on are a copied front and the rest
pub drop-copied : (bytes copied room : List ℕ) (at n : ℕ) → length copied ≡ n → copied ≡ take (at + n - at) (drop at bytes)
    → drop at bytes ≡ take n (copied ++ room) ++ drop (at + n) bytes
drop-copied bytes copied room at n len e =
    let k : at + n - at ≡ n = omega arith in
    let same : copied ≡ take n (drop at bytes) = e ∙ ap (λ m. take m (drop at bytes)) k in
    let front : take n (copied ++ room) ≡ copied = ap (λ m. take m (copied ++ room)) (sym len) ∙ take-append_seam copied room in
    sym (ap (λ l. l ++ drop (at + n) bytes) (front ∙ same) ∙ ap (λ l. take n (drop at bytes) ++ l) (sym (drop-drop n at bytes)) ∙ take-append-drop n (drop at bytes))
