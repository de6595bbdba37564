-- What is stored of a line.
use Rattle.std.proofs.Common.{◌≡◌, ℕ, ◌+◌, ◌-◌, ◌≤◌, min, List, [], ◌∷◌, ◌++◌, length, take, drop, zero, suc, refl, sym, ap, ◌∙◌, arith, length-drop}
use Rattle.std.proofs.lemmas.List.{drop-drop, drop-take, take-take, length-take-le}
use Rattle.std.proofs.lemmas.Slice.{take-put_mid}
use Rattle.std.proofs.Math.Seq.{take-append-add}
use borrow.Rule.Slice.PartMut.{put_mid}
use native.Mathlib.Numerals.{unary_clauses}

-- a front of a front
pub take-of_take : (n count : ℕ) (xs : List ℕ) → take n (take count xs) ≡ take (min count n) xs
take-of_take zero zero xs = refl
take-of_take zero (suc count) xs = simp unary_clauses
take-of_take (suc n) zero xs = simp unary_clauses
take-of_take (suc n) (suc count) [] = simp unary_clauses
take-of_take (suc n) (suc count) (x ∷ xs) = simp unary_clauses (ap (λ l. x ∷ l) (take-of_take n count xs))

-- of a line and what follows it, the front for which there is capacity
pub take-of_both : (room count : ℕ) (line ahead : List ℕ) → length line ≤ room
    → take room (line ++ take count ahead) ≡ line ++ take (min count (room - length line)) ahead
take-of_both room count line ahead fits =
    let split : room ≡ length line + (room - length line) = omega arith in
    ap (λ n. take n (line ++ take count ahead)) split
    ∙ take-append-add line (take count ahead) (room - length line)
    ∙ ap (λ l. line ++ l) (take-of_take (room - length line) count ahead)

-- a front that is cut before more follows it
pub take-of_cut : (n : ℕ) (xs ys : List ℕ) → take n (take n xs ++ ys) ≡ take n (xs ++ ys)
take-of_cut zero xs ys = refl
take-of_cut (suc n) [] ys = refl
take-of_cut (suc n) (x ∷ xs) ys = ap (λ l. x ∷ l) (take-of_cut n xs ys)

-- what is ahead after `count` bytes of it
pub ahead-passed : (from count to : ℕ) (xs : List ℕ) → from + count ≤ to
    → take (to - (from + count)) (drop (from + count) xs) ≡ drop count (take (to - from) (drop from xs))
ahead-passed from count to xs within =
    let rest : to - from ≡ count + (to - (from + count)) = omega arith in
    ap (take (to - (from + count))) (sym (drop-drop count from xs))
    ∙ sym (ap (λ n. drop count (take n (drop from xs))) rest ∙ drop-take count (to - (from + count)) (drop from xs))

-- a piece of what is ahead is written after the line that is held
pub held-more : (cells buffer piece : List ℕ) (room held from to count much : ℕ) → length cells ≡ room → held ≤ room → from ≤ to → to ≤ length buffer
    → count ≤ to - from → much ≡ min count (room - held) → piece ≡ take much (drop from buffer)
    → take (held + much) (put_mid held (held + much - held) cells piece) ≡ take room (take held cells ++ take count (take (to - from) (drop from buffer)))
held-more cells buffer piece room held from to count much cells_are fits order within enough much_is piece_is =
    let ahead = take (to - from) (drop from buffer) in
    let line : length (take held cells) ≡ held = length-take-le held cells (omega arith) in
    let less : much ≤ to - from = omega arith in
    let there : length piece ≡ much = ap length piece_is ∙ length-take-le much (drop from buffer) (omega (arith, length-drop from buffer)) in
    take-put_mid held (held + much - held) cells piece (held + much) (omega arith) (omega arith)
    ∙ ap (λ l. take held cells ++ l) (piece_is ∙ sym (take-take much (to - from) (drop from buffer) less))
    ∙ ap (λ n. take held cells ++ take n ahead) much_is
    ∙ ap (λ n. take held cells ++ take (min count (room - n)) ahead) (sym line)
    ∙ sym (take-of_both room count (take held cells) ahead (omega arith))
