-- The codes that are drawn differ.
use Rattle.std.proofs.Common.{◌≡◌, ◌≢◌, ℕ, ◌+◌, ◌^◌, ◌<◌, List, ◌∷◌, arith}
use Rattle.std.specs.Prelude.{decimal}
use Rattle.std.proofs.lemmas.Fmt.{decimal_injective}
use Rattle.pc_tasks.specs.Codes.{drawn_code}
use Rattle.pc_tasks.specs.Known.{IsGiven}

-- one code has one letter and one number
pub drawn_code-letter : (l m i j : ℕ) → drawn_code l i ≡ drawn_code m j → l ≡ m
drawn_code-letter l m i j same = cc

pub drawn_code-number : (l m i j : ℕ) → i < 2 ^ 32 → j < 2 ^ 32 → drawn_code l i ≡ drawn_code m j → i ≡ j
drawn_code-number l m i j small_i small_j same =
    let digits : decimal (i + 1) ≡ decimal (j + 1) = cc in
    let numbers = decimal_injective (i + 1) (j + 1) (omega arith) (omega arith) digits in
    omega (arith, numbers)

-- no card gives such a code
pub given-not_drawn : (code : List ℕ) (l i : ℕ) → IsGiven code → code ≢ drawn_code l i
given-not_drawn code l i given same = given (l ∷ decimal (i + 1)) same
