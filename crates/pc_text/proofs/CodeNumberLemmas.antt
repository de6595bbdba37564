-- A code comes back from its number.
use Rattle.std.proofs.Common.{◌≡◌, ℕ, ◌+◌, ◌-◌, ◌*◌, ◌/◌, ◌%◌, ◌<◌, ◌&&◌, nat_le, true, cond, List, [], ◌∷◌, ◌++◌, length, get_or, replicate, suc, zero, refl, sym, ap, subst, ◌∙◌, arith}
use Rattle.std.proofs.lemmas.Bool.Decides.{nat_tests}
use Rattle.std.proofs.lemmas.List.Sums.{take_while-cons}
use Rattle.std.specs.Cmp.{first_so, second_so}
use Rattle.std.specs.Int.{w128, from_le_bytes}
use Rattle.std.specs.List.{list_all, take_while}
use Rattle.pc_text.specs.Code.{is_code, is_code_byte}
use Rattle.pc_text.specs.inside.CodeNumber.{value_of_bytes, bytes_of, number_of_code, code_in}
use Rattle.pc_text.specs.inside.Words.{padded}

-- the bytes of a number that was made of bytes are these
bytes_of-value : (bs : List ℕ) (k : ℕ) → length bs ≡ k → ((i : ℕ) → get_or bs i 0 < 256) → bytes_of k (value_of_bytes bs) ≡ bs
bytes_of-value [] zero long small = refl
bytes_of-value [] (suc k) long small = absurd (omega arith)
bytes_of-value (b ∷ bs) zero long small = absurd (omega arith)
bytes_of-value (b ∷ bs) (suc k) long small =
    let below : b < 256 = small 0 in
    let first : (b + 256 * value_of_bytes bs) % 256 ≡ b = omega arith in
    let rest : (b + 256 * value_of_bytes bs) / 256 ≡ value_of_bytes bs = omega arith in
    ap (λ (c : ℕ). c ∷ bytes_of k ((b + 256 * value_of_bytes bs) / 256)) first
    ∙ ap (λ (cs : List ℕ). b ∷ cs) (ap (bytes_of k) rest ∙ bytes_of-value bs k (omega arith) (λ i. small (suc i)))

-- what `from_le_bytes` makes of 16 bytes
from_16 : (bs : List ℕ) → length bs ≡ 16 → from_le_bytes w128 bs ≡ value_of_bytes bs
from_16 [] long = absurd (omega arith)
from_16 (b0 ∷ []) long = absurd (omega arith)
from_16 (b0 ∷ b1 ∷ []) long = absurd (omega arith)
from_16 (b0 ∷ b1 ∷ b2 ∷ []) long = absurd (omega arith)
from_16 (b0 ∷ b1 ∷ b2 ∷ b3 ∷ []) long = absurd (omega arith)
from_16 (b0 ∷ b1 ∷ b2 ∷ b3 ∷ b4 ∷ []) long = absurd (omega arith)
from_16 (b0 ∷ b1 ∷ b2 ∷ b3 ∷ b4 ∷ b5 ∷ []) long = absurd (omega arith)
from_16 (b0 ∷ b1 ∷ b2 ∷ b3 ∷ b4 ∷ b5 ∷ b6 ∷ []) long = absurd (omega arith)
from_16 (b0 ∷ b1 ∷ b2 ∷ b3 ∷ b4 ∷ b5 ∷ b6 ∷ b7 ∷ []) long = absurd (omega arith)
from_16 (b0 ∷ b1 ∷ b2 ∷ b3 ∷ b4 ∷ b5 ∷ b6 ∷ b7 ∷ b8 ∷ []) long = absurd (omega arith)
from_16 (b0 ∷ b1 ∷ b2 ∷ b3 ∷ b4 ∷ b5 ∷ b6 ∷ b7 ∷ b8 ∷ b9 ∷ []) long = absurd (omega arith)
from_16 (b0 ∷ b1 ∷ b2 ∷ b3 ∷ b4 ∷ b5 ∷ b6 ∷ b7 ∷ b8 ∷ b9 ∷ b10 ∷ []) long = absurd (omega arith)
from_16 (b0 ∷ b1 ∷ b2 ∷ b3 ∷ b4 ∷ b5 ∷ b6 ∷ b7 ∷ b8 ∷ b9 ∷ b10 ∷ b11 ∷ []) long = absurd (omega arith)
from_16 (b0 ∷ b1 ∷ b2 ∷ b3 ∷ b4 ∷ b5 ∷ b6 ∷ b7 ∷ b8 ∷ b9 ∷ b10 ∷ b11 ∷ b12 ∷ []) long = absurd (omega arith)
from_16 (b0 ∷ b1 ∷ b2 ∷ b3 ∷ b4 ∷ b5 ∷ b6 ∷ b7 ∷ b8 ∷ b9 ∷ b10 ∷ b11 ∷ b12 ∷ b13 ∷ []) long = absurd (omega arith)
from_16 (b0 ∷ b1 ∷ b2 ∷ b3 ∷ b4 ∷ b5 ∷ b6 ∷ b7 ∷ b8 ∷ b9 ∷ b10 ∷ b11 ∷ b12 ∷ b13 ∷ b14 ∷ []) long = absurd (omega arith)
from_16 (b0 ∷ b1 ∷ b2 ∷ b3 ∷ b4 ∷ b5 ∷ b6 ∷ b7 ∷ b8 ∷ b9 ∷ b10 ∷ b11 ∷ b12 ∷ b13 ∷ b14 ∷ b15 ∷ []) long = omega arith
from_16 (b0 ∷ b1 ∷ b2 ∷ b3 ∷ b4 ∷ b5 ∷ b6 ∷ b7 ∷ b8 ∷ b9 ∷ b10 ∷ b11 ∷ b12 ∷ b13 ∷ b14 ∷ b15 ∷ b16 ∷ bs) long = absurd (omega arith)

-- no zero is part of a code
zeros_behind : (k : ℕ) → take_while is_code_byte (replicate k 0) ≡ []
zeros_behind zero = refl
zeros_behind (suc k) = refl

-- the bytes before the zeros are the code
front_of_padded : (code : List ℕ) (k : ℕ) → list_all is_code_byte code ≡ true → take_while is_code_byte (code ++ replicate k 0) ≡ code
front_of_padded [] k all = zeros_behind k
front_of_padded (b ∷ bs) k all =
    take_while-cons is_code_byte b (bs ++ replicate k 0)
    ∙ (ap (λ test. cond test (b ∷ take_while is_code_byte (bs ++ replicate k 0)) []) (first_so (is_code_byte b) (list_all is_code_byte bs) all)
    ∙ ap (λ (rest : List ℕ). b ∷ rest) (front_of_padded bs k (second_so (is_code_byte b) (list_all is_code_byte bs) all)))

-- the cells are bytes
byte_of_code : (b : ℕ) → is_code_byte b ≡ true → b < 256
byte_of_code b is = grind (arith, nat_tests)

small_zeros : (k i : ℕ) → get_or (replicate k 0) i 0 < 256
small_zeros zero i = omega arith
small_zeros (suc k) zero = omega arith
small_zeros (suc k) (suc i) = small_zeros k i

small_cells : (code : List ℕ) (k i : ℕ) → list_all is_code_byte code ≡ true → get_or (code ++ replicate k 0) i 0 < 256
small_cells [] k i all = small_zeros k i
small_cells (b ∷ bs) k zero all = byte_of_code b (first_so (is_code_byte b) (list_all is_code_byte bs) all)
small_cells (b ∷ bs) k (suc i) all = small_cells bs k i (second_so (is_code_byte b) (list_all is_code_byte bs) all)

-- the number of the cells of a code
pub number_of_code-cells : (code cells : List ℕ) (number : ℕ) → cells ≡ padded 16 code → length cells ≡ 16 → number ≡ from_le_bytes w128 cells → number ≡ number_of_code code
unfolding number_of_code
number_of_code-cells code cells number is full made = made ∙ (from_16 cells full ∙ ap value_of_bytes is)

-- and the code in it
pub code_in-cells : (code cells : List ℕ) (number : ℕ) → cells ≡ padded 16 code → length cells ≡ 16 → is_code code ≡ true → number ≡ from_le_bytes w128 cells → code_in number ≡ code
unfolding code_in
code_in-cells code cells number is full good made =
    let all = second_so (nat_le (length code) 16) (list_all is_code_byte code) (second_so (nat_le 1 (length code)) (nat_le (length code) 16 && list_all is_code_byte code) good) in
    ap (take_while is_code_byte)
    (ap (bytes_of 16) (made ∙ from_16 cells full)
    ∙ (bytes_of-value cells 16 full (λ i. subst (λ (bs : List ℕ). get_or bs i 0 < 256) (sym is) (small_cells code (16 - length code) i all)) ∙ is))
    ∙ front_of_padded code (16 - length code) all
