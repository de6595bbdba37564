-- The table of the bytes of codes is held against the definition at each of the 256 bytes, by computing.
use Rattle.std.proofs.Common.{◌≡◌, ℕ, zero, suc, ◌+◌, ◌*◌, ◌/◌, ◌%◌, ◌<◌, Bool, true, false, ◌&&◌, not, nat_eq, if◌then◌else◌, get_or, List, refl, arith, inl, inr}
use Rattle.std.specs.Bool.{beq}
use Rattle.std.proofs.lemmas.Bool.{cases_eq, eqb-true}
use Rattle.pc_text.specs.Code.{is_code_byte}

-- the two tests agree below n
unfoldable pub agree_below : (ℕ → Bool) → (ℕ → Bool) → ℕ → Bool
agree_below f g zero = true
agree_below f g (suc n) = beq (f n) (g n) && agree_below f g n

both_of : (x y rest : Bool) → (beq x y && rest) ≡ true → (x ≡ y) × (rest ≡ true)
both_of true true rest h = (refl, h)
both_of true false rest h = cc
both_of false true rest h = cc
both_of false false rest h = (refl, h)

agree_at : (f g : ℕ → Bool) (n : ℕ) → agree_below f g n ≡ true → (b : ℕ) → b < n → f b ≡ g b
unfolding agree_below
agree_at f g zero h b lt = absurd (omega arith)
agree_at f g (suc n) h b lt =
    let both = both_of (f n) (g n) (agree_below f g n) h in
    elim (cases_eq b n) [ inl same ↦ rw same both.0 | inr other ↦ agree_at f g n both.1 b (omega arith) ]

-- a byte is allowed in a code if there is no comma (44) at its place of the table
pub from_table : (table : List ℕ) (b : ℕ) → b < 256
    → agree_below (λ k. not (nat_eq (get_or table k 0) 44)) is_code_byte 256 ≡ true
    → not (nat_eq (get_or table b 0) 44) ≡ is_code_byte b
from_table table b lt h = agree_at _ _ 256 h b lt

-- the same table has the byte itself if it is allowed in a code, and a comma elsewhere
pub byte_from : (table : List ℕ) (b : ℕ) → b < 256
    → agree_below (λ k. nat_eq (get_or table k 0) (if is_code_byte k then k else 44)) (λ k. true) 256 ≡ true
    → get_or table b 0 ≡ (if is_code_byte b then b else 44)
byte_from table b lt h = eqb-true _ _ (agree_at _ (λ k. true) 256 h b lt)

-- a table of two digits for each number below 100 has the first of them at an even place
pub tens_from : (table : List ℕ) (n : ℕ) → n < 100
    → agree_below (λ k. nat_eq (get_or table (2 * k) 0) (48 + k / 10)) (λ k. true) 100 ≡ true
    → get_or table (2 * n) 0 ≡ 48 + n / 10
tens_from table n lt h = eqb-true _ _ (agree_at _ (λ k. true) 100 h n lt)

-- and the second after it
pub ones_from : (table : List ℕ) (n : ℕ) → n < 100
    → agree_below (λ k. nat_eq (get_or table (2 * k + 1) 0) (48 + k % 10)) (λ k. true) 100 ≡ true
    → get_or table (2 * n + 1) 0 ≡ 48 + n % 10
ones_from table n lt h = eqb-true _ _ (agree_at _ (λ k. true) 100 h n lt)
