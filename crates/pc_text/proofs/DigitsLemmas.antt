-- Writing a decimal form from its last digit on.
use Rattle.std.proofs.Common.{◌≡◌, ℕ, ◌+◌, ◌-◌, ◌/◌, ◌%◌, ◌^◌, ◌<◌, ◌≤◌, ℤ, pos, negsuc, ◌≤ℤ◌, ◌<ℤ◌, List, [], ◌∷◌, ◌++◌, length}
use Rattle.std.proofs.Common.{drop, set, refl, sym, ap, ◌∙◌, arith, length-append, length-drop, append-nil, append_assoc}
use Rattle.std.proofs.lemmas.Fmt.{decimal_step_wide, decimal_digit, decimal_is_IsNumeral_wide, length-decimal-le, length-decimal-le_wide}
use Rattle.std.proofs.lemmas.List.{drop-set, drop_all}
use Rattle.std.proofs.lemmas.Int.{ints}
use Rattle.std.proofs.Math.ListN.{length-set}
use Rattle.std.specs.Prelude.{unsigned_abs}
use Rattle.std.specs.Fmt.{decimal, signed_decimal}

-- of `most` cells those from `start` on have the last digits of n, and `rest` is the number before them
pub record IsWritten (most n rest start : ℕ) (cells : List ℕ) : Type 0 where
  pub within : start ≤ most
  pub full : length cells ≡ most
  pub room : length (decimal rest) ≤ start
  pub whole : decimal n ≡ decimal rest ++ drop start cells

-- nothing is written yet
pub begun : (most n : ℕ) (cells : List ℕ) → 0 < most → n < 10 ^ most → n < 10 ^ 64 → length cells ≡ most → IsWritten most n n most cells
begun most n cells some fits small full = record {
  within = omega arith;
  full = full;
  room = length-decimal-le_wide most n some fits small;
  whole = rw (drop_all most cells (omega (arith, full))) (sym (append-nil (decimal n)));
}

-- there is capacity for a digit
pub room_left : {most n rest start : ℕ} {cells : List ℕ} → IsWritten most n rest start cells → rest < 10 ^ 64 → 1 ≤ start
room_left {rest = rest} w small = omega (arith, w.room, (decimal_is_IsNumeral_wide rest small).0.0)

-- a digit before the written ones
written : (start digit : ℕ) (cells : List ℕ) → 1 ≤ start → start ≤ length cells → drop (start - 1) (set cells (start - 1) digit) ≡ digit ∷ drop start cells
written start digit cells some within =
    let below : start - 1 < length cells = omega arith in
    let same : start - 1 + 1 ≡ start = omega arith in
    drop-set cells (start - 1) digit below ∙ ap (λ at. digit ∷ drop at cells) same

-- the last digit of the rest goes before those that are written
pub next : {most n rest start : ℕ} {cells : List ℕ} → IsWritten most n rest start cells → rest < 10 ^ 64 → 10 ≤ rest → IsWritten most n (rest / 10) (start - 1) (set cells (start - 1) (48 + rest % 10))
next {most} {n} {rest} {start} {cells} w small more =
    let step = decimal_step_wide rest more small in
    let some = room_left w small in
    record {
      within = omega (arith, w.within);
      full = length-set cells (start - 1) (48 + rest % 10) ∙ w.full;
      room = omega (arith, w.room, ap length step, length-append (decimal (rest / 10)) ((48 + rest % 10) ∷ []));
      whole =
          w.whole
          ∙ ap (λ front. front ++ drop start cells) step
          ∙ append_assoc (decimal (rest / 10)) ((48 + rest % 10) ∷ []) (drop start cells)
          ∙ ap (λ back. decimal (rest / 10) ++ back) (sym (written start (48 + rest % 10) cells some (omega (arith, w.within, w.full))));
    }

-- a rest of one digit ends the work
pub last : {most n rest start : ℕ} {cells : List ℕ} → IsWritten most n rest start cells → rest < 10 → drop (start - 1) (set cells (start - 1) (48 + rest)) ≡ decimal n
last {most} {n} {rest} {start} {cells} w few =
    let some = room_left w (omega arith) in
    written start (48 + rest) cells some (omega (arith, w.within, w.full))
    ∙ sym (w.whole ∙ ap (λ front. front ++ drop start cells) (decimal_digit rest few))

-- there is capacity for two digits
pub room_for_two : {most n rest start : ℕ} {cells : List ℕ} → IsWritten most n rest start cells → rest < 10 ^ 64 → 10 ≤ rest → 2 ≤ start
room_for_two {start = start} w small more =
    let behind : 1 ≤ start - 1 = room_left (next w small more) (omega arith) in
    omega arith

-- two digits that are written are the last two of the rest
pub next_two : {most n rest start : ℕ} {cells : List ℕ} → IsWritten most n rest start cells → rest < 10 ^ 64 → 100 ≤ rest →
    IsWritten most n (rest / 100) (start - 2) (set (set cells (start - 1) (48 + rest % 100 % 10)) (start - 2) (48 + rest % 100 / 10))
next_two {rest = rest} {start = start} w small more =
    let less : rest / 100 ≡ rest / 10 / 10 = omega arith in
    let before : start - 2 ≡ start - 1 - 1 = omega arith in
    let one : rest % 100 % 10 ≡ rest % 10 = omega arith in
    let ten : rest % 100 / 10 ≡ rest / 10 % 10 = omega arith in
    rw (less, before, one, ten) (next (next w small (omega arith)) (omega arith) (omega arith))

-- a rest of one digit ends the work, and so does one of two
pub last_one : {most n rest start : ℕ} {cells : List ℕ} → IsWritten most n rest start cells → rest < 10 → drop (start - 1) (set cells (start - 1) (48 + rest % 10)) ≡ decimal n
last_one {rest = rest} w few =
    let one : rest % 10 ≡ rest = omega arith in
    rw one (last w few)

pub last_two : {most n rest start : ℕ} {cells : List ℕ} → IsWritten most n rest start cells → 10 ≤ rest → rest < 100 →
    drop (start - 1 - 1) (set (set cells (start - 1) (48 + rest % 10)) (start - 1 - 1) (48 + rest / 10)) ≡ decimal n
last_two w more few = last (next w (omega arith) more) (omega arith)

-- fewer than 20 digits leave a cell before them
pub room_for_sign : (n start : ℕ) (cells : List ℕ) → n < 10 ^ 19 → length cells ≡ 20 → start ≤ 20 → drop start cells ≡ decimal n → 1 ≤ start
room_for_sign n start cells small full within whole =
    omega (arith, length-decimal-le 19 n (omega arith) small (omega arith), ap length whole, length-drop start cells)

-- the sign of a number below 0 goes before its digits
pub with_sign : (z : ℤ) (start : ℕ) (cells : List ℕ) → z <ℤ pos 0 → 1 ≤ start → start ≤ length cells →
    drop start cells ≡ decimal (unsigned_abs z) → drop (start - 1) (set cells (start - 1) 45) ≡ signed_decimal z
with_sign (pos n) start cells below some within whole = absurd (omega (arith, ints))
with_sign (negsuc n) start cells below some within whole = written start 45 cells some within ∙ ap (λ back. 45 ∷ back) whole

-- a number from 0 on has none
pub without_sign : (z : ℤ) → pos 0 ≤ℤ z → decimal (unsigned_abs z) ≡ signed_decimal z
without_sign (pos n) above = refl
without_sign (negsuc n) above = absurd (omega (arith, ints))
