-- The codes that are drawn are codes, and codes are text.
use Rattle.std.proofs.Common.{◌≡◌, ℕ, ◌+◌, ◌<◌, ◌≤◌, ◌&&◌, Bool, true, false, nat_le, List, [], ◌∷◌, length, Option, Some, None, refl, ◌∙◌, ap, arith}
use Rattle.std.specs.Prelude.{decimal}
use Rattle.std.specs.Char.{is_ascii_digit}
use Rattle.std.specs.List.{list_all}
use Rattle.std.specs.Str.{IsUtf8}
use Rattle.std.proofs.lemmas.Bool.{and_parts, cond-true}
use Rattle.std.proofs.lemmas.Bool.Decides.{nat_tests}
use Rattle.std.proofs.lemmas.Fmt.{digits_decimal, length-decimal-le}
use Rattle.std.proofs.lemmas.Str.{IsUtf8-nil}
use Rattle.pc_records.proofs.Utf8Facts.{join_ascii}
use Rattle.pc_text.specs.Code.{code_of, is_code, is_code_byte}
use Rattle.pc_text.proofs.NumberLemmas.{own}
use Rattle.pc_tasks.specs.Codes.{drawn_code}

-- both hold where each does
both : (a b : Bool) → a ≡ true → b ≡ true → (a && b) ≡ true
both true true p q = refl
both true false p q = q
both false b p q = p

digit_byte : (b : ℕ) → is_ascii_digit b ≡ true → is_code_byte b ≡ true
digit_byte b digit = grind (arith, nat_tests)

digit_bytes : (ds : List ℕ) → list_all is_ascii_digit ds ≡ true → list_all is_code_byte ds ≡ true
digit_bytes [] all = refl
digit_bytes (d ∷ ds) all =
    let parts = and_parts (is_ascii_digit d) (list_all is_ascii_digit ds) all in
    both (is_code_byte d) (list_all is_code_byte ds) (digit_byte d parts.0) (digit_bytes ds parts.1)

at_most_16 : (n : ℕ) → n ≤ 16 → nat_le n 16 ≡ true
at_most_16 n few = grind (arith, nat_tests)

at_least_1 : (n : ℕ) → 1 ≤ n → nat_le 1 n ≡ true
at_least_1 n some = grind (arith, nat_tests)

-- with a letter that codes may have
pub drawn-code : (l i : ℕ) → is_code_byte l ≡ true → i < 20000 → is_code (drawn_code l i) ≡ true
drawn-code l i letter small =
    let bytes : list_all is_ascii_digit (decimal (i + 1)) ≡ true = digits_decimal own (i + 1) (omega arith) in
    let short : length (decimal (i + 1)) ≤ 5 = length-decimal-le 5 (i + 1) (omega arith) (omega arith) (omega arith) in
    let few : length (drawn_code l i) ≤ 16 = omega (arith, short) in
    let some : 1 ≤ length (drawn_code l i) = omega arith in
    both (nat_le 1 (length (drawn_code l i))) (nat_le (length (drawn_code l i)) 16 && list_all is_code_byte (drawn_code l i)) (at_least_1 (length (drawn_code l i)) some)
    (both (nat_le (length (drawn_code l i)) 16) (list_all is_code_byte (drawn_code l i)) (at_most_16 (length (drawn_code l i)) few)
    (both (is_code_byte 95) (list_all is_code_byte (l ∷ decimal (i + 1))) refl
    (both (is_code_byte l) (list_all is_code_byte (decimal (i + 1))) letter (digit_bytes (decimal (i + 1)) bytes))))

-- so that it is read
pub digits-short : (i : ℕ) → i < 20000 → length (decimal (i + 1)) ≤ 5
digits-short i small = length-decimal-le 5 (i + 1) (omega arith) (omega arith) (omega arith)

pub read-drawn : (l i : ℕ) (field : List ℕ) (found : Option (List ℕ)) → field ≡ drawn_code l i → is_code_byte l ≡ true → i < 20000 → found ≡ code_of field → found ≡ Some (drawn_code l i)
read-drawn l i field found is letter small read =
    read ∙ (ap code_of is ∙ cond-true (is_code (drawn_code l i)) (Some (drawn_code l i)) None (drawn-code l i letter small))

code_byte-ascii : (b : ℕ) → is_code_byte b ≡ true → b < 128
code_byte-ascii b code = grind (arith, nat_tests)

bytes-text : (bytes : List ℕ) → list_all is_code_byte bytes ≡ true → IsUtf8 bytes
bytes-text [] all = IsUtf8-nil
bytes-text (b ∷ bytes) all =
    let parts = and_parts (is_code_byte b) (list_all is_code_byte bytes) all in join_ascii b bytes (code_byte-ascii b parts.0) (bytes-text bytes parts.1)

-- a code is text
pub code-text : (code : List ℕ) → is_code code ≡ true → IsUtf8 code
code-text code is =
    let parts = and_parts (nat_le 1 (length code)) (nat_le (length code) 16 && list_all is_code_byte code) is in
    let more = and_parts (nat_le (length code) 16) (list_all is_code_byte code) parts.1 in
    bytes-text code more.1
