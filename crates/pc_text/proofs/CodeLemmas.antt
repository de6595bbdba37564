-- Copying a text into cells, byte by byte.
use Rattle.std.proofs.Common.{◌≡◌, ℕ, ◌+◌, ◌-◌, ◌<◌, ◌≤◌, Bool, true, false, ◌&&◌, not, nat_eq, if◌then◌else◌, Some, None, List, map, [], ◌∷◌, ◌++◌, length, take, set, get_or}
use Rattle.std.proofs.Common.{replicate, refl, sym, ap, subst, ◌∙◌, arith, zero, suc, append_assoc, length-take-le}
use Rattle.std.proofs.lemmas.List.{length-map, take_all, take_more}
use Rattle.std.proofs.Math.Seq.{set-append_seam}
use Rattle.std.proofs.lemmas.Bool.{and_parts, eqb-true, false≢true}
use Rattle.std.specs.List.{list_all}
use Rattle.pc_text.specs.Code.{is_code_byte}
use Rattle.pc_text.specs.inside.Words.{padded}

-- the first of the zeros after a text is set
set_behind : (xs : List ℕ) (zeros : ℕ) (y : ℕ) → set (xs ++ replicate (suc zeros) 0) (length xs) y ≡ xs ++ y ∷ replicate zeros 0
set_behind xs zeros y = set-append_seam xs 0 (replicate zeros 0) y

-- one more byte is copied
pub one_more_copied : (field : List ℕ) (i : ℕ) → i < length field → length field ≤ 16 →
    set (take i field ++ replicate (16 - i) 0) i (get_or field i 0) ≡ take (i + 1) field ++ replicate (16 - (i + 1)) 0
one_more_copied field i below short =
    let long : length (take i field) ≡ i = length-take-le i field (omega arith) in
    let room : 16 - i ≡ suc (16 - (i + 1)) = omega arith in
    let behind = set_behind (take i field) (16 - (i + 1)) (get_or field i 0) in
    ap (λ at. set (take i field ++ replicate (16 - i) 0) at (get_or field i 0)) (sym long)
    ∙ ap (λ zeros. set (take i field ++ replicate zeros 0) (length (take i field)) (get_or field i 0)) room
    ∙ behind
    ∙ rw (take_more field i 0 below) (sym (append_assoc (take i field) (get_or field i 0 ∷ []) (replicate (16 - (i + 1)) 0)))

-- the byte if it is allowed in a code, and a comma (44) if it is not
abbrev pub byte_or_comma : ℕ → ℕ
byte_or_comma b = if is_code_byte b then b else 44

-- the same of a byte that is not yet in the cells
pub one_more_looked_up : (field : List ℕ) (i : ℕ) → i < length field → length field ≤ 16 →
    set (take i (map byte_or_comma field) ++ replicate (16 - i) 0) i (byte_or_comma (get_or field i 0))
    ≡ take (i + 1) (map byte_or_comma field) ++ replicate (16 - (i + 1)) 0
one_more_looked_up field i below short =
    let long : length (map byte_or_comma field) ≡ length field = length-map field byte_or_comma in
    ap (λ b. set (take i (map byte_or_comma field) ++ replicate (16 - i) 0) i b) (sym (looked_up field i below))
    ∙ one_more_copied (map byte_or_comma field) i (omega (arith, long)) (omega (arith, long))
  where
    looked_up : (xs : List ℕ) (k : ℕ) → k < length xs → get_or (map byte_or_comma xs) k 0 ≡ byte_or_comma (get_or xs k 0)
    looked_up [] k lt = absurd (omega arith)
    looked_up (x ∷ xs) zero lt = refl
    looked_up (x ∷ xs) (suc k) lt = looked_up xs k (omega arith)

-- the byte looked up is a comma if and only if the byte is not allowed in a code
comma_test : (b : ℕ) → not (nat_eq (byte_or_comma b) 44) ≡ is_code_byte b
comma_test b = by_test (is_code_byte b) refl
  where
    apart : is_code_byte b ≡ true → (test : Bool) → nat_eq b 44 ≡ test → not test ≡ true
    apart passes false is = refl
    apart passes true is = absurd (false≢true (subst (λ k. is_code_byte k ≡ true) (eqb-true b 44 is) passes))

    by_test : (test : Bool) → is_code_byte b ≡ test → not (nat_eq (if test then b else 44) 44) ≡ test
    by_test true passes = apart passes (nat_eq b 44) refl
    by_test false fails = refl

-- there is none in the cells if each byte is allowed in a code
pub no_comma : (field : List ℕ) (zeros : ℕ) → list_all (λ cell. not (nat_eq cell 44)) (map byte_or_comma field ++ replicate zeros 0) ≡ list_all is_code_byte field
no_comma [] zero = refl
no_comma [] (suc zeros) = no_comma [] zeros
no_comma (b ∷ field) zeros =
    ap (λ first. first && list_all (λ cell. not (nat_eq cell 44)) (map byte_or_comma field ++ replicate zeros 0)) (comma_test b)
    ∙ ap (λ rest. is_code_byte b && rest) (no_comma field zeros)

-- and then the bytes themselves are looked up
pub looked_up_same : (field : List ℕ) → list_all is_code_byte field ≡ true → map byte_or_comma field ≡ field
looked_up_same [] h = refl
looked_up_same (b ∷ field) h =
    let both = and_parts (is_code_byte b) (list_all is_code_byte field) h in
    ap (λ test. (if test then b else 44) ∷ map byte_or_comma field) both.0 ∙ ap (λ rest. b ∷ rest) (looked_up_same field both.1)

-- the cells are those of the field where there is no comma in them, and otherwise there are none
pub looked_through : (field cells : List ℕ) (i : ℕ) (has_no_comma : Bool) → cells ≡ take i (map byte_or_comma field) ++ replicate (16 - i) 0
    → i ≡ length field → has_no_comma ≡ list_all (λ cell. not (nat_eq cell 44)) cells
    → (if has_no_comma then Some cells else None) ≡ (if list_all is_code_byte field then Some (padded 16 field) else None)
looked_through field cells i has_no_comma written end is = rw same (by_test (list_all is_code_byte field) refl)
  where
    whole : cells ≡ map byte_or_comma field ++ replicate (16 - length field) 0
    whole =
        written
        ∙ ap (λ k. take k (map byte_or_comma field) ++ replicate (16 - k) 0) end
        ∙ ap (λ front. front ++ replicate (16 - length field) 0) (take_all (length field) (map byte_or_comma field) (omega (arith, length-map field byte_or_comma)))

    same : has_no_comma ≡ list_all is_code_byte field
    same = is ∙ ap (list_all (λ cell. not (nat_eq cell 44))) whole ∙ no_comma field (16 - length field)

    by_test : (test : Bool) → list_all is_code_byte field ≡ test → (if test then Some cells else None) ≡ (if test then Some (padded 16 field) else None)
    by_test true passes = ap Some (whole ∙ ap (λ front. front ++ replicate (16 - length field) 0) (looked_up_same field passes))
    by_test false fails = refl
