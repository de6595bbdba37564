-- The fields of a line: each is a space and the word after it.
use Rattle.std.specs.Prelude.{◌≡◌, ◌≢◌, ℕ, zero, suc, true, ◌==◌, List, [], ◌∷◌, ◌++◌, length, take, drop, Option, Some, None, if◌then◌else◌}
use Rattle.pc_text.specs.Code.{is_code, code_of}
use Rattle.pc_text.specs.Number.{numeral_of}

infixl 10 ◌>>=◌
-- the function applied to a value, if there is one
abbrev pub ◌>>=◌ : {A B : Type 0} → Option A → (A → Option B) → Option B
(Some x) >>= f = f x
None >>= f = None

-- a space (32), the word, and what follows
abbrev pub spaced : List ℕ → List ℕ → List ℕ
spaced word rest = 32 ∷ (word ++ rest)

-- the byte does not occur in the text
abbrev pub Lacks : ℕ → List ℕ → Type 0
Lacks byte [] = Unit {0}
Lacks byte (b ∷ bs) = (b ≢ byte) × Lacks byte bs

-- a code
abbrev pub IsCode : List ℕ → Type 0
IsCode code = is_code code ≡ true

-- how many bytes are before the first `stop`
abbrev pub run_len : ℕ → List ℕ → ℕ
run_len stop [] = zero
run_len stop (b ∷ bs) = if b == stop then zero else suc (run_len stop bs)

-- the word after the space at the front, and the bytes after the word
unfoldable pub field : List ℕ → Option (List ℕ × List ℕ)
field [] = None
field (b ∷ bs) = if b == 32 then Some (take (run_len 32 bs) bs, drop (run_len 32 bs) bs) else None

-- the value of the word after the space at the front, and the bytes after it
unfoldable pub field_by : {A : Type 0} → (List ℕ → Option A) → List ℕ → Option (A × List ℕ)
field_by read bytes = do
  word ← field bytes
  value ← read word.0
  Some (value, word.1)

-- the code after the space at the front, and the bytes after it
abbrev pub code_field : List ℕ → Option (List ℕ × List ℕ)
code_field bytes = field_by code_of bytes

-- the number of at most `most` digits after the space at the front, and the bytes after it
unfoldable pub number_field : ℕ → List ℕ → Option (ℕ × List ℕ)
number_field most bytes = field_by (numeral_of most) bytes

-- the value, if nothing is left after it
abbrev pub alone : {A : Type 0} → List ℕ → A → Option A
alone rest value = if length rest == 0 then Some value else None
