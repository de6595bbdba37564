-- Words of a line, and the bytes after them.
use Rattle.std.proofs.Common.{◌≡◌, ℕ, ◌^◌, ◌<◌, suc, Bool, true, false, ◌&&◌, cond, List, [], ◌∷◌, ◌++◌, length, take, drop, Option, Some, None, refl, ap, subst, ◌∙◌}
use Rattle.std.proofs.lemmas.Bool.{eqb-true, eq-eqb, ne_eqb}
use Rattle.std.proofs.lemmas.Option.{cond_some}
use Rattle.std.proofs.lemmas.List.{take-append-drop, append-nil, nil_from_length}
use Rattle.std.proofs.Math.Seq.{take-append_seam, drop-append_seam}
use Rattle.std.specs.List.{list_all}
use Rattle.pc_text.specs.Code.{is_code, is_code_byte, code_of}
use Rattle.std.specs.Char.{is_ascii_digit}
use Rattle.std.specs.Fmt.{decimal}
use Rattle.pc_text.specs.Number.{numeral_of}
use Rattle.pc_text.specs.Fields.{◌>>=◌, spaced, Lacks, IsCode, run_len, field, field_by, code_field, number_field, alone}
use Rattle.pc_text.proofs.NumberLemmas.{IsLimit, decimal_parts, number_takes, number_again}

-- the value that something came of
pub bind_some : {A B : Type 0} (o : Option A) (f : A → Option B) (y : B) → (o >>= f) ≡ Some y → (x : A) × (o ≡ Some x) × (f x ≡ Some y)
bind_some (Some x) f y e = (x, refl, e)
bind_some None f y e = absurd cc

-- nothing is left after a value that is alone
pub alone_takes : {A : Type 0} (rest : List ℕ) (value found : A) → alone rest value ≡ Some found → (rest ≡ []) × (value ≡ found)
alone_takes rest value found e =
    let read = cond_some _ value found e in
    (nil_from_length rest (eqb-true _ _ (read.0)), read.1)

-- a test that nothing came of
pub unless_takes : {A : Type 0} (test : Bool) (found : Option A) (a : A) → cond test None found ≡ Some a → (test ≡ false) × (found ≡ Some a)
unless_takes true found a e = absurd cc
unless_takes false found a e = (refl, e)

pub unless_again : {A : Type 0} (test : Bool) (found : Option A) → test ≡ false → cond test None found ≡ found
unless_again test found h = rw h refl

both_true : (a b : Bool) → (a && b) ≡ true → (a ≡ true) × (b ≡ true)
both_true true b h = (refl, h)
both_true false b h = absurd cc

-- a text whose bytes all pass a test that `stop` fails lacks `stop`
pub lacks : (test : ℕ → Bool) (stop : ℕ) → test stop ≡ false → (bytes : List ℕ) → list_all test bytes ≡ true → Lacks stop bytes
lacks test stop fails [] h = tt
lacks test stop fails (b ∷ bs) h =
    let parts = both_true (test b) (list_all test bs) h in
    (λ same. absurd (let passes : test stop ≡ true = subst (λ x. test x ≡ true) same (parts.0) in cc), lacks test stop fails bs (parts.1))

-- a code has only the bytes of codes
pub code_lacks : (stop : ℕ) → is_code_byte stop ≡ false → (code : List ℕ) → IsCode code → Lacks stop code
code_lacks stop fails code h = lacks is_code_byte stop fails code ((both_true _ _ ((both_true _ _ h).1)).1)

-- what lacks `stop` is a run, at the end of the bytes or before a `stop`
run_len-whole : (stop : ℕ) (bytes : List ℕ) → Lacks stop bytes → run_len stop bytes ≡ length bytes
run_len-whole stop [] h = refl
run_len-whole stop (b ∷ bs) h = rw (ne_eqb _ _ (h.0)) (ap suc (run_len-whole stop bs (h.1)))

pub run_len-before : (stop : ℕ) (bytes rest : List ℕ) → Lacks stop bytes → run_len stop (bytes ++ stop ∷ rest) ≡ length bytes
run_len-before stop [] rest h = rw (eq-eqb stop stop refl) refl
run_len-before stop (b ∷ bs) rest h = rw (ne_eqb _ _ (h.0)) (ap suc (run_len-before stop bs rest (h.1)))

-- what may follow a word: nothing, or a space
pub data IsBehind : List ℕ → Type 0 where
  nothing : IsBehind []
  space : (rest : List ℕ) → IsBehind (32 ∷ rest)

run_len-word : (word rest : List ℕ) → Lacks 32 word → IsBehind rest → run_len 32 (word ++ rest) ≡ length word
run_len-word word rest h nothing = rw append-nil (run_len-whole 32 word h)
run_len-word word rest h (space more) = run_len-before 32 word more h

-- a word that is written is read
pub field_again : (word rest : List ℕ) → Lacks 32 word → IsBehind rest → field (spaced word rest) ≡ Some (word, rest)
unfolding field
field_again word rest h behind =
    rw (run_len-word word rest h behind, take-append_seam word rest, drop-append_seam word rest) refl

-- and a word that is read was written so
pub field_takes : (bytes : List ℕ) (x : List ℕ × List ℕ) → field bytes ≡ Some x → bytes ≡ spaced (x.0) (x.1)
unfolding field
field_takes [] x e = absurd cc
field_takes (b ∷ bs) x e =
    let read = cond_some _ (take (run_len 32 bs) bs, drop (run_len 32 bs) bs) x e in
    let is_space : b ≡ 32 = eqb-true _ _ (read.0) in
    let whole : take (run_len 32 bs) bs ++ drop (run_len 32 bs) bs ≡ bs = take-append-drop (run_len 32 bs) bs in
    subst (λ (y : List ℕ × List ℕ). b ∷ bs ≡ spaced (y.0) (y.1)) (read.1) cc

-- what is read from a word follows a space, and the rest follows it
pub record TakesWord {A : Type 0} (read : List ℕ → Option A) (bytes : List ℕ) (value : A) (rest : List ℕ) : Type 0 where
  pub word : List ℕ
  pub text : bytes ≡ spaced word rest
  pub reads : read word ≡ Some value

pub field_by_takes : {A : Type 0} (read : List ℕ → Option A) (bytes : List ℕ) (x : A × List ℕ) → field_by read bytes ≡ Some x → TakesWord read bytes (x.0) (x.1)
unfolding field_by
field_by_takes {A} read bytes x e =
    let word = bind_some (field bytes) (λ word. read (word.0) >>= (λ value. Some (value, word.1))) x e in
    let value = bind_some (read (word.0.0)) (λ value. Some (value, word.0.1)) x (word.2) in
    let same : (value.0, word.0.1) ≡ x = cc in
    subst (λ (y : A × List ℕ). TakesWord read bytes (y.0) (y.1)) same (record { word = word.0.0; text = field_takes bytes (word.0) (word.1); reads = value.1 })

pub field_by_again : {A : Type 0} (read : List ℕ → Option A) (word rest : List ℕ) (value : A) → Lacks 32 word → IsBehind rest →
    read word ≡ Some value → field_by read (spaced word rest) ≡ Some (value, rest)
unfolding field_by
field_by_again read word rest value h behind reads = rw (field_again word rest h behind, reads) refl

-- a code that is read is written after a space
pub record TakesCode (bytes code rest : List ℕ) : Type 0 where
  pub text : bytes ≡ spaced code rest
  pub code_is : IsCode code

pub code_field_takes : (bytes : List ℕ) (x : List ℕ × List ℕ) → code_field bytes ≡ Some x → TakesCode bytes (x.0) (x.1)
code_field_takes bytes x e =
    let taken = field_by_takes code_of bytes x e in
    let read = cond_some (is_code taken.word) taken.word (x.0) taken.reads in
    record {
      text = taken.text ∙ ap (λ word. spaced word (x.1)) (read.1);
      code_is = subst IsCode (read.1) (read.0);
    }

pub code_field_again : (code rest : List ℕ) → IsCode code → IsBehind rest → code_field (spaced code rest) ≡ Some (code, rest)
code_field_again code rest h behind =
    field_by_again code_of code rest code (code_lacks 32 refl code h) behind (ap (λ is. cond is (Some code) None) h)

-- a number has only the bytes of digits
pub decimal_lacks : {most : ℕ} → IsLimit most → (stop : ℕ) → is_ascii_digit stop ≡ false → (n : ℕ) → n < 10 ^ most → Lacks stop (decimal n)
decimal_lacks {most} limit stop fails n h = lacks is_ascii_digit stop fails (decimal n) (decimal_parts most n limit h).digits

-- a number that is read is written after a space
pub record TakesNumber (most : ℕ) (bytes : List ℕ) (n : ℕ) (rest : List ℕ) : Type 0 where
  pub text : bytes ≡ spaced (decimal n) rest
  pub small : n < 10 ^ most

pub number_field_takes : {most : ℕ} → IsLimit most → (bytes : List ℕ) (x : ℕ × List ℕ) → number_field most bytes ≡ Some x → TakesNumber most bytes (x.0) (x.1)
unfolding number_field
number_field_takes {most} limit bytes x e =
    let taken = field_by_takes (numeral_of most) bytes x e in
    let spells = number_takes most taken.word (x.0) limit taken.reads in
    record { text = taken.text ∙ ap (λ word. spaced word (x.1)) (spells.1); small = spells.0 }

pub number_field_again : {most : ℕ} → IsLimit most → (n : ℕ) (rest : List ℕ) → n < 10 ^ most → IsBehind rest → number_field most (spaced (decimal n) rest) ≡ Some (n, rest)
unfolding number_field
number_field_again {most} limit n rest h behind =
    field_by_again (numeral_of most) (decimal n) rest n (decimal_lacks limit 32 refl n h) behind (number_again most (decimal n) n limit (h, refl))
