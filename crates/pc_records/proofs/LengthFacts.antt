-- How long the text of a record is at most.
use Rattle.std.proofs.Common.{◌≡◌, ◌==◌, ◌+◌, ◌*◌, ◌≤◌, Bool, true, false, ℕ, List, [], ◌∷◌, ◌++◌, length, length-append, refl, sym, ◌∙◌, subst, inl, inr, if◌then◌else◌, arith}
use Rattle.std.specs.List.{list_all, list_any}
use Rattle.std.proofs.lemmas.Bool.{and_parts, cases_Bool, eqb-true, false≢true}
use Rattle.csv.specs.Writing.{default_writer, escaped, field_text, fields_text, is_blank, needs_byte, quoted}
use Rattle.pc_records.specs.Text.{record_text}

-- a field as it is written
abbrev pub written_field : List ℕ → List ℕ
written_field field = field_text default_writer field

-- a quote that is written twice makes a field at most twice as long
length-escaped : (field : List ℕ) → length (escaped default_writer field) ≤ 2 * length field
unfolding escaped
length-escaped [] = omega arith
length-escaped (b ∷ rest) = by (b == 34) (length-escaped rest)
  where
    by : (test : Bool) → length (escaped default_writer rest) ≤ 2 * length rest
        → length (if test then 34 ∷ b ∷ escaped default_writer rest else b ∷ escaped default_writer rest) ≤ 2 * length (b ∷ rest)
    by true more = omega arith
    by false more = omega arith

-- and there are quotes around it
pub length-written_field : (field : List ℕ) → length (written_field field) ≤ 2 * length field + 2
length-written_field field = by (list_any (needs_byte default_writer) field)
  where
    by : (needs : Bool) → length (if needs then quoted default_writer field else field) ≤ 2 * length field + 2
    by true = omega (arith, length-escaped field, length-append (escaped default_writer field) (34 ∷ []))
    by false = omega arith

-- bytes that pass a test are written as they are, where no byte that calls for quotes passes it
pub record IsPlain (passes : ℕ → Bool) : Type 0 where
  pub comma : passes 44 ≡ false
  pub quote : passes 34 ≡ false
  pub carriage_return : passes 13 ≡ false
  pub line_feed : passes 10 ≡ false

other_byte : (passes : ℕ → Bool) (b mark : ℕ) → passes mark ≡ false → passes b ≡ true → (b == mark) ≡ false
other_byte passes b mark none pass = elim (cases_Bool (b == mark)) [
  | inl same ↦ absurd (false≢true (sym none ∙ subst (λ (c : ℕ). passes c ≡ true) (eqb-true b mark same) pass))
  | inr other ↦ other
]

plain_byte : (passes : ℕ → Bool) (b : ℕ) → IsPlain passes → passes b ≡ true → needs_byte default_writer b ≡ false
plain_byte passes b plain pass =
    rw (other_byte passes b 44 plain.comma pass, other_byte passes b 34 plain.quote pass, other_byte passes b 13 plain.carriage_return pass, other_byte passes b 10 plain.line_feed pass) refl

plain_field : (passes : ℕ → Bool) (field : List ℕ) → IsPlain passes → list_all passes field ≡ true → list_any (needs_byte default_writer) field ≡ false
plain_field passes [] plain pass = refl
plain_field passes (b ∷ rest) plain pass =
    let parts = and_parts (passes b) (list_all passes rest) pass in
    rw (plain_byte passes b plain parts.0) (plain_field passes rest plain parts.1)

pub written_field-plain : (passes : ℕ → Bool) (field : List ℕ) → IsPlain passes → list_all passes field ≡ true → written_field field ≡ field
written_field-plain passes field plain pass = rw (plain_field passes field plain pass) refl

-- how long fields are as they are written, a comma or the end of the line after each
abbrev pub written_length : List (List ℕ) → ℕ
written_length [] = 0
written_length (field ∷ rest) = (length (written_field field) + 1) + written_length rest

length-fields_text : (fields : List (List ℕ)) → length (fields_text default_writer fields) ≡ written_length fields
unfolding fields_text
length-fields_text [] = refl
length-fields_text (field ∷ rest) = omega (arith, length-append (written_field field) (fields_text default_writer rest), length-fields_text rest)

-- a record of fields is no longer, but for two quotes where it shows no byte
pub length-record_text : (field : List ℕ) (rest : List (List ℕ)) → length (record_text (field ∷ rest)) ≤ written_length (field ∷ rest) + 2
unfolding record_text
length-record_text field rest = by (is_blank default_writer (field ∷ rest))
  where
    body : List ℕ
    body = written_field field ++ fields_text default_writer rest

    blank : Bool → List ℕ
    blank test = if test then 34 ∷ 34 ∷ [] else []

    by : (test : Bool) → length (body ++ (blank test ++ 10 ∷ [])) ≤ written_length (field ∷ rest) + 2
    by true = omega (arith, length-append body (34 ∷ 34 ∷ 10 ∷ []), length-append (written_field field) (fields_text default_writer rest), length-fields_text rest)
    by false = omega (arith, length-append body (10 ∷ []), length-append (written_field field) (fields_text default_writer rest), length-fields_text rest)
