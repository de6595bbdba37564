-- The text of records: it is the same whether or not records may be of any length, and it is read back.
use Rattle.std.proofs.Common.{◌≡◌, ◌∙◌, true, false, ℕ, List, [], ◌∷◌, ◌++◌, length, nat_eq, Some, refl, sym, ap, All, ◌<◌, arith, suc, inl, inr}
use Rattle.std.specs.List.{starts_with}
use Rattle.std.proofs.lemmas.Bool.{and_parts, cases_Bool, eqb-true, false≢true}
use Rattle.csv.specs.Machine.{next_record}
use Rattle.csv.specs.Reading.{is_bom, strip_bom}
use Rattle.csv.specs.Writing.{default_writer, escaped, field_text, fields_text, is_blank, read_back, row_text}
use Rattle.csv.specs.declared.parser.State.TheVariants as st
use Rattle.csv.proofs.RoundTrip.{read-write}
use Rattle.pc_records.specs.Deck.{deck_records, mark, without_mark}
use Rattle.pc_records.specs.inside.Reading.{records_after}
use Rattle.pc_records.specs.Text.{record_text, records_text}
use Rattle.pc_records.specs.inside.Writing.{any_length}
use Rattle.pc_records.proofs.DeckFacts.{records_after-next, records_after-none}

-- a field between quotes
escaped-any_length : (field : List ℕ) → escaped any_length field ≡ escaped default_writer field
unfolding escaped
escaped-any_length [] = refl
escaped-any_length (b ∷ rest) = rw (escaped-any_length rest) refl

field_text-any_length : (field : List ℕ) → field_text any_length field ≡ field_text default_writer field
field_text-any_length field = rw (escaped-any_length field) refl

fields_text-any_length : (fields : List (List ℕ)) → fields_text any_length fields ≡ fields_text default_writer fields
unfolding fields_text
fields_text-any_length [] = refl
fields_text-any_length (field ∷ rest) = rw (field_text-any_length field, fields_text-any_length rest) refl

is_blank-any_length : (fields : List (List ℕ)) → is_blank any_length fields ≡ is_blank default_writer fields
unfolding is_blank
is_blank-any_length [] = refl
is_blank-any_length (field ∷ []) = rw (field_text-any_length field) refl
is_blank-any_length (field ∷ next ∷ rest) = refl

-- a writer of records of any length writes each as the default one does
pub row_text-any_length : (fields : List (List ℕ)) → row_text any_length fields ≡ record_text fields
unfolding record_text
row_text-any_length [] = rw (is_blank-any_length []) refl
row_text-any_length (field ∷ rest) =
    rw (field_text-any_length field, fields_text-any_length rest, is_blank-any_length (field ∷ rest)) refl

-- a record has a field, so that it reads back as it is
abbrev pub HasField : List (List ℕ) → Type 0
HasField row = 0 < length row

read_back-same : (row : List (List ℕ)) → HasField row → read_back row ≡ row
read_back-same [] some = absurd (omega arith)
read_back-same (field ∷ rest) some = refl

-- the records of the text of records are these records
after-records_text : (rows : List (List (List ℕ))) → All HasField rows → records_after st.StartRecord (Some (records_text rows)) ≡ rows
unfolding record_text next_record
after-records_text [] all = records_after-none st.StartRecord [] refl
after-records_text (row ∷ rows) all =
    let next = records_after-next st.StartRecord (record_text row ++ records_text rows) (read_back row, st.StartRecord, records_text rows) refl (read-write row (records_text rows)) in
    let some : HasField row = all 0 row (omega arith) in
    let rest : All HasField rows = λ k d below. all (suc k) d (omega arith) in
    next
    ∙ ap (λ first. first ∷ records_after st.StartRecord (Some (records_text rows))) (read_back-same row some)
    ∙ ap (λ more. row ∷ more) (after-records_text rows rest)

-- a text with no mark in front is read as it is
without_mark-none : (text : List ℕ) → starts_with nat_eq text mark ≡ false → without_mark text ≡ text
without_mark-none text none = rw none refl

is_bom-none : (a b c : ℕ) (rest : List ℕ) → starts_with nat_eq (a ∷ b ∷ c ∷ rest) mark ≡ false → is_bom a b c ≡ false
is_bom-none a b c rest none = elim (cases_Bool (is_bom a b c)) [
  | inl is ↦
      let parts = and_parts _ _ is in
      let front = and_parts _ _ parts.0 in
      let both : true ≡ false = rw (eqb-true a 0xEF front.0, eqb-true b 0xBB front.1, eqb-true c 0xBF parts.1) at none in
      absurd (false≢true (sym both))
  | inr other ↦ other
]

strip_bom-none : (text : List ℕ) → starts_with nat_eq text mark ≡ false → strip_bom text ≡ text
unfolding strip_bom
strip_bom-none [] none = refl
strip_bom-none (a ∷ []) none = refl
strip_bom-none (a ∷ b ∷ []) none = refl
strip_bom-none (a ∷ b ∷ c ∷ rest) none =
    rw (is_bom-none a b c rest none) refl

-- the records of a deck's text are the rows that it was written from: each has a field, and no mark comes first
pub deck_records-records_text : (rows : List (List (List ℕ))) → All HasField rows → starts_with nat_eq (records_text rows) mark ≡ false
    → deck_records (records_text rows) ≡ rows
deck_records-records_text rows some none =
    rw (without_mark-none (records_text rows) none, strip_bom-none (records_text rows) none) (after-records_text rows some)
