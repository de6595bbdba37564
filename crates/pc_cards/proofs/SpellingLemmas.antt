-- Each form has one text per value: the text written for the value of a field that fits is the field.
use Rattle.std.proofs.Common.{◌≡◌, ℕ, Bool, true, false, not, ◌||◌, List, [], ◌∷◌, length, map, Some, None, is_some, unwrap_or, if◌then◌else◌, bytes_eq, codes, Result, Ok, Err, refl, sym, arith, ℤ}
use Rattle.std.specs.Prelude.{decimal, pos}
use Rattle.std.specs.Result.{result_unwrap_or}
use Rattle.std.proofs.lemmas.Bool.{eqb-true}
use Rattle.std.specs.Cmp.Lexicographic.{bytes_decides}
use Rattle.pc_text.specs.Code.{code_of, is_code}
use Rattle.pc_text.specs.Number.{number_of, value_after}
use Rattle.pc_text.specs.inside.Number.{is_number}
use Rattle.pc_text.proofs.NumberLemmas.{spelled_by}
use Rattle.pc_days.specs.Dates.{day_of}
use Rattle.pc_days.specs.Calendar.{text_of_day}
use Rattle.pc_days.specs.declared.day.DayError.{DayError}
use Rattle.pc_days.specs.declared.day.DayError.TheVariants.{Shape, Years}
use Rattle.pc_days.proofs.CalendarLaws.{text_of-read}
use Rattle.pc_records.specs.Deck.{is_empty}
use Rattle.pc_cards.specs.Forms.{AllFit, Fits, Slot, code_text, day_in, field_numbered, is_misshapen, is_of_other_years, letter_text, number_in, number_text}
use Rattle.pc_cards.specs.declared.form.FieldForm.{FieldForm}
use Rattle.pc_cards.specs.declared.form.FieldForm.TheVariants as form

-- the text written for the value of a field
abbrev pub respelled : FieldForm → List ℕ → List ℕ
respelled form.Code field = field
respelled form.GivenCode field = field
respelled form.CodeOrNone field = code_text (code_of field)
respelled form.Title field = field
respelled form.Date field = text_of_day (day_in field)
respelled (form.Number least most) field = decimal (number_in field)
respelled (form.NumberOrNone least most) field = number_text (number_of field)
respelled form.Letter field = letter_text (bytes_eq field (codes "F"))

empty_is : (field : List ℕ) → is_empty field ≡ true → [] ≡ field
empty_is [] h = refl
empty_is (b ∷ rest) h = let none = eqb-true (length (b ∷ rest)) 0 h in absurd (omega arith)

no_code : (test : Bool) (field : List ℕ) → (is_empty field || test) ≡ true → code_text (if test then Some field else None) ≡ field
no_code true field h = refl
no_code false field h = empty_is field (or_first (is_empty field) h)
  where
    or_first : (b : Bool) → (b || false) ≡ true → b ≡ true
    or_first true h = refl
    or_first false h = h

a_number : (test : Bool) (field : List ℕ) → is_number field ≡ test → is_some (if test then Some (value_after 0 field) else None) ≡ true →
    decimal (unwrap_or (if test then Some (value_after 0 field) else None) 0) ≡ field
a_number true field is h = sym (spelled_by field is).1
a_number false field is h = absurd (let h' = h in cc)

a_number_or_none : (test : Bool) (field : List ℕ) → is_number field ≡ test →
    (is_empty field || is_some (if test then Some (value_after 0 field) else None)) ≡ true →
    number_text (if test then Some (value_after 0 field) else None) ≡ field
a_number_or_none true field is h = sym (spelled_by field is).1
a_number_or_none false field is h = empty_is field (or_first (is_empty field) h)
  where
    or_first : (b : Bool) → (b || false) ≡ true → b ≡ true
    or_first true h = refl
    or_first false h = h

a_day : (field : List ℕ) (read : Result ℤ DayError) → day_of field ≡ read → not (is_misshapen read) ≡ true → is_of_other_years read ≡ false → text_of_day (result_unwrap_or read (pos 0)) ≡ field
a_day field (Ok day) is shape years = sym (text_of-read field day is)
a_day field (Err Shape) is shape years = absurd (let shape' = shape in cc)
a_day field (Err Years) is shape years = absurd (let years' = years in cc)

a_letter : (finish : Bool) (field : List ℕ) → bytes_eq field (codes "F") ≡ finish → (bytes_eq field (codes "S") || finish) ≡ true → letter_text finish ≡ field
a_letter true field is h = sym ((bytes_decides field (codes "F")).0 is)
a_letter false field is h = sym ((bytes_decides field (codes "S")).0 (or_first (bytes_eq field (codes "S")) h))
  where
    or_first : (b : Bool) → (b || false) ≡ true → b ≡ true
    or_first true h = refl
    or_first false h = h

-- the field itself is written
pub respelled-same : (form : FieldForm) (field : List ℕ) → Fits form field → respelled form field ≡ field
respelled-same form.Code field fit = refl
respelled-same form.GivenCode field fit = refl
respelled-same form.CodeOrNone field fit = no_code (is_code field) field fit.0
respelled-same form.Title field fit = refl
respelled-same form.Date field fit = a_day field (day_of field) refl fit.0 fit.1
respelled-same (form.Number least most) field fit = a_number (is_number field) field refl fit.0
respelled-same (form.NumberOrNone least most) field fit = a_number_or_none (is_number field) field refl fit.0
respelled-same form.Letter field fit = a_letter (bytes_eq field (codes "F")) field refl fit.0

-- the texts written for the values of a card's fields
abbrev pub all_respelled : List Slot → List (List ℕ) → List (List ℕ)
all_respelled slots fields = map (λ slot. respelled slot.1 (field_numbered fields slot.0)) slots

-- the fields of a card, as many as it has slots
abbrev pub fields_of : List Slot → List (List ℕ) → List (List ℕ)
fields_of slots fields = map (λ slot. field_numbered fields slot.0) slots

-- they are the fields
pub all_respelled-same : (slots : List Slot) (fields : List (List ℕ)) → AllFit slots fields → all_respelled slots fields ≡ fields_of slots fields
all_respelled-same [] fields fit = refl
all_respelled-same (slot ∷ slots) fields fit = λ i. respelled-same slot.1 (field_numbered fields slot.0) fit.0 i ∷ all_respelled-same slots fields fit.1 i
