-- How long a field that is what it must be is at most, as it is written.
use Rattle.std.proofs.Common.{◌≡◌, ℕ, ◌+◌, ◌≤◌, Bool, true, false, not, ◌&&◌, ◌||◌, nat_le, nat_lt, List, [], ◌∷◌, length, Some}
use Rattle.std.proofs.Common.{None, is_some, if◌then◌else◌, bytes_eq, codes, Result, Ok, Err, refl, ap, inl, inr, map, arith, ℤ}
use Rattle.std.specs.List.{list_all}
use Rattle.std.specs.Char.{is_ascii_digit}
use Rattle.std.specs.Cmp.Lexicographic.{bytes_decides}
use Rattle.std.proofs.lemmas.Bool.{and_parts, cases_Bool, eqb-true}
use Rattle.std.proofs.lemmas.Bool.Decides.{nat_tests}
use Rattle.pc_records.specs.Deck.{is_empty}
use Rattle.pc_records.proofs.LengthFacts.{IsPlain, written_field-plain, length-written_field, written_field, written_length}
use Rattle.pc_text.specs.Code.{is_code, is_code_byte}
use Rattle.pc_text.specs.Number.{number_of, value_after}
use Rattle.pc_text.specs.inside.Number.{is_number}
use Rattle.pc_days.specs.Dates.{NamesDay, day_of}
use Rattle.pc_days.specs.declared.day.DayError.{DayError}
use Rattle.pc_days.specs.declared.day.DayError.TheVariants.{Shape, Years}
use Rattle.pc_days.proofs.Reading.{NamesDay-read}
use Rattle.pc_cards.specs.Forms.{AllFit, Fits, Slot, field_numbered, is_misshapen, is_of_other_years, is_reserved}
use Rattle.pc_cards.specs.declared.form.FieldForm.{FieldForm}
use Rattle.pc_cards.specs.declared.form.FieldForm.TheVariants as form

-- how many bytes a field takes at most as it is written: codes and numbers go without quotes, and a title of 80 quotes
-- takes each twice and two around them
abbrev pub room : FieldForm → ℕ
room form.Code = 16
room form.GivenCode = 16
room form.CodeOrNone = 16
room form.Title = 162
room form.Date = 22
room (form.Number least most) = 13
room (form.NumberOrNone least most) = 13
room form.Letter = 4

code_bytes : IsPlain is_code_byte
code_bytes = record { comma = refl; quote = refl; carriage_return = refl; line_feed = refl }

digits : IsPlain is_ascii_digit
digits = record { comma = refl; quote = refl; carriage_return = refl; line_feed = refl }

at_most : (a b : ℕ) → nat_le a b ≡ true → a ≤ b
at_most a b is = grind (arith, nat_tests)

not_over : (a b : ℕ) → nat_lt a b ≡ false → b ≤ a
not_over a b is = grind (arith, nat_tests)

code-room : (field : List ℕ) → is_code field ≡ true → length (written_field field) ≤ 16
code-room field is =
    let some = and_parts (nat_le 1 (length field)) (nat_le (length field) 16 && list_all is_code_byte field) is in
    let short = and_parts (nat_le (length field) 16) (list_all is_code_byte field) some.1 in
    rw (written_field-plain is_code_byte field code_bytes short.1) (at_most (length field) 16 short.0)

number-room : (field : List ℕ) → is_number field ≡ true → length (written_field field) ≤ 13
number-room field is =
    let some = and_parts (nat_le 1 (length field)) _ is in
    let short = and_parts (nat_le (length field) 13) _ some.1 in
    let all = and_parts (list_all is_ascii_digit field) _ short.1 in
    rw (written_field-plain is_ascii_digit field digits all.0) (at_most (length field) 13 short.0)

-- the test of a number that was read
is_read : (test : Bool) (value : ℕ) → is_some (if test then Some value else None) ≡ true → test ≡ true
is_read true value is = refl
is_read false value is = is

none-room : (field : List ℕ) (most : ℕ) → is_empty field ≡ true → length (written_field field) ≤ most
none-room [] most is = omega arith
none-room (b ∷ rest) most is = let none = eqb-true (length (b ∷ rest)) 0 is in absurd (omega arith)

-- an empty field, or else one of a form
or_none : (test : Bool) (field : List ℕ) (most : ℕ) → (is_empty field || test) ≡ true → (test ≡ true → length (written_field field) ≤ most)
    → length (written_field field) ≤ most
or_none true field most is some = some refl
or_none false field most is some = none-room field most (or_first (is_empty field) is)
  where
    or_first : (b : Bool) → (b || false) ≡ true → b ≡ true
    or_first true is = refl
    or_first false is = is

-- a date has ten bytes
length-date : (field : List ℕ) (day : ℤ) → NamesDay field day → length field ≡ 10
length-date field day (y, (m, (d, (text, e)))) = ap length text.spelled

date-room : (field : List ℕ) (read : Result ℤ DayError) → day_of field ≡ read → not (is_misshapen read) ≡ true → is_of_other_years read ≡ false → length (written_field field) ≤ 22
date-room field (Ok day) is shape years = omega (arith, length-written_field field, length-date field day (NamesDay-read field day is))
date-room field (Err Shape) is shape years = absurd (let shape' = shape in cc)
date-room field (Err Years) is shape years = absurd (let years' = years in cc)

letter-room : (field : List ℕ) → (bytes_eq field (codes "S") || bytes_eq field (codes "F")) ≡ true → length (written_field field) ≤ 4
letter-room field is = elim (cases_Bool (bytes_eq field (codes "S"))) [
  | inl start ↦ one (codes "S") refl ((bytes_decides field (codes "S")).0 start)
  | inr other ↦ one (codes "F") refl ((bytes_decides field (codes "F")).0 (rw other at is))
]
  where
    one : (text : List ℕ) → length text ≡ 1 → field ≡ text → length (written_field field) ≤ 4
    one text single same = omega (arith, length-written_field field, ap length same, single)

-- a field that fits its form takes no more
pub length-fits : (form : FieldForm) (field : List ℕ) → Fits form field → length (written_field field) ≤ room form
length-fits form.Code field fit = code-room field fit.0
length-fits form.GivenCode field fit = code-room field (and_parts (is_code field) (not (is_reserved field)) fit.0).0
length-fits form.CodeOrNone field fit = or_none (is_code field) field 16 fit.0 (code-room field)
length-fits form.Title field fit = let short = not_over 80 (length field) fit.1 in omega (arith, length-written_field field, short)
length-fits form.Date field fit = date-room field (day_of field) refl fit.0 fit.1
length-fits (form.Number least most) field fit = number-room field (is_read (is_number field) (value_after 0 field) fit.0)
length-fits (form.NumberOrNone least most) field fit =
    or_none (is_some (number_of field)) field 13 fit.0 (λ some. number-room field (is_read (is_number field) (value_after 0 field) some))
length-fits form.Letter field fit = letter-room field fit.0

-- how many bytes the fields after the kind take at most, a comma or the end of the line after each
abbrev pub rooms : List Slot → ℕ
rooms [] = 0
rooms (slot ∷ slots) = (room slot.1 + 1) + rooms slots

-- fields that are what they must be take no more
pub length-all_fit : (slots : List Slot) (fields : List (List ℕ)) → AllFit slots fields
    → written_length (map (λ (slot : Slot). field_numbered fields slot.0) slots) ≤ rooms slots
length-all_fit [] fields fit = omega arith
length-all_fit (slot ∷ slots) fields fit =
    omega (arith, length-fits slot.1 (field_numbered fields slot.0) fit.0, length-all_fit slots fields fit.1)
