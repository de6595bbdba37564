-- What one field of a card must be.
use Rattle.std.specs.Prelude.{◌≡◌, ℕ, ℤ, pos, ◌-◌, Bool, true, false, not, ◌||◌, nat_lt, List, [], ◌∷◌, length, drop, Option, Some, None}
use Rattle.std.specs.Prelude.{is_some, unwrap_or, Result, Ok, Err, find, bytes_eq, codes, decimal, nat_le, nat_eq, ◌&&◌, if◌then◌else◌}
use Rattle.std.specs.List.{starts_with}
use Rattle.std.specs.Result.{result_unwrap_or}
use Rattle.pc_records.specs.Deck.{is_blank, is_empty}
use Rattle.pc_model.specs.Codes.{text_at}
use Rattle.pc_text.specs.Code.{is_code}
use Rattle.pc_text.specs.Title.{is_title_shape}
use Rattle.pc_text.specs.Number.{number_of}
use Rattle.pc_days.specs.Dates.{day_of}
use Rattle.pc_days.specs.declared.day.DayError.{DayError}
use Rattle.pc_days.specs.declared.day.DayError.TheVariants.{Shape, Years}
use Rattle.pc_model.specs.declared.limits.TheConstants.{MAX_COST, MAX_DURATION}
use Rattle.pc_cards.specs.declared.form.FieldForm.{FieldForm}
use Rattle.pc_cards.specs.declared.form.FieldForm.TheVariants as form
use Rattle.pc_cards.specs.declared.sort.Sort.{Sort}
use Rattle.pc_cards.specs.declared.sort.Sort.TheVariants.{Plan, Tasks}

-- the number of a field, the kind being field 1, and what the field must be
abbrev pub Slot : Type 0
Slot = ℕ × FieldForm

-- an estimate or a duration, in units
abbrev pub duration : FieldForm
duration = form.Number 0 MAX_DURATION

-- an amount of money
abbrev pub money : FieldForm
money = form.Number 0 MAX_COST

-- the code that a card gives to what it represents: in a deck of tasks it is not one of the codes that are added to
-- such a deck
abbrev pub own_code : Sort → FieldForm
own_code Plan = form.Code
own_code Tasks = form.GivenCode

-- whether reading a date found no date of the calendar
abbrev pub is_misshapen : {A : Type 0} → Result A DayError → Bool
is_misshapen (Ok day) = false
is_misshapen (Err Shape) = true
is_misshapen (Err Years) = false

-- whether reading a date found one of a year that a deck must not name
abbrev pub is_of_other_years : {A : Type 0} → Result A DayError → Bool
is_of_other_years (Ok day) = false
is_of_other_years (Err Shape) = false
is_of_other_years (Err Years) = true

-- the codes that begin with `_` are for what is added to a deck of tasks
abbrev pub is_reserved : List ℕ → Bool
is_reserved field = starts_with nat_eq field (codes "_")

-- the field has the shape that it must have: a code, a title, a date of the calendar, a number, or `S` or `F`
abbrev pub has_shape : FieldForm → List ℕ → Bool
has_shape form.Code field = is_code field
has_shape form.GivenCode field = is_code field && not (is_reserved field)
has_shape form.CodeOrNone field = is_empty field || is_code field
has_shape form.Title field = is_title_shape field
has_shape form.Date field = not (is_misshapen (day_of field))
has_shape (form.Number least most) field = is_some (number_of field)
has_shape (form.NumberOrNone least most) field = is_empty field || is_some (number_of field)
has_shape form.Letter field = bytes_eq field (codes "S") || bytes_eq field (codes "F")

-- a number that was read is outside its limits
abbrev pub is_outside : ℕ → ℕ → Option ℕ → Bool
is_outside least most None = false
is_outside least most (Some number) = nat_lt number least || nat_lt most number

-- the field is over its limit: a title of more than 80 bytes, a date outside 1900 to 2199, a number outside its limits
abbrev pub is_over_limit : FieldForm → List ℕ → Bool
is_over_limit form.Code field = false
is_over_limit form.GivenCode field = false
is_over_limit form.CodeOrNone field = false
is_over_limit form.Title field = nat_lt 80 (length field)
is_over_limit form.Date field = is_of_other_years (day_of field)
is_over_limit (form.Number least most) field = is_outside least most (number_of field)
is_over_limit (form.NumberOrNone least most) field = is_outside least most (number_of field)
is_over_limit form.Letter field = false

-- the field with a number, counted from 1
abbrev pub field_numbered : List (List ℕ) → ℕ → List ℕ
field_numbered fields number = text_at fields (number - 1)

-- the field is what it must be
abbrev pub Fits : FieldForm → List ℕ → Type 0
Fits form field = (has_shape form field ≡ true) × (is_over_limit form field ≡ false)

-- each of the fields is what it must be
abbrev pub AllFit : List Slot → List (List ℕ) → Type 0
AllFit [] fields = Unit {0}
AllFit (slot ∷ slots) fields = Fits slot.1 (field_numbered fields slot.0) × AllFit slots fields

-- the record has enough fields, and those past the most that it may have are empty
abbrev pub is_whole : ℕ → ℕ → List (List ℕ) → Bool
is_whole least most fields = nat_le least (length fields) && is_blank (drop most fields)

-- the slot of the first field that does not have the shape that it must have
abbrev pub first_misshapen : List Slot → List (List ℕ) → Option Slot
first_misshapen slots fields = find (λ slot. not (has_shape slot.1 (field_numbered fields slot.0))) slots

-- the first field that is over its limit
abbrev pub first_over_limit : List Slot → List (List ℕ) → Option Slot
first_over_limit slots fields = find (λ slot. is_over_limit slot.1 (field_numbered fields slot.0)) slots

-- the number in a field
abbrev pub number_in : List ℕ → ℕ
number_in field = unwrap_or (number_of field) 0

-- the day whose date a field is
abbrev pub day_in : List ℕ → ℤ
day_in field = result_unwrap_or (day_of field) (pos 0)

-- a code as it is written, or nothing
abbrev pub code_text : Option (List ℕ) → List ℕ
code_text None = []
code_text (Some code) = code

-- a number as it is written, in decimal form, or nothing
abbrev pub number_text : Option ℕ → List ℕ
number_text None = []
number_text (Some number) = decimal number

-- the letter F or S
abbrev pub letter_text : Bool → List ℕ
letter_text finished = if finished then codes "F" else codes "S"
