-- What one field of a card must be.
-- Here is what no clause of a top call and no law reaches.
use Rattle.std.specs.Prelude.{◌≡◌, ℕ, Bool, true, false, List, [], ◌∷◌, Option, Some, None, ◌⊎◌, ◌==◌, if◌then◌else◌}
use Rattle.pc_cards.specs.declared.field.Flaw.{Flaw}
use Rattle.pc_cards.specs.declared.field.Flaw.TheVariants as flaw
use Rattle.pc_cards.specs.declared.field.Misfit.{Misfit}
use Rattle.pc_cards.specs.declared.form.FieldForm.{FieldForm}
use Rattle.pc_cards.specs.Forms.{Slot, has_shape, is_over_limit, field_numbered, Fits}

-- whether it is the shape that is wrong
abbrev pub is_of_shape : Flaw → Bool
is_of_shape flaw.Shape = true
is_of_shape flaw.Limit = false

-- what is wrong with a field of this form, if anything is
abbrev pub flaw_of : FieldForm → List ℕ → Option Flaw
flaw_of form field = if has_shape form field then (if is_over_limit form field then Some flaw.Limit else None) else Some flaw.Shape

-- the field error names this field number and what is wrong with the field, which must have this form
abbrev pub IsMisfit : ℕ → FieldForm → List ℕ → Misfit → Type 0
IsMisfit number form field misfit = (number ≡ misfit.number) × (flaw_of form field ≡ Some misfit.flaw)

-- this is the first of the fields that is not what it must be
abbrev pub IsFirstMisfit : List Slot → List (List ℕ) → Misfit → Type 0
IsFirstMisfit [] fields misfit = ⊥
IsFirstMisfit (slot ∷ slots) fields misfit =
    IsMisfit slot.0 slot.1 (field_numbered fields slot.0) misfit
    ⊎ (Fits slot.1 (field_numbered fields slot.0) × IsFirstMisfit slots fields misfit)

-- the slots after the first with a number
abbrev pub slots_behind : ℕ → List Slot → List Slot
slots_behind number [] = []
slots_behind number (slot ∷ slots) = if slot.0 == number then slots else slots_behind number slots
