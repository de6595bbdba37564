-- What the first field that is not what it must be says of the fault of its card.
use Rattle.std.proofs.Common.{◌≡◌, ℕ, Bool, true, false, not, List, [], ◌∷◌, Option, Some, None, ◌==◌, if◌then◌else◌, refl, ap, sym, ◌∙◌, inl, inr}
use Rattle.std.proofs.lemmas.Bool.{eq-eqb}
use Rattle.pc_faults.specs.Faults as fault
use Rattle.pc_cards.specs.Forms.{Slot, field_numbered, first_misshapen, first_over_limit, has_shape, is_over_limit}
use Rattle.pc_cards.specs.inside.Forms.{IsMisfit, IsFirstMisfit, is_of_shape, slots_behind}
use Rattle.pc_cards.specs.inside.Findings.{flaw_of_fields, misshapen_at, over_limit_at}
use Rattle.pc_cards.specs.declared.field.Flaw.{Flaw}
use Rattle.pc_cards.specs.declared.field.Flaw.TheVariants as flaw
use Rattle.pc_cards.specs.declared.field.Misfit.{Misfit}
use Rattle.pc_cards.specs.declared.form.FieldForm.{FieldForm}
use Rattle.pc_cards.proofs.FindLemmas.{none_then, some_first}

-- what a flaw says of the two tests
flawed : (shape limit : Bool) (found : Flaw) → (if shape then (if limit then Some flaw.Limit else None) else Some flaw.Shape) ≡ Some found → is_of_shape found ≡ not shape
flawed true true flaw.Shape is = absurd (let is' = is in cc)
flawed true true flaw.Limit is = refl
flawed true false found is = absurd (let is' = is in cc)
flawed false limit flaw.Shape is = refl
flawed false limit flaw.Limit is = absurd (let is' = is in cc)

over : (shape limit : Bool) → (if shape then (if limit then Some flaw.Limit else None) else Some flaw.Shape) ≡ Some flaw.Limit → limit ≡ true
over true true is = refl
over true false is = absurd (let is' = is in cc)
over false limit is = absurd (let is' = is in cc)

-- the error that was found of a field, if any, shows whether it has the shape
pub shape_told : (number : ℕ) (form : FieldForm) (field : List ℕ) (misfit : Misfit) → IsMisfit number form field misfit → is_of_shape misfit.flaw ≡ not (has_shape form field)
shape_told number form field misfit is = flawed (has_shape form field) (is_over_limit form field) misfit.flaw is.1

-- a search that finds its first element, or passes it
finds : {A : Type 0} (test : Bool) (x : A) (rest : Option A) → test ≡ true → (if test then Some x else rest) ≡ Some x
finds true x rest is = refl
finds false x rest is = absurd (let is' = is in cc)

passes : {A : Type 0} (test : Bool) (x : A) (rest : Option A) → test ≡ false → (if test then Some x else rest) ≡ rest
passes true x rest is = absurd (let is' = is in cc)
passes false x rest is = refl

-- a wrong shape is the first
shape_first : (row : ℕ) (slots : List Slot) (fields : List (List ℕ)) (misfit : Misfit) → IsFirstMisfit slots fields misfit →
    misfit.flaw ≡ flaw.Shape → misshapen_at row (first_misshapen slots fields) ≡ Some (fault.misshapen row misfit.number)
shape_first row [] fields misfit first is = absurd first
shape_first row (slot ∷ slots) fields misfit (inl here) is =
    ap (misshapen_at row) (finds (not (has_shape slot.1 (field_numbered fields slot.0))) slot (first_misshapen slots fields)
    (sym (shape_told slot.0 slot.1 (field_numbered fields slot.0) misfit here) ∙ ap is_of_shape is))
    ∙ ap (λ number. Some (fault.misshapen row number)) here.0
shape_first row (slot ∷ slots) fields misfit (inr behind) is =
    ap (misshapen_at row) (passes (not (has_shape slot.1 (field_numbered fields slot.0))) slot (first_misshapen slots fields) (ap not behind.0.0))
    ∙ shape_first row slots fields misfit behind.1 is

-- a limit is the first
limit_first : (row : ℕ) (slots : List Slot) (fields : List (List ℕ)) (misfit : Misfit) → IsFirstMisfit slots fields misfit →
    misfit.flaw ≡ flaw.Limit → over_limit_at row (first_over_limit slots fields) ≡ Some (fault.over_limit row misfit.number)
limit_first row [] fields misfit first is = absurd first
limit_first row (slot ∷ slots) fields misfit (inl here) is =
    ap (over_limit_at row) (finds (is_over_limit slot.1 (field_numbered fields slot.0)) slot (first_over_limit slots fields)
    (over (has_shape slot.1 (field_numbered fields slot.0)) (is_over_limit slot.1 (field_numbered fields slot.0))
    (here.1 ∙ ap Some is)))
    ∙ ap (λ number. Some (fault.over_limit row number)) here.0
limit_first row (slot ∷ slots) fields misfit (inr behind) is =
    ap (over_limit_at row) (passes (is_over_limit slot.1 (field_numbered fields slot.0)) slot (first_over_limit slots fields) behind.0.1)
    ∙ limit_first row slots fields misfit behind.1 is

-- so the fault of the fields is F7 where its shape is wrong
pub misshapen_first : (row : ℕ) (slots : List Slot) (fields : List (List ℕ)) (misfit : Misfit) → IsFirstMisfit slots fields misfit →
    misfit.flaw ≡ flaw.Shape → flaw_of_fields row slots fields ≡ Some (fault.misshapen row misfit.number)
misshapen_first row slots fields misfit first is = some_first (misshapen_at row (first_misshapen slots fields)) _ _ (shape_first row slots fields misfit first is)

-- a field over its limit has its shape
shaped : (shape limit : Bool) → (if shape then (if limit then Some flaw.Limit else None) else Some flaw.Shape) ≡ Some flaw.Limit → shape ≡ true
shaped true limit is = refl
shaped false limit is = absurd (let is' = is in cc)

either : (test : Bool) (fields : List (List ℕ)) (xs ys : List Slot) → first_misshapen xs fields ≡ first_misshapen ys fields →
    first_misshapen xs fields ≡ first_misshapen (if test then xs else ys) fields
either true fields xs ys same = refl
either false fields xs ys same = same

-- if the first field error is a value over its limit, a field of a wrong shape comes after it
behind_is : (slots : List Slot) (fields : List (List ℕ)) (misfit : Misfit) → IsFirstMisfit slots fields misfit → misfit.flaw ≡ flaw.Limit →
    first_misshapen slots fields ≡ first_misshapen (slots_behind misfit.number slots) fields
behind_is [] fields misfit first is = absurd first
behind_is (slot ∷ slots) fields misfit (inl here) is =
    passes (not (has_shape slot.1 (field_numbered fields slot.0))) slot (first_misshapen slots fields)
    (ap not (shaped (has_shape slot.1 (field_numbered fields slot.0)) (is_over_limit slot.1 (field_numbered fields slot.0)) (here.1 ∙ ap Some is)))
    ∙ ap (λ rest. first_misshapen rest fields) (sym (one (slot.0 == misfit.number) slots (slots_behind misfit.number slots) (eq-eqb _ _ here.0)))
  where
    one : (test : Bool) (xs ys : List Slot) → test ≡ true → (if test then xs else ys) ≡ xs
    one true xs ys is = refl
    one false xs ys is = absurd (let is' = is in cc)
behind_is (slot ∷ slots) fields misfit (inr behind) is =
    passes (not (has_shape slot.1 (field_numbered fields slot.0))) slot (first_misshapen slots fields) (ap not behind.0.0)
    ∙ either (slot.0 == misfit.number) fields slots (slots_behind misfit.number slots) (behind_is slots fields misfit behind.1 is)

-- and F7 if that of one after it is
pub misshapen_behind : (row : ℕ) (slots : List Slot) (fields : List (List ℕ)) (misfit : Misfit) (slot : Slot) →
    IsFirstMisfit slots fields misfit → misfit.flaw ≡ flaw.Limit → first_misshapen (slots_behind misfit.number slots) fields ≡ Some slot →
    flaw_of_fields row slots fields ≡ Some (fault.misshapen row slot.0)
misshapen_behind row slots fields misfit slot first is found =
    some_first (misshapen_at row (first_misshapen slots fields)) _ _ (ap (misshapen_at row) (behind_is slots fields misfit first is ∙ found))

-- and F8 where none is
pub limit_passed : (row : ℕ) (slots : List Slot) (fields : List (List ℕ)) (misfit : Misfit) → IsFirstMisfit slots fields misfit →
    misfit.flaw ≡ flaw.Limit → first_misshapen (slots_behind misfit.number slots) fields ≡ None →
    flaw_of_fields row slots fields ≡ Some (fault.over_limit row misfit.number)
limit_passed row slots fields misfit first is none =
    none_then (misshapen_at row (first_misshapen slots fields)) _ _ (ap (misshapen_at row) (behind_is slots fields misfit first is ∙ none)) (limit_first row slots fields misfit first is)
