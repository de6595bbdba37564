-- What is found, and what is not, by one test after another.
use Rattle.std.proofs.Common.{◌≡◌, ℕ, Bool, true, false, not, List, [], ◌∷◌, Option, Some, None, if◌then◌else◌, ap, refl}
use Rattle.std.specs.Option.{option_or}
use Rattle.pc_cards.specs.Forms.{AllFit, Slot, field_numbered, first_misshapen, first_over_limit, has_shape, is_over_limit}
use Rattle.pc_cards.specs.inside.Findings.{flaw_of_fields, misshapen_at, over_limit_at}

-- what is found later, if nothing is found before
pub none_then : {A : Type 0} (first later found : Option A) → first ≡ None → later ≡ found → option_or first later ≡ found
none_then None later found none is = is
none_then (Some other) later found none is = absurd (let none' = none in cc)

-- what is found first
pub some_first : {A : Type 0} (first later : Option A) (found : A) → first ≡ Some found → option_or first later ≡ Some found
some_first None later found is = absurd (let is' = is in cc)
some_first (Some other) later found is = is

past : {A : Type 0} (test : Bool) (x : A) (rest : Option A) → test ≡ false → rest ≡ None → (if test then Some x else rest) ≡ None
past true x rest not none = absurd (let not' = not in cc)
past false x rest not none = none

-- where each field is what it must be, none is misshapen
fit_shapes : (slots : List Slot) (fields : List (List ℕ)) → AllFit slots fields → first_misshapen slots fields ≡ None
fit_shapes [] fields fit = refl
fit_shapes (slot ∷ slots) fields fit =
    past (not (has_shape slot.1 (field_numbered fields slot.0))) slot (first_misshapen slots fields) (ap not fit.0.0) (fit_shapes slots fields fit.1)

-- and none is over its limit
fit_limits : (slots : List Slot) (fields : List (List ℕ)) → AllFit slots fields → first_over_limit slots fields ≡ None
fit_limits [] fields fit = refl
fit_limits (slot ∷ slots) fields fit =
    past (is_over_limit slot.1 (field_numbered fields slot.0)) slot (first_over_limit slots fields) fit.0.1 (fit_limits slots fields fit.1)

-- so there is no fault of the fields
pub no_flaw : (row : ℕ) (slots : List Slot) (fields : List (List ℕ)) → AllFit slots fields → flaw_of_fields row slots fields ≡ None
no_flaw row slots fields fit =
    none_then (misshapen_at row (first_misshapen slots fields)) _ None (ap (misshapen_at row) (fit_shapes slots fields fit))
    (ap (over_limit_at row) (fit_limits slots fields fit))
