-- A card without a fault: what each test found of it.
use Rattle.std.proofs.Common.{◌≡◌, ℕ, ◌≤◌, Bool, true, false, not, ◌||◌, ◌==◌, nat_lt, List, [], ◌∷◌, find, Option, Some, None, is_some, unwrap_or, if◌then◌else◌, refl, subst, arith}
use Rattle.std.proofs.lemmas.Bool.Decides.{nat_tests}
use Rattle.std.specs.Option.{option_or}
use Rattle.std.specs.Bool.{then_some}
use Rattle.pc_faults.specs.declared.kind.Kind.{Kind}
use Rattle.pc_cards.specs.Forms.{Slot, AllFit, field_numbered, has_shape, is_over_limit, is_outside}
use Rattle.pc_cards.specs.inside.Findings.{misshapen_at, over_limit_at, one_too_many}

-- where nothing was found, neither place had anything
pub neither : {A : Type 0} (first later : Option A) → option_or first later ≡ None → (first ≡ None) × (later ≡ None)
neither None later h = (refl, h)
neither (Some found) later h = absurd (let h' = h in cc)

-- where nothing was found, the test does not hold
pub not_so : {A : Type 0} (test : Bool) (found : A) → then_some test found ≡ None → test ≡ false
not_so true found h = absurd (let h' = h in cc)
not_so false found h = refl

pub not_not : (test : Bool) → not test ≡ false → test ≡ true
not_not true h = refl
not_not false h = absurd (let h' = h in cc)

pub no_shape : (row : ℕ) (slot : Option Slot) → misshapen_at row slot ≡ None → slot ≡ None
no_shape row None h = refl
no_shape row (Some slot) h = absurd (let h' = h in cc)

pub no_limit : (row : ℕ) (slot : Option Slot) → over_limit_at row slot ≡ None → slot ≡ None
no_limit row None h = refl
no_limit row (Some slot) h = absurd (let h' = h in cc)

-- an element that is not found first, and none after it
none_found : {A : Type 0} (test : Bool) (x : A) (rest : Option A) → (if test then Some x else rest) ≡ None → (test ≡ false) × (rest ≡ None)
none_found true x rest h = absurd (let h' = h in cc)
none_found false x rest h = (refl, h)

-- where no field is misshapen and none over its limit, each is what it must be
pub all_fit : (slots : List Slot) (fields : List (List ℕ)) →
    find (λ (slot : Slot). not (has_shape slot.1 (field_numbered fields slot.0))) slots ≡ None →
    find (λ (slot : Slot). is_over_limit slot.1 (field_numbered fields slot.0)) slots ≡ None → AllFit slots fields
all_fit [] fields shapes limits = tt
all_fit (slot ∷ slots) fields shapes limits =
    let shape = none_found (not (has_shape slot.1 (field_numbered fields slot.0))) slot (find (λ (slot : Slot). not (has_shape slot.1 (field_numbered fields slot.0))) slots) shapes in
    let limit = none_found (is_over_limit slot.1 (field_numbered fields slot.0)) slot (find (λ (slot : Slot). is_over_limit slot.1 (field_numbered fields slot.0)) slots) limits in
    ((not_not _ shape.0, limit.0), all_fit slots fields shape.1 limit.1)

-- there is capacity for one more
pub room_as : (kind : Kind) (row count limit : ℕ) (found : Option ℕ) → found ≡ Some limit → one_too_many kind row count found ≡ None → (count == limit) ≡ false
room_as kind row count limit found is none =
    not_so _ _ (subst (λ (o : Option ℕ). one_too_many kind row count o ≡ None) is none)

outside : (least most n : ℕ) → (nat_lt n least || nat_lt most n) ≡ false → (least ≤ n) × (n ≤ most)
outside least most n h = (grind (arith, nat_tests), grind (arith, nat_tests))

-- a number that fits is within its limits
pub number_fits : (least most : ℕ) (found : Option ℕ) → is_some found ≡ true → is_outside least most found ≡ false → (least ≤ unwrap_or found 0) × (unwrap_or found 0 ≤ most)
number_fits least most None some h = absurd (let some' = some in cc)
number_fits least most (Some n) some h = outside least most n h
