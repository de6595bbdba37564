-- The fields of a record by their places.
use Rattle.std.proofs.Common.{◌≡◌, ◌∙◌, ℕ, zero, suc, List, [], ◌∷◌, Option, Some, None, refl, ap, slice_get, unwrap_or, option_map, Bor}
use Rattle.std.proofs.lemmas.Option.{unwrap_or-slice_get}
use Rattle.csv.specs.Records as csv
use Rattle.pc_model.specs.Codes.{text_at}

-- `csv` counts the fields as a slice does its elements
pub field_at-slice_get : (fields : List (List ℕ)) (i : ℕ) → csv.field_at fields i ≡ slice_get fields i
unfolding csv.field_at
field_at-slice_get [] i = refl
field_at-slice_get (field ∷ fields) zero = refl
field_at-slice_get (field ∷ fields) (suc i) = field_at-slice_get fields i

-- a field that is there, or an empty one
pub now-unwrap_or : (o : Option (Bor (List ℕ))) (empty : Bor (List ℕ)) (fields : List (List ℕ)) (i : ℕ) → empty.now ≡ []
    → option_map (λ field. field.now) o ≡ slice_get fields i → (unwrap_or o empty).now ≡ text_at fields i
now-unwrap_or o empty fields i none e = either o ∙ ap (λ p. unwrap_or p []) e ∙ unwrap_or-slice_get fields i []
  where
    either : (p : Option (Bor (List ℕ))) → (unwrap_or p empty).now ≡ unwrap_or (option_map (λ field. field.now) p) []
    either None = none
    either (Some field) = refl
