-- Reading the flows of an activity one by one.
use Rattle.std.proofs.Common.{◌≡◌, ◌≢◌, ℕ, ◌+◌, ◌-◌, ◌<◌, ◌≤◌, zero, suc, List, [], ◌∷◌, ◌++◌, length, Option, Some, None, refl, sym, ap, ◌∙◌, arith, append_assoc, append-nil, length-append}
use Rattle.pc_text.specs.Fields.{◌>>=◌, number_field}
use Rattle.pc_cert.specs.declared.number.TheConstants.{MAX_DIGITS}
use Rattle.pc_cert.specs.inside.Reading.{numbers_in, flows_of}

-- the numbers that came before, and those that follow
abbrev with_front : List ℕ → Option (List ℕ) → Option (List ℕ)
with_front front None = None
with_front front (Some others) = Some (front ++ others)

-- the flows so far, and those that the rest gives, are those of all fields
pub record IsReadingFlows (fields flows rest : List ℕ) : Type 0 where
  pub few : length flows ≤ 6
  pub whole : with_front flows (numbers_in (6 - length flows) rest) ≡ flows_of fields

front_none : (found : Option (List ℕ)) → with_front [] found ≡ found
front_none None = refl
front_none (Some others) = refl

-- none are read yet
pub begun : (fields : List ℕ) → IsReadingFlows fields [] fields
unfolding flows_of
begun fields = record { few = omega arith; whole = front_none (numbers_in 6 fields) }

front_more : (front : List ℕ) (n : ℕ) (found : Option (List ℕ)) → with_front front (found >>= (λ others. Some (n ∷ others))) ≡ with_front (front ++ n ∷ []) found
front_more front n None = refl
front_more front n (Some others) = ap Some (sym (append_assoc front (n ∷ []) others))

step : (room : ℕ) (front rest : List ℕ) (x : ℕ × List ℕ) → length rest ≢ 0 → number_field MAX_DIGITS rest ≡ Some x →
    with_front front (numbers_in (suc room) rest) ≡ with_front (front ++ x.0 ∷ []) (numbers_in room x.1)
step room front [] x some found = absurd (some refl)
step room front (b ∷ bs) x some found = rw found (front_more front (x.0) (numbers_in room (x.1)))

stop : (room : ℕ) (front rest : List ℕ) → length rest ≢ 0 → number_field MAX_DIGITS rest ≡ None → with_front front (numbers_in room rest) ≡ None
stop room front [] some found = absurd (some refl)
stop zero front (b ∷ bs) some found = refl
stop (suc room) front (b ∷ bs) some found = rw found refl

full_at : (front rest : List ℕ) → length rest ≢ 0 → with_front front (numbers_in 0 rest) ≡ None
full_at front [] some = absurd (some refl)
full_at front (b ∷ bs) some = refl

-- one more is read
pub more : {fields flows rest : List ℕ} (x : ℕ × List ℕ) → IsReadingFlows fields flows rest → length flows < 6 → length rest ≢ 0 →
    number_field MAX_DIGITS rest ≡ Some x → IsReadingFlows fields (flows ++ x.0 ∷ []) x.1
more {flows = flows} {rest = rest} x h few some found =
    let long : length (flows ++ x.0 ∷ []) ≡ length flows + 1 = length-append flows (x.0 ∷ []) in
    let room : 6 - length flows ≡ suc (6 - length (flows ++ x.0 ∷ [])) = omega arith in
    record {
      few = omega arith;
      whole = sym (step (6 - length (flows ++ x.0 ∷ [])) flows rest x some found) ∙ ap (λ n. with_front flows (numbers_in n rest)) (sym room) ∙ h.whole;
    }

-- a seventh makes them too many
pub full : {fields flows rest : List ℕ} → IsReadingFlows fields flows rest → length flows ≡ 6 → length rest ≢ 0 → None ≡ flows_of fields
full {flows = flows} {rest = rest} h all some =
    let room : 6 - length flows ≡ 0 = omega arith in
    sym (full_at flows rest some) ∙ ap (λ n. with_front flows (numbers_in n rest)) (sym room) ∙ h.whole

-- a word that is no number ends the reading
pub stopped : {fields flows rest : List ℕ} → IsReadingFlows fields flows rest → length rest ≢ 0 → number_field MAX_DIGITS rest ≡ None → None ≡ flows_of fields
stopped {flows = flows} {rest = rest} h some found = sym (stop (6 - length flows) flows rest some found) ∙ h.whole

nothing : (front rest : List ℕ) (room : ℕ) → length rest ≡ 0 → with_front front (numbers_in room rest) ≡ Some front
nothing front [] room none = ap Some (append-nil front)
nothing front (b ∷ bs) room none = absurd (omega arith)

-- nothing is left
pub ended : {fields flows rest : List ℕ} → IsReadingFlows fields flows rest → length rest ≡ 0 → Some flows ≡ flows_of fields
ended {flows = flows} {rest = rest} h none = sym (nothing flows rest (6 - length flows) none) ∙ h.whole
