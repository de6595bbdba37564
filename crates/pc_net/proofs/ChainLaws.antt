-- The chains of places, one place further to the front.
use Rattle.std.proofs.Common.{◌≡◌, ◌≢◌, ℕ, zero, suc, ◌+◌, ◌<◌, ◌≤◌, List, [], ◌∷◌, length, slice_index, set, replicate, cond, sym, ◌∙◌, ap, ⊎_elim, arith, eq-eqb}
use Rattle.std.proofs.lemmas.Bool.{cases_eq, cases_lt, ne_eqb}
use Rattle.std.proofs.lemmas.List.{drop_more, drop_all, length-set, get_or-set_same, get_or-set_other, length-replicate, get_or-replicate}
use Rattle.pc_model.specs.Greatest.{places}
use Rattle.pc_net.specs.inside.Chains.{first_or, places_from, AreChains}

-- at a place of x this place is the first
pub places_from_hit : (xs : List ℕ) (x i : ℕ) → i < length xs → slice_index xs i ≡ x → places_from xs x i ≡ i ∷ places_from xs x (i + 1)
places_from_hit xs x i below is =
    ap (places x i) (drop_more xs i 0 below) ∙ ap (λ b. cond b (i ∷ places_from xs x (i + 1)) (places_from xs x (i + 1))) (eq-eqb _ _ is)

-- elsewhere the places are those further on
pub places_from_miss : (xs : List ℕ) (x i : ℕ) → i < length xs → slice_index xs i ≢ x → places_from xs x i ≡ places_from xs x (i + 1)
places_from_miss xs x i below isnt =
    ap (places x i) (drop_more xs i 0 below) ∙ ap (λ b. cond b (i ∷ places_from xs x (i + 1)) (places_from xs x (i + 1))) (ne_eqb _ _ isnt)

-- past the end there are none
pub places_from_end : (xs : List ℕ) (x i : ℕ) → length xs ≤ i → places_from xs x i ≡ []
places_from_end xs x i past = ap (places x i) (drop_all i xs past)

-- no place is looked at yet
pub AreChains-start : (xs : List ℕ) (events n : ℕ) → n ≡ length xs → AreChains xs events n (replicate events n) (replicate n n)
AreChains-start xs events n is = record {
  heads_len = length-replicate events n;
  nexts_len = length-replicate n n ∙ is;
  head = λ x below. get_or-replicate events x n 0 below ∙ is ∙ sym (ap (first_or (length xs)) (places_from_end xs x n (omega arith)));
  next = λ k past below. absurd (omega arith);
}

-- the place before is put in front of the chain of its event
pub AreChains-step : (xs : List ℕ) (events i x : ℕ) (heads nexts : List ℕ) → AreChains xs events (i + 1) heads nexts → i < length xs →
    slice_index xs i ≡ x → x < events → AreChains xs events i (set heads x i) (set nexts i (slice_index heads x))
AreChains-step xs events i x heads nexts chains below is known = record {
  heads_len = length-set heads x i ∙ chains.heads_len;
  nexts_len = length-set nexts i _ ∙ chains.nexts_len;
  head = λ y y_known. ⊎_elim
      (λ same. ap (slice_index (set heads x i)) same ∙ get_or-set_same heads x i 0 (omega (arith, chains.heads_len)) ∙ sym (ap (first_or (length xs)) (places_from_hit xs y i below (is ∙ sym same))))
      (λ other. get_or-set_other heads x y i 0 other ∙ chains.head y y_known ∙ sym (ap (first_or (length xs)) (places_from_miss xs y i below (λ e. other (sym e ∙ is)))))
      (cases_eq y x);
  next = λ k past k_below. ⊎_elim
      (λ same. ap (slice_index (set nexts i (slice_index heads x))) same ∙ get_or-set_same nexts i _ 0 (omega (arith, chains.nexts_len))
      ∙ chains.head x known ∙ ap (λ y. first_or (length xs) (places_from xs y (i + 1))) (sym is)
      ∙ ap (λ j. first_or (length xs) (places_from xs (slice_index xs j) (j + 1))) (sym same))
      (λ other. get_or-set_other nexts i k _ 0 other ∙ chains.next k (omega arith) k_below)
      (cases_eq k i);
}

-- what the first place of x from place j on says: it is at j or after it and x is there, or there is none
pub record IsFirstPlace (xs : List ℕ) (x j at : ℕ) : Type 0 where
  pub low : j ≤ length xs → j ≤ at
  pub here : at < length xs → (slice_index xs at ≡ x) × (places_from xs x j ≡ at ∷ places_from xs x (at + 1))
  pub none : length xs ≤ at → places_from xs x j ≡ []

first_place_past : (xs : List ℕ) (x j : ℕ) → length xs ≤ j → IsFirstPlace xs x j (first_or (length xs) (places_from xs x j))
first_place_past xs x j past = rw (places_from_end xs x j past) (record {
  low = λ h. h;
  here = λ h. absurd (omega arith);
  none = λ _. places_from_end xs x j past;
})

first_place_hit : (xs : List ℕ) (x j : ℕ) → j < length xs → slice_index xs j ≡ x → IsFirstPlace xs x j (first_or (length xs) (places_from xs x j))
first_place_hit xs x j below is = rw (places_from_hit xs x j below is) (record {
  low = λ h. omega arith;
  here = λ h. (is, places_from_hit xs x j below is);
  none = λ h. absurd (omega arith);
})

first_place_miss : (xs : List ℕ) (x j : ℕ) → j < length xs → slice_index xs j ≢ x →
    IsFirstPlace xs x (j + 1) (first_or (length xs) (places_from xs x (j + 1))) →
    IsFirstPlace xs x j (first_or (length xs) (places_from xs x j))
first_place_miss xs x j below isnt next = rw (places_from_miss xs x j below isnt) (record {
  low = λ h. omega (arith, next.low (omega arith));
  here = λ h. ((next.here h).0, places_from_miss xs x j below isnt ∙ (next.here h).1);
  none = λ h. places_from_miss xs x j below isnt ∙ next.none h;
})

first_place_within : (xs : List ℕ) (x m j : ℕ) → length xs ≤ j + m → IsFirstPlace xs x j (first_or (length xs) (places_from xs x j))
first_place_within xs x zero j past = first_place_past xs x j (omega arith)
first_place_within xs x (suc m) j near =
    ⊎_elim (λ below. ⊎_elim (λ is. first_place_hit xs x j below is) (λ isnt. first_place_miss xs x j below isnt (first_place_within xs x m (j + 1) (omega arith))) (cases_eq (slice_index xs j) x))
    (λ past. first_place_past xs x j past) (cases_lt j (length xs))

-- the first place of x from place j on
pub first_place : (xs : List ℕ) (x j : ℕ) → IsFirstPlace xs x j (first_or (length xs) (places_from xs x j))
first_place xs x j = first_place_within xs x (length xs) j (omega arith)
