-- Lists of the values of a function at the numbers below a count.
use Rattle.std.proofs.Common.{◌≡◌, ℕ, ◌+◌, ◌<◌, zero, suc, [], ◌∷◌, ◌++◌, length, refl, sym, ap, ◌∙◌, inl, inr, arith, add-one, length-append}
use Rattle.std.proofs.lemmas.Bool.{cases_eq}
use Rattle.std.proofs.Math.ListN.{get_or-append}
use Rattle.std.proofs.Math.Seq.{get_or-append_seam}
use Rattle.std.specs.Prelude.{slice_index_or}
use Rattle.pc_cert.specs.Listed.{listed}

pub length-listed : {A : Type 0} (n : ℕ) (each : ℕ → A) → length (listed n each) ≡ n
length-listed zero each = refl
length-listed (suc n) each = omega (arith, length-append (listed n each) (each n ∷ []), length-listed n each)

-- the i-th of them
pub listed-at : {A : Type 0} (n : ℕ) (each : ℕ → A) (i : ℕ) (d : A) → i < n → slice_index_or (listed n each) i d ≡ each i
listed-at zero each i d lt = absurd (omega arith)
listed-at (suc n) each i d lt = elim (cases_eq i n) [
  | inl same ↦
      let at : i ≡ length (listed n each) = omega (arith, same, length-listed n each) in
      ap (λ k. slice_index_or (listed n each ++ each n ∷ []) k d) at ∙ get_or-append_seam (listed n each) (each n) [] d ∙ sym (ap each same)
  | inr other ↦
      get_or-append (listed n each) (each n ∷ []) d i (omega (arith, length-listed n each)) ∙ listed-at n each i d (omega arith)
]

-- the element after them
pub listed-last : {A : Type 0} (n : ℕ) (each : ℕ → A) (last d : A) → slice_index_or (listed n each ++ last ∷ []) n d ≡ last
listed-last n each last d =
    ap (λ k. slice_index_or (listed n each ++ last ∷ []) k d) (sym (length-listed n each)) ∙ get_or-append_seam (listed n each) last [] d

-- the i-th of them, with one element after them
pub listed-before : {A : Type 0} (n : ℕ) (each : ℕ → A) (i : ℕ) (last d : A) → i < n → slice_index_or (listed n each ++ last ∷ []) i d ≡ each i
listed-before n each i last d lt =
    get_or-append (listed n each) (last ∷ []) d i (omega (arith, length-listed n each)) ∙ listed-at n each i d lt

-- one more of them
pub listed-more : {A : Type 0} (n : ℕ) (each : ℕ → A) → listed (n + 1) each ≡ listed n each ++ each n ∷ []
listed-more n each = ap (λ m. listed m each) (add-one n)

-- the same numbers, where each is the same
pub listed-same : {A : Type 0} (n : ℕ) (one other : ℕ → A) → ((i : ℕ) → i < n → one i ≡ other i) → listed n one ≡ listed n other
listed-same zero one other same = refl
listed-same (suc n) one other same =
    let before = listed-same n one other (λ i below. same i (omega arith)) in
    let last = same n (omega arith) in
    λ i. before i ++ last i ∷ []
