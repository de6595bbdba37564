-- The place of the first `stop` is the number of bytes before it.
use Rattle.std.proofs.Common.{◌≡◌, ◌≢◌, ℕ, ◌<◌, zero, suc, List, [], ◌∷◌, length, get_or, Some, None, refl, ap, arith}
use Rattle.std.proofs.lemmas.Bool.{eqb-true, eq-eqb, ne_eqb}
use Rattle.memchr.specs.Find.{IsFirstByte, is_byte}
use Rattle.pc_text.specs.Fields.{run_len}

-- a `stop` before which there is none
run_len-first : (stop k : ℕ) (bytes : List ℕ) → k < length bytes → get_or bytes k 0 ≡ stop → ((i : ℕ) → i < k → get_or bytes i 0 ≢ stop) → k ≡ run_len stop bytes
run_len-first stop k [] h is before = absurd (omega arith)
run_len-first stop zero (b ∷ bs) h is before = rw (eq-eqb b stop is) refl
run_len-first stop (suc k) (b ∷ bs) h is before =
    rw (ne_eqb b stop (before 0 (omega arith))) (ap suc (run_len-first stop k bs (omega arith) is (λ i less. before (suc i) (omega arith))))

-- no `stop` at all
run_len-nowhere : (stop : ℕ) (bytes : List ℕ) → ((i : ℕ) → i < length bytes → get_or bytes i 0 ≢ stop) → length bytes ≡ run_len stop bytes
run_len-nowhere stop [] none = refl
run_len-nowhere stop (b ∷ bs) none =
    rw (ne_eqb b stop (none 0 (omega arith))) (ap suc (run_len-nowhere stop bs (λ i less. none (suc i) (omega arith))))

-- what a search for `stop` found
pub run_len-found : (stop k : ℕ) (bytes : List ℕ) → IsFirstByte (is_byte stop) bytes (Some k) → k ≡ run_len stop bytes
run_len-found stop k bytes found =
    run_len-first stop k bytes found.0.high (eqb-true _ _ (found.1)) (λ i less same. found.0.before i (omega arith) less (eq-eqb _ _ same))

-- and what one found that found nothing
pub run_len-not_found : (stop : ℕ) (bytes : List ℕ) → IsFirstByte (is_byte stop) bytes None → length bytes ≡ run_len stop bytes
run_len-not_found stop bytes nowhere = run_len-nowhere stop bytes (λ i less same. nowhere i (omega arith) less (eq-eqb _ _ same))
