-- The test of UTF-8.
use Rattle.std.proofs.Common.{◌≡◌, ℕ, Bool, true, false, List, Result, Ok, Err, MatchResult, is_ok, sym, refl}
use Rattle.std.specs.Str.{IsUtf8, is_utf8}
use Rattle.std.proofs.lemmas.Str.{IsUtf8-from_is_utf8, is_utf8-from_IsUtf8}

-- a reading that succeeds exactly at UTF-8 is the test
pub is_ok-is_utf8 : {T E : Type 0} (r : Result T E) (bytes : List ℕ) (P : T → Type 0) (Q : E → Type 0) → MatchResult r (λ s. P s × IsUtf8 bytes) (λ e. ¬ (IsUtf8 bytes) × Q e) → is_ok r ≡ is_utf8 bytes
is_ok-is_utf8 (Ok s) bytes P Q h = sym (is_utf8-from_IsUtf8 bytes h.1)
is_ok-is_utf8 (Err e) bytes P Q h = by_test (is_utf8 bytes) refl
  where
    by_test : (b : Bool) → b ≡ is_utf8 bytes → false ≡ b
    by_test true is = absurd (h.0 (IsUtf8-from_is_utf8 bytes (sym is)))
    by_test false is = refl
