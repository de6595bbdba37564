-- The activity with a code.
use Rattle.std.proofs.Common.{◌≡◌, ◌≢◌, ℕ, ◌<◌, nat_eq, List, length, Option, Some, None, IfSome, IfNone, sym, arith}
use Rattle.std.specs.Cmp.Lexicographic.{pointwise}
use Rattle.std.specs.List.{position}
use Rattle.pc_model.specs.Codes.{text_at, IsNamedOnce}
use Rattle.pc_names.proofs.PlaceLaws.{position-named, position-unknown}

-- what a call found that looks a code up
pub named_is : (codes : List (List ℕ)) (code : List ℕ) (n : ℕ) (found : Option ℕ) → IsNamedOnce codes → length codes ≡ n
    → IfSome found (λ a. a < n) → IfSome found (λ a. text_at codes a ≡ code) → IfNone found ((a : ℕ) → a < n → text_at codes a ≢ code)
    → found ≡ position (pointwise nat_eq code) codes
named_is codes code n (Some a) once each known same unknown = sym (position-named codes code a once (omega (arith, each, known)) same)
named_is codes code n None once each known same unknown = sym (position-unknown codes code (λ a inside. unknown a (omega (arith, each, inside))))
