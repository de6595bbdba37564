-- The first of several conditions that does not hold.
use Rattle.std.proofs.Common.{◌≡◌, ℕ, Bool, true, false, cond, Option, Some, None, refl}

-- a condition that does not hold is the first one, where those before it hold
pub fails_here : (holds : Bool) (later : Option ℕ) (number : ℕ) → holds ≡ false → Some number ≡ cond holds later (Some number)
fails_here true later number h = absurd cc
fails_here false later number h = refl

-- after a condition that holds come the others
pub fails_later : (holds : Bool) (later : Option ℕ) (number : ℕ) (found : Option ℕ) → holds ≡ true → found ≡ later → found ≡ cond holds later (Some number)
fails_later true later number found h same = same
fails_later false later number found h same = absurd cc

-- where no condition fails, the first one holds, and none of the others fails
pub holds_first : (holds : Bool) (later : Option ℕ) (number : ℕ) → cond holds later (Some number) ≡ None → (holds ≡ true) × (later ≡ None)
holds_first true later number h = (refl, h)
holds_first false later number h = absurd cc
