-- What a comparison of days says.
use Rattle.std.proofs.Common.{◌≡◌, true, false, ℤ, is_le, int_cmp, arith}
use Rattle.std.specs.Prelude.{int_le, int_lt, ◌≤ℤ◌, ◌<ℤ◌}
use Rattle.std.proofs.lemmas.Int.{ints}

-- the order is the test
pub is_le-int : (a b : ℤ) → is_le (int_cmp a b) ≡ int_le a b
is_le-int a b = grind (arith, ints)

-- and the test is the order of numbers
pub le-from_test : (a b : ℤ) → int_le a b ≡ true → a ≤ℤ b
le-from_test a b h = grind (arith, ints)

pub test-from_le : (a b : ℤ) → a ≤ℤ b → int_le a b ≡ true
test-from_le a b h = grind (arith, ints)

pub lt-from_test : (a b : ℤ) → int_lt a b ≡ true → a <ℤ b
lt-from_test a b h = grind (arith, ints)

pub le-from_no_test : (a b : ℤ) → int_lt a b ≡ false → b ≤ℤ a
le-from_no_test a b h = grind (arith, ints)
