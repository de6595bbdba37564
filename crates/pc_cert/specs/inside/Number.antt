-- The digits at the front of bytes.
use Rattle.std.specs.Prelude.{◌≡◌, ℕ, ◌≤◌, true, List, length, take}
use Rattle.std.specs.List.{list_all}
use Rattle.std.specs.Char.{is_ascii_digit}
use Rattle.pc_text.specs.Number.{value_after}
use Rattle.pc_cert.specs.declared.number.TheConstants.{MAX_DIGITS}

-- the first `count` bytes, at most 18, are digits, and this is their value
pub record AreDigitsAt (bytes : List ℕ) (number count : ℕ) : Type 0 where
  pub within : count ≤ length bytes
  pub few : count ≤ MAX_DIGITS
  pub digits : list_all is_ascii_digit (take count bytes) ≡ true
  pub value : number ≡ value_after 0 (take count bytes)
