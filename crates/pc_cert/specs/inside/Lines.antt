-- The lines of a certificate, and the text of each.
-- Here is what no clause of a top call and no law reaches.
use Rattle.std.specs.Prelude.{◌≡◌, ℕ, List, decimal}
use Rattle.pc_text.specs.Fields.{spaced}
use Rattle.pc_cert.specs.Lines.{IsSmall}

-- the bytes begin with a space and the decimal form of a number of at most 18 digits, followed by the rest
pub record IsNumberAt (bytes : List ℕ) (n : ℕ) (rest : List ℕ) : Type 0 where
  pub text : bytes ≡ spaced (decimal n) rest
  pub small : IsSmall n
