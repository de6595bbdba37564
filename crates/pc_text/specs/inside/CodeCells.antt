-- How a code is stored in its cells.
use Rattle.std.specs.Prelude.{◌≡◌, ℕ, List, [], ◌∷◌, take, true, nat_eq, Option, Some, None, if◌then◌else◌}
use Rattle.std.specs.List.{list_all}
use Rattle.std.specs.Cmp.Lexicographic.{pointwise, same_text}
use Rattle.std.proofs.Common.{ap, sym}
use Rattle.pc_text.specs.inside.Words.{IsPadded, padded}
use Rattle.pc_text.specs.Code.{is_code, is_code_byte}

-- the cells of a text of at most 16 bytes, if each of them may occur in a code
abbrev pub code_cells_of : List ℕ → Option (List ℕ)
code_cells_of field = if list_all is_code_byte field then Some (padded 16 field) else None

-- the first `len` of 16 cells are a code, and zeros follow it
pub record IsCodeCells (len : ℕ) (cells : List ℕ) : Type 0 where
  pub padded : IsPadded 16 len cells
  pub code : is_code (take len cells) ≡ true

-- codes that are equal have the same cells, the zeros among them
pub same_cells : (xs ys : List ℕ) → pointwise nat_eq xs ys ≡ true → padded 16 xs ∷ [] ≡ padded 16 ys ∷ []
same_cells xs ys equal = ap (λ code. padded 16 code ∷ []) (same_text xs ys (sym equal))
