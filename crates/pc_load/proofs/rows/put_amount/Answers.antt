use Rattle.std.proofs.Common.{◌≡◌, ◌<◌, ℕ, false, List, [], ◌∷◌, refl, ap, arith}
use Rattle.std.specs.Prelude.{pos, int_le, decimal}
use Rattle.std.proofs.lemmas.Bool.Decides.{nat_tests}
use Rattle.pc_edges.specs.page.Cells.{left, right, row}
use Rattle.pc_edges.proofs.lemmas.page.PageLaws.{Adds-as}
use Rattle.pc_load.specs.LoadText.{amount_row}
use Rattle.pc_load.proofs.rows.put_amount.Goals as goal

-- an amount above 0 is not at most 0
above_none : (n : ℕ) → 0 < n → int_le (pos n) (pos 0) ≡ false
above_none n lt = grind (arith, nat_tests)

-- so it has a row
has_row : (code : List ℕ) (k n : ℕ) → 0 < n → row (left 16 code ∷ right 6 (decimal k) ∷ right 14 (decimal n) ∷ []) ≡ amount_row code k (pos n)
has_row code k n lt = rw (above_none n lt) refl

pub returns : goal.returns
returns g c =
    Adds-as _ (has_row c.args.code.now c.args.k c.args.amount c.requires)
    (Adds-as _ (ap (λ code. row (left 16 code ∷ right 6 (decimal c.args.k) ∷ right 14 (decimal c.args.amount) ∷ [])) c.bytes.ensures.value) c.put_row.ensures)
