-- The places of the cells of a table.
use Rattle.std.proofs.Common.{◌≡◌, ◌≢◌, ℕ, suc, ◌+◌, ◌-◌, ◌*◌, ◌<◌, ◌≤◌, ⊎_elim, List, take, drop, set, ap, sym, ◌∙◌, arith}
use Rattle.std.specs.Prelude.{ℤ, pos}
use Rattle.std.proofs.lemmas.Bool.{cases_order}
use Rattle.std.proofs.lemmas.List.{get_or-take, get_or-drop, take-set-le, drop-set-lt, drop-set-add}
use Rattle.std.proofs.Math.Seq.{take-set-lt}
use Rattle.std.proofs.Math.Nat.{mul-le-mul_right, suc-mul}
use Rattle.pc_rollup.specs.Totals.{amount_at}
use Rattle.pc_load.specs.Table.{cells_of_period}

-- the cells of a period are before those of a later one
pub before_next : (rows j k : ℕ) → j < k → j * rows + rows ≤ k * rows
before_next rows j k lt =
    let up = mul-le-mul_right {m = suc j} {n = k} rows (omega arith) in
    let next = suc-mul j rows in
    omega arith

-- a cell of a period and row is one of the table
pub place_within : (rows periods k row : ℕ) → k < periods → row < rows → k * rows + row < periods * rows
place_within rows periods k row period known =
    let up = before_next rows k periods period in
    omega arith

-- what a cell holds
pub read_cell : (rows : ℕ) (cells : List ℤ) (k row : ℕ) → row < rows → amount_at (cells_of_period rows cells k) row ≡ amount_at cells (k * rows + row)
read_cell rows cells k row known =
    get_or-take rows (drop (k * rows) cells) row (pos 0) known ∙ get_or-drop (k * rows) cells row (pos 0)

-- a cell was written
pub column-set_same : (rows : ℕ) (cells : List ℤ) (k row : ℕ) (v : ℤ) → row < rows → cells_of_period rows (set cells (k * rows + row) v) k ≡ set (cells_of_period rows cells k) row v
column-set_same rows cells k row v known =
    ap (take rows) (drop-set-add (k * rows) cells row v) ∙ take-set-lt rows (drop (k * rows) cells) row v known

pub column-set_other : (rows : ℕ) (cells : List ℤ) (j k row : ℕ) (v : ℤ) → row < rows → j ≢ k → cells_of_period rows (set cells (k * rows + row) v) j ≡ cells_of_period rows cells j
column-set_other rows cells j k row v known apart =
    ⊎_elim (λ e. absurd (apart e)) (λ ne. ⊎_elim (λ lt. earlier lt) (λ lt. later lt) ne) (cases_order j k)
  where
    earlier : j < k → cells_of_period rows (set cells (k * rows + row) v) j ≡ cells_of_period rows cells j
    earlier lt =
        let up = before_next rows j k lt in
        let i = k * rows + row - j * rows in
        let place : j * rows + i ≡ k * rows + row = omega arith in
        ap (λ (n : ℕ). cells_of_period rows (set cells n v) j) (sym place)
        ∙ (ap (take rows) (drop-set-add (j * rows) cells i v) ∙ take-set-le rows (drop (j * rows) cells) i v (omega arith))

    later : k < j → cells_of_period rows (set cells (k * rows + row) v) j ≡ cells_of_period rows cells j
    later lt =
        let up = before_next rows k j lt in
        ap (take rows) (drop-set-lt (j * rows) cells (k * rows + row) v (omega arith))
