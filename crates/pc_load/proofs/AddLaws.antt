-- How an entry is added to the periods that it spans.
use Rattle.std.proofs.Common.{◌^◌, FitsSigned, to_z, of_z, w64, ◌≡◌, ℕ, ◌+◌, ◌-◌, ◌*◌, ◌/◌, ◌<◌, ◌≤◌, ⊎_elim, List, length, set, ap, sym, refl, ◌∙◌, subst, length-set, arith}
use Rattle.std.specs.Prelude.{ℤ, pos, ◌+ℤ◌, unsigned_abs}
use Rattle.std.proofs.lemmas.Bool.{cases_eq, cases_lt}
use Rattle.std.proofs.lemmas.Int.{ints, fits_signed_from_abs, to_z-of_z, to_z_pos}
use Rattle.std.proofs.lemmas.List.{set-get_or}
use Rattle.std.proofs.Math.Nat.{lt-mul-div-succ, mul-div-le, mul-le-mul_left}
use Rattle.pc_rollup.specs.Totals.{amount_at}
use Rattle.pc_load.specs.declared.spread.Spread.{Spread}
use Rattle.pc_load.specs.declared.table.LoadRow.{LoadRow}
use Rattle.pc_load.specs.inside.Adding.{CanGrowRow, IsAdded, IsGrown}
use Rattle.pc_load.specs.Share.{share, part}
use Rattle.pc_load.specs.Table.{cells_of_period}
use Rattle.pc_load.proofs.ColumnLaws.{read_cell, column-set_same, column-set_other}
use Rattle.pc_load.proofs.ShareLaws.{share_none, part_before, part_behind}

-- the first n periods have grown by the entry's parts, and the others are as they were
pub record IsAddedTo (rows periods : ℕ) (entry : LoadRow) (width n : ℕ) (old new : List ℤ) : Type 0 where
  pub one_each : length new ≡ length old
  pub done : (k : ℕ) → k < n → k < periods → IsGrown rows entry width old new k
  pub rest : (k : ℕ) → n ≤ k → cells_of_period rows new k ≡ cells_of_period rows old k

-- a period with nothing of the entry stays as it is
grown_by_none : (rows : ℕ) (entry : LoadRow) (width : ℕ) (old new : List ℤ) (k : ℕ) → cells_of_period rows new k ≡ cells_of_period rows old k →
    part entry.spread (width * k) (width * (k + 1)) ≡ 0 → IsGrown rows entry width old new k
grown_by_none rows entry width old new k same none =
    let column = cells_of_period rows old k in
    let still : amount_at column entry.row ≡ amount_at column entry.row +ℤ pos 0 = omega (arith, ints) in
    same ∙ (sym (set-get_or column entry.row (pos 0)) ∙ ap (set column entry.row) (still ∙ ap (λ (n : ℕ). amount_at column entry.row +ℤ pos n) (sym none)))

-- the periods before the beginning have nothing of it
pub added_none : (rows periods : ℕ) (entry : LoadRow) (width : ℕ) (old : List ℤ) → IsAddedTo rows periods entry width (entry.spread.begin / width) old old
added_none rows periods entry width old = record {
  one_each = refl;
  done = λ k lt within.
      let up = mul-le-mul_left {m = k + 1} {n = entry.spread.begin / width} width (omega arith) in
      let down = mul-le-mul_left {m = k} {n = k + 1} width (omega arith) in
      let begins = mul-div-le entry.spread.begin width in
      grown_by_none rows entry width old old k refl (part_before entry.spread (width * k) (width * (k + 1)) (omega arith) (omega arith));
  rest = λ k le. refl;
}

-- by the period of the beginning nothing has come
pub begun_none : (s : Spread) (width : ℕ) → share s (width * (s.begin / width)) ≡ 0
begun_none s width = share_none s (width * (s.begin / width)) (mul-div-le s.begin width)

-- a cell that is still to come holds what it held, which is small
pub still_small : (rows periods : ℕ) (entry : LoadRow) (width n : ℕ) (old new : List ℤ) → IsAddedTo rows periods entry width n old new →
    entry.row < rows → CanGrowRow rows periods entry.row old → n < periods → unsigned_abs (amount_at new (n * rows + entry.row)) < 2 ^ 62
still_small rows periods entry width n old new are known room within =
    let same : amount_at (cells_of_period rows old n) entry.row ≡ amount_at new (n * rows + entry.row) =
    sym (ap (λ (l : List ℤ). amount_at l entry.row) (are.rest n (omega arith))) ∙ read_cell rows new n entry.row known in
    subst (λ (z : ℤ). unsigned_abs z < 2 ^ 62) same (room n within)

-- one period more
pub added_more : (rows periods : ℕ) (entry : LoadRow) (width n : ℕ) (old new : List ℤ) (by so_far : ℕ) (v : ℤ) →
    IsAddedTo rows periods entry width n old new → entry.row < rows → so_far ≡ share entry.spread (width * n) →
    by ≡ share entry.spread (width * (n + 1)) → v ≡ amount_at new (n * rows + entry.row) +ℤ pos (by - so_far) →
    IsAddedTo rows periods entry width (n + 1) old (set new (n * rows + entry.row) v)
added_more rows periods entry width n old new by so_far v are known before behind is = record {
  one_each = length-set new (n * rows + entry.row) v ∙ are.one_each;
  done = λ k lt within. ⊎_elim (λ e. subst (λ (j : ℕ). IsGrown rows entry width old (set new (n * rows + entry.row) v) j) (sym e) here)
      (λ ne. column-set_other rows new k n entry.row v known ne ∙ are.done k (omega arith) within) (cases_eq k n);
  rest = λ k le. column-set_other rows new k n entry.row v known (λ e. absurd (omega arith)) ∙ are.rest k (omega arith);
}
  where
    column : List ℤ
    column = cells_of_period rows old n

    value : v ≡ amount_at column entry.row +ℤ pos (part entry.spread (width * n) (width * (n + 1)))
    value =
        is ∙ (ap (λ (z : ℤ). z +ℤ pos (by - so_far)) (sym (read_cell rows new n entry.row known) ∙ ap (λ (l : List ℤ). amount_at l entry.row) (are.rest n (omega arith)))
        ∙ (ap (λ (m : ℕ). amount_at column entry.row +ℤ pos (m - so_far)) behind ∙ ap (λ (m : ℕ). amount_at column entry.row +ℤ pos (share entry.spread (width * (n + 1)) - m)) before))

    here : IsGrown rows entry width old (set new (n * rows + entry.row) v) n
    here =
        column-set_same rows new n entry.row v known ∙ (ap (λ (l : List ℤ). set l entry.row v) (are.rest n (omega arith)) ∙ ap (set column entry.row) value)

-- the periods after the end have nothing of it
pub added_all : (rows periods : ℕ) (entry : LoadRow) (width n : ℕ) (old new : List ℤ) → IsAddedTo rows periods entry width n old new →
    1 ≤ width → ((k : ℕ) → n ≤ k → k < periods → (entry.spread.begin + entry.spread.length) / width + 1 ≤ k) →
    IsAdded rows periods entry width old new
added_all rows periods entry width n old new are wide behind = record {
  one_each = are.one_each;
  each = λ k within. ⊎_elim (λ lt. are.done k lt within) (λ le. grown_by_none rows entry width old new k (are.rest k le) (none k (behind k le within))) (cases_lt k n);
}
  where
    end : ℕ
    end = entry.spread.begin + entry.spread.length

    none : (k : ℕ) → end / width + 1 ≤ k → part entry.spread (width * k) (width * (k + 1)) ≡ 0
    none k le =
        let up = mul-le-mul_left {m = end / width + 1} {n = k} width le in
        let down = mul-le-mul_left {m = k} {n = k + 1} width (omega arith) in
        let past = lt-mul-div-succ end {b = width} wide in
        part_behind entry.spread (width * k) (width * (k + 1)) (omega arith) (omega arith) (omega arith)

-- ---- in 64 bits

-- an amount that is added to a small one
pub grown_fits : (a : ℤ) (p : ℕ) → unsigned_abs a < 2 ^ 62 → p < 2 ^ 62 → FitsSigned w64 (to_z w64 (of_z w64 a) +ℤ to_z w64 p)
grown_fits a p small less =
    let fits_a = fits_signed_from_abs w64 a (omega arith) in
    rw (to_z-of_z w64 a fits_a, to_z_pos w64 p (omega arith)) (fits_signed_from_abs w64 (a +ℤ pos p) (omega (arith, ints)))

pub grown : (a : ℤ) (p : ℕ) → unsigned_abs a < 2 ^ 62 → p < 2 ^ 62 → to_z w64 (of_z w64 (to_z w64 (of_z w64 a) +ℤ to_z w64 p)) ≡ a +ℤ pos p
grown a p small less =
    let fits_a = fits_signed_from_abs w64 a (omega arith) in
    let fits = fits_signed_from_abs w64 (a +ℤ pos p) (omega (arith, ints)) in
    rw (to_z-of_z w64 a fits_a, to_z_pos w64 p (omega arith)) (to_z-of_z w64 (a +ℤ pos p) fits)
