-- Tables that are made entry by entry.
use Rattle.std.proofs.Common.{◌≡◌, ℕ, ◌+◌, ◌-◌, ◌*◌, ◌<◌, ◌≤◌, List, length, map, replicate, take, ap, sym, refl, ◌∙◌, subst, arith}
use Rattle.std.specs.Prelude.{ℤ, pos, sum_by, unsigned_abs}
use Rattle.std.proofs.lemmas.Int.{ints}
use Rattle.std.proofs.lemmas.List.{get_or-map, get_or-replicate, length-map, length-replicate, take-replicate, drop-replicate}
use Rattle.std.proofs.lemmas.List.Elements.{All-from_get_or}
use Rattle.std.proofs.lemmas.List.Folds.{sum_by-replicate}
use Rattle.std.proofs.lemmas.List.Sums.{get_or-le-sum_by, sum_by-le, sum_by-take-le}
use Rattle.std.proofs.Math.Nat.{mul-le-mul_right}
use Rattle.pc_model.specs.declared.limits.TheConstants.{MAX_COST, MAX_ITEMS, MAX_LOADS}
use Rattle.pc_rollup.specs.declared.totals.Placed.{Placed}
use Rattle.pc_rollup.specs.Sums.{IsSumOver}
use Rattle.pc_rollup.specs.Totals.{amount_at}
use Rattle.pc_rollup.specs.inside.Totals.{placed_amount, placed_item, placed_at}
use Rattle.pc_rollup.proofs.PlacedLaws.{AreSummed, AreSummed-more, magnitude_of}
use Rattle.pc_rollup.proofs.SumLaws.{IsSumOver-amounts, IsSumOver-natural, IsSumOver-same}
use Rattle.pc_load.specs.declared.table.LoadRow.{LoadRow}
use Rattle.pc_load.specs.declared.table.TheConstants.{MAX_PERIODS}
use Rattle.pc_load.specs.inside.Adding.{CanGrowRow, IsAdded}
use Rattle.pc_load.specs.Share.{part}
use Rattle.pc_load.specs.Table.{cells_of_period}
use Rattle.pc_load.specs.inside.Table.{AreEntries, IsTable, IsTableOf, RowsAddUp, load_entry_at, part_in, row_of_entry, spread_of}
use Rattle.pc_load.proofs.ColumnLaws.{before_next}
use Rattle.pc_load.proofs.SeriesLaws.{adds_up}
use Rattle.pc_load.proofs.ShareLaws.{part_most}

-- the part of an entry in period k, on its row
abbrev pub part_on : ℕ → ℕ → LoadRow → Placed
part_on width k entry = record { item = entry.row; amount = pos (part entry.spread (width * k) (width * (k + 1))) }

-- those of all entries
abbrev pub parts_in : List LoadRow → ℕ → ℕ → List Placed
parts_in entries width k = map (part_on width k) entries

pub part_is : (entries : List LoadRow) (width k e : ℕ) → e < length entries → placed_at (parts_in entries width k) e ≡ part_on width k (load_entry_at entries e)
part_is entries width k e lt =
    get_or-map (part_on width k) entries e (record { row = 0; spread = record { begin = 0; length = 0; amount = 0 } }) (record { item = 0; amount = pos 0 }) lt

-- all parts together are at most this many greatest amounts
parts_most : (rows : ℕ) (entries : List LoadRow) (width k : ℕ) → AreEntries rows entries → magnitude_of (parts_in entries width k) ≤ MAX_LOADS * MAX_COST
parts_most rows entries width k are =
    let long = length-map entries (part_on width k) in
    let most = sum_by-le (λ (p : Placed). unsigned_abs p.amount) MAX_COST (parts_in entries width k)
    (All-from_get_or (λ (p : Placed). unsigned_abs p.amount ≤ MAX_COST) (parts_in entries width k)
    (record { item = 0; amount = pos 0 }) each) in
    let few = mul-le-mul_right {m = length entries} {n = MAX_LOADS} MAX_COST are.few in
    let same = ap (λ (n : ℕ). n * MAX_COST) long in
    omega arith
  where
    each : (e : ℕ) → e < length (parts_in entries width k) → unsigned_abs (placed_at (parts_in entries width k) e).amount ≤ MAX_COST
    each e lt =
        let long = length-map entries (part_on width k) in
        let within : e < length entries = omega arith in
        let limit = (are.spreads e within).amount in
        let most = part_most (spread_of entries e) (width * k) (width * (k + 1)) in
        subst (λ (p : Placed). unsigned_abs p.amount ≤ MAX_COST) (sym (part_is entries width k e within)) (omega arith)

-- the sums of the first n entries in each of `periods` periods
pub record AreSummedIn (rows periods : ℕ) (entries : List LoadRow) (width n : ℕ) (cells : List ℤ) : Type 0 where
  pub whole : length cells ≡ periods * rows
  pub each : (k : ℕ) → k < periods → AreSummed rows (parts_in entries width k) n (cells_of_period rows cells k)

-- of none
pub summed_none : (rows periods : ℕ) (entries : List LoadRow) (width size : ℕ) → size ≡ periods * rows → AreSummedIn rows periods entries width 0 (replicate size (pos 0))
summed_none rows periods entries width size is = record {
  whole = length-replicate size (pos 0) ∙ is;
  each = λ k lt. subst (λ (l : List ℤ). AreSummed rows (parts_in entries width k) 0 l) (sym (zeros k lt)) (record {
    sums = record { one_each = length-replicate rows (pos 0); each = λ x h. get_or-replicate rows x (pos 0) (pos 0) h };
    small = let none = sum_by-replicate unsigned_abs rows (pos 0) in omega arith;
  });
}
  where
    zeros : (k : ℕ) → k < periods → cells_of_period rows (replicate size (pos 0)) k ≡ replicate rows (pos 0)
    zeros k lt =
        let up = before_next rows k periods lt in
        ap (take rows) (drop-replicate (k * rows) size (pos 0)) ∙ take-replicate rows (size - k * rows) (pos 0) (omega arith)

-- no cell is too great for one entry more
pub summed_room : (rows periods : ℕ) (entries : List LoadRow) (width n row : ℕ) (cells : List ℤ) → AreEntries rows entries → row < rows →
    AreSummedIn rows periods entries width n cells → CanGrowRow rows periods row cells
summed_room rows periods entries width n row cells are known so_far k lt =
    let summed = so_far.each k lt in
    let all = sum_by-take-le (λ (p : Placed). unsigned_abs p.amount) (parts_in entries width k) n in
    let most = parts_most rows entries width k are in
    let one_each = summed.sums.one_each in
    let one = get_or-le-sum_by unsigned_abs (cells_of_period rows cells k) row (pos 0) (omega arith) in
    omega (arith, summed.small)

-- of one entry more
pub summed_more : (rows periods : ℕ) (entries : List LoadRow) (width n : ℕ) (old new : List ℤ) → AreEntries rows entries →
    n < length entries → AreSummedIn rows periods entries width n old → IsAdded rows periods (load_entry_at entries n) width old new →
    AreSummedIn rows periods entries width (n + 1) new
summed_more rows periods entries width n old new are within so_far added = record {
  whole = added.one_each ∙ so_far.whole;
  each = λ k lt. subst (λ (l : List ℤ). AreSummed rows (parts_in entries width k) (n + 1) l) (sym (added.each k lt))
      (let long = length-map entries (part_on width k) in
      let is = part_is entries width k n within in
      AreSummed-more rows (parts_in entries width k) n (row_of_entry entries n) (cells_of_period rows old k)
      (amount_at (cells_of_period rows old k) (row_of_entry entries n)) (pos (part_in entries width k n)) (so_far.each k lt) (omega arith)
      (ap (λ (p : Placed). p.item) (sym is)) (are.known n within) refl (ap (λ (p : Placed). p.amount) (sym is)));
}

-- the sums of all entries, by row
pub row_sum : (rows periods : ℕ) (entries : List LoadRow) (width n row k : ℕ) (cells : List ℤ) →
    AreSummedIn rows periods entries width n cells → n ≡ length entries → row < rows → k < periods →
    IsSumOver (λ e. row_of_entry entries e ≡ row) (length entries) (λ e. pos (part_in entries width k e)) (amount_at (cells_of_period rows cells k) row)
row_sum rows periods entries width n row k cells so_far whole known lt =
    let total = amount_at (cells_of_period rows cells k) row in
    let placed = parts_in entries width k in
    IsSumOver-amounts (λ e. row_of_entry entries e ≡ row) (length entries) (placed_amount placed) (λ e. pos (part_in entries width k e)) total
    (λ e h. ap (λ (p : Placed). p.amount) (part_is entries width k e h))
    (IsSumOver-same (λ e. placed_item placed e ≡ row) (λ e. row_of_entry entries e ≡ row) (length entries) (placed_amount placed) total
    (λ e h on. sym (ap (λ (p : Placed). p.item) (part_is entries width k e h)) ∙ on)
    (λ e h on. ap (λ (p : Placed). p.item) (part_is entries width k e h) ∙ on)
    (subst (λ (m : ℕ). IsSumOver (λ e. placed_item placed e ≡ row) m (placed_amount placed) total) whole ((so_far.each k lt).sums.each row known)))

pub table_is : (rows periods : ℕ) (entries : List LoadRow) (width n : ℕ) (cells : List ℤ) → AreSummedIn rows periods entries width n cells →
    n ≡ length entries → IsTableOf rows entries width periods (record { rows = rows; periods = periods; cells = cells })
table_is rows periods entries width n cells so_far whole = record {
  row_count = refl;
  period_count = refl;
  each = λ row k known lt. row_sum rows periods entries width n row k cells so_far whole known lt;
}

pub is_table : (rows periods : ℕ) (entries : List LoadRow) (width n : ℕ) (cells : List ℤ) → rows ≤ MAX_ITEMS → periods ≤ MAX_PERIODS →
    AreSummedIn rows periods entries width n cells → n ≡ length entries → IsTable (record { rows = rows; periods = periods; cells = cells })
is_table rows periods entries width n cells few_rows few_periods so_far whole = record {
  rows = few_rows;
  periods = few_periods;
  whole = so_far.whole;
  natural = λ row k known lt. IsSumOver-natural (λ e. row_of_entry entries e ≡ row) (length entries) (λ e. pos (part_in entries width k e)) (amount_at (cells_of_period rows cells k) row)
      (λ e h. omega (arith, ints)) (row_sum rows periods entries width n row k cells so_far whole known lt);
}

pub rows_add_up : (rows periods : ℕ) (entries : List LoadRow) (width n : ℕ) (cells : List ℤ) → 1 ≤ periods →
    AreSummedIn rows periods entries width n cells → n ≡ length entries →
    RowsAddUp rows entries width periods (record { rows = rows; periods = periods; cells = cells })
rows_add_up rows periods entries width n cells some so_far whole over row known =
    adds_up (λ e. row_of_entry entries e ≡ row) (length entries) periods width (spread_of entries) (λ k. amount_at (cells_of_period rows cells k) row) some
    (λ k lt. row_sum rows periods entries width n row k cells so_far whole known lt) over

pub column_small : (rows periods : ℕ) (entries : List LoadRow) (width n k : ℕ) (cells : List ℤ) → AreEntries rows entries →
    AreSummedIn rows periods entries width n cells → k < periods → sum_by unsigned_abs (cells_of_period rows cells k) ≤ MAX_LOADS * MAX_COST
column_small rows periods entries width n k cells are so_far lt =
    let all = sum_by-take-le (λ (p : Placed). unsigned_abs p.amount) (parts_in entries width k) n in
    let most = parts_most rows entries width k are in
    omega (arith, (so_far.each k lt).small)
