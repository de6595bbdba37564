-- How amounts are summed on the items that they are placed on.
use Rattle.std.proofs.Common.{◌≡◌, ◌≢◌, ℕ, ◌+◌, ◌<◌, ◌≤◌, ◌^◌, ⊎_elim, List, length, get_or, set, take, sym, ap, ◌∙◌}
use Rattle.std.proofs.Common.{subst, get_or-set_same, get_or-set_other, length-set, to_z, of_z, w64, arith}
use Rattle.std.specs.Prelude.{ℤ, pos, ◌+ℤ◌, unsigned_abs, sum_by}
use Rattle.std.proofs.lemmas.Bool.{cases_eq}
use Rattle.std.proofs.lemmas.List.{get_or_default}
use Rattle.std.proofs.lemmas.List.Sums.{sum_by-set, sum_by_more, sum_by-take-le, get_or-le-sum_by}
use Rattle.pc_wbs.specs.declared.tree.ItemRow.{ItemRow}
use Rattle.pc_wbs.specs.Climb.{IsBelow, IsLeaf}
use Rattle.pc_rollup.specs.declared.totals.Placed.{Placed}
use Rattle.pc_rollup.specs.Sums.{IsSumOver}
use Rattle.pc_rollup.specs.Totals.{amount_at}
use Rattle.pc_rollup.specs.inside.Totals.{placed_item, placed_amount, ArePlacedSums, AreOnLeaves, AreAtLeaves, AreRolledUp, AreTotalsOf}
use Rattle.pc_rollup.proofs.SumLaws.{unsigned_abs-add, IsSumOver-has, IsSumOver-lacks, IsSumOver-same, IsSumOver-nested, IsSumOver-none, IsSumOver-only}
use Rattle.pc_rollup.proofs.RollLaws.{added}

-- the sum of all magnitudes
abbrev pub magnitude_of : List Placed → ℕ
magnitude_of placed = sum_by (λ (p : Placed). unsigned_abs p.amount) placed

-- the amounts of the first n, and how great they are together
pub record AreSummed (items : ℕ) (placed : List Placed) (n : ℕ) (amounts : List ℤ) : Type 0 where
  pub sums : ArePlacedSums items placed n amounts
  pub small : sum_by unsigned_abs amounts ≤ magnitude_of (take n placed)

-- one amount more, on the item that it is placed on
pub AreSummed-more : (items : ℕ) (placed : List Placed) (i x : ℕ) (amounts : List ℤ) (a b : ℤ) → AreSummed items placed i amounts →
    i < length placed → x ≡ placed_item placed i → x < items → a ≡ amount_at amounts x → b ≡ placed_amount placed i →
    AreSummed items placed (i + 1) (set amounts x (a +ℤ b))
AreSummed-more items placed i x amounts a b so_far within place known read is = record {
  sums = record {
    one_each = length-set amounts x (a +ℤ b) ∙ so_far.sums.one_each;
    each = λ y lt. ⊎_elim (λ e. here y lt e) (λ ne. there y lt ne) (cases_eq x y);
  };
  small = let known_at : x < length amounts = omega (arith, so_far.sums.one_each) in
      omega (
        arith,
        sum_by-set unsigned_abs amounts x (a +ℤ b) (pos 0) known_at,
        unsigned_abs-add a b,
        so_far.small,
        ap unsigned_abs read,
        ap unsigned_abs is,
        sum_by_more (λ (p : Placed). unsigned_abs p.amount) placed i (record { item = 0; amount = pos 0 }) within,
      );
}
  where
    here : (y : ℕ) → y < items → x ≡ y → IsSumOver (λ k. placed_item placed k ≡ y) (i + 1) (placed_amount placed) (amount_at (set amounts x (a +ℤ b)) y)
    here y lt e =
        let known_at : x < length amounts = omega (arith, so_far.sums.one_each) in
        rw (← e, get_or-set_same amounts x (a +ℤ b) (pos 0) known_at)
        (IsSumOver-has (λ k. placed_item placed k ≡ x) i (placed_amount placed) (amount_at amounts x) (a +ℤ b) (sym place)
        (so_far.sums.each x known) (ap (λ (z : ℤ). z +ℤ b) read ∙ ap (λ (z : ℤ). amount_at amounts x +ℤ z) is))

    there : (y : ℕ) → y < items → x ≢ y → IsSumOver (λ k. placed_item placed k ≡ y) (i + 1) (placed_amount placed) (amount_at (set amounts x (a +ℤ b)) y)
    there y lt ne =
        let other : y ≢ x = λ e. ne (sym e) in
        rw (get_or-set_other amounts x y (a +ℤ b) (pos 0) other) (IsSumOver-lacks (λ k. placed_item placed k ≡ y) i (placed_amount placed) (amount_at amounts y) (λ e. ne (place ∙ e))
        (so_far.sums.each y lt))

-- what one amount and the sum on its item are no greater than
pub sums_fit : (items : ℕ) (placed : List Placed) (i x : ℕ) (amounts : List ℤ) (a b : ℤ) → AreSummed items placed i amounts →
    magnitude_of placed < 2 ^ 63 → i < length placed → x < items → a ≡ amount_at amounts x → b ≡ placed_amount placed i →
    (unsigned_abs a < 2 ^ 63) × (unsigned_abs b < 2 ^ 63) × (unsigned_abs (a +ℤ b) < 2 ^ 63)
sums_fit items placed i x amounts a b so_far small within known read is =
    let known_at : x < length amounts = omega (arith, so_far.sums.one_each) in
    let more = sum_by_more (λ (p : Placed). unsigned_abs p.amount) placed i (record { item = 0; amount = pos 0 }) within in
    let all = sum_by-take-le (λ (p : Placed). unsigned_abs p.amount) placed (i + 1) in
    let one = get_or-le-sum_by unsigned_abs amounts x (pos 0) known_at in
    let first = ap unsigned_abs read in
    let second = ap unsigned_abs is in
    let both = unsigned_abs-add a b in
    (omega (arith, so_far.small), omega (arith, so_far.small), omega (arith, so_far.small))

pub placed_taken : (items : ℕ) (placed : List Placed) (i x : ℕ) (amounts : List ℤ) (a b : ℤ) → AreSummed items placed i amounts →
    magnitude_of placed < 2 ^ 63 → i < length placed → x ≡ placed_item placed i → x < items → a ≡ get_or amounts x a → b ≡ placed_amount placed i →
    AreSummed items placed (i + 1) (set amounts x (to_z w64 (of_z w64 (to_z w64 (of_z w64 a) +ℤ to_z w64 (of_z w64 b)))))
placed_taken items placed i x amounts a b so_far small within place known read is =
    let known_at : x < length amounts = omega (arith, so_far.sums.one_each) in
    let at : a ≡ amount_at amounts x = read ∙ get_or_default amounts x a (pos 0) known_at in
    let (less, least, sum) = sums_fit items placed i x amounts a b so_far small within known at is in
    subst (λ (z : ℤ). AreSummed items placed (i + 1) (set amounts x z)) (sym (added a b less least sum)) (AreSummed-more items placed i x amounts a b so_far within place known at is)

-- amounts that are placed on leaves alone leave the other items without
pub amounts_at_leaves : (rows : List ItemRow) (placed : List Placed) (amounts : List ℤ) → AreOnLeaves rows placed → ArePlacedSums (length rows) placed (length placed) amounts →
    AreAtLeaves rows amounts
amounts_at_leaves rows placed amounts on_leaves sums x lt no_leaf =
    IsSumOver-only (λ k. placed_item placed k ≡ x) (length placed) (placed_amount placed) (amount_at amounts x) (pos 0) (sums.each x lt)
    (IsSumOver-none (λ k. placed_item placed k ≡ x) (length placed) (placed_amount placed) (λ k h e. no_leaf (subst (λ (n : ℕ). IsLeaf rows n) e (on_leaves.leaves k h))))

-- the sums over leaves are the sums over what is placed on them
pub totals_are : (rows : List ItemRow) (placed : List Placed) (amounts totals : List ℤ) → AreOnLeaves rows placed →
    ArePlacedSums (length rows) placed (length placed) amounts → AreRolledUp rows amounts totals → AreTotalsOf rows placed totals
totals_are rows placed amounts totals on_leaves sums rolled = record {
  one_each = rolled.one_each;
  each = λ y lt. IsSumOver-same (λ k. (IsLeaf rows (placed_item placed k) × IsBelow rows (placed_item placed k) y)
      × (placed_item placed k < length rows)) (λ k. IsBelow rows (placed_item placed k) y) (length placed) (placed_amount placed) (amount_at totals y)
      (λ k h p. p.0.1)
      (λ k h below. ((on_leaves.leaves k h, below), on_leaves.known k h))
      (IsSumOver-nested (λ x. IsLeaf rows x × IsBelow rows x y) (placed_item placed) (length rows) (length placed) (amount_at amounts)
      (placed_amount placed) (amount_at totals y) sums.each (rolled.each y lt));
}
