-- How totals are added up from the end of the preorder on.
use Rattle.std.proofs.Common.{◌≡◌, ◌≢◌, ℕ, zero, suc, ◌+◌, ◌<◌, ◌≤◌, ◌⊎◌, inl, inr, ⊎_elim, List, length, get_or, set, take, Option, Some, None}
use Rattle.std.proofs.Common.{refl, sym, ap, ◌∙◌, subst, get_or-set_same, get_or-set_other, length-set, ◌^◌, to_z, of_z, w64, arith}
use Rattle.std.specs.Prelude.{ℤ, pos, ◌+ℤ◌, unsigned_abs, slice_index, sum_by}
use Rattle.std.proofs.lemmas.Bool.{cases_eq, cases_order}
use Rattle.std.proofs.lemmas.Int.{to_z-of_z, fits_signed_from_abs}
use Rattle.std.proofs.lemmas.List.Sums.{sum_by_more}
use Rattle.std.proofs.Math.Seq.{take-length}
use Rattle.pc_model.specs.Sums.{sum_to}
use Rattle.pc_wbs.specs.declared.tree.ItemRow.{ItemRow}
use Rattle.pc_wbs.specs.Climb.{parent_of, AreInRange, IsBelow, IsLeaf, IsTree}
use Rattle.pc_wbs.specs.Preorder.{IsPreorder}
use Rattle.pc_wbs.specs.inside.Precedes.{IsUnder}
use Rattle.pc_wbs.proofs.ClimbLaws.{IsBelow-self, IsBelow-parent}
use Rattle.pc_wbs.proofs.PrecedesLaws.{IsBelow-trans, IsUnder-from, IsUnder-self, cases_below, cases_above, siblings_apart}
use Rattle.pc_wbs.proofs.OrderLaws.{parent-inside, HasNoLoop-tree, under_child}
use Rattle.pc_rollup.specs.Sums.{IsSumOver}
use Rattle.pc_rollup.specs.Totals.{amount_at}
use Rattle.pc_rollup.specs.inside.Totals.{AreAtLeaves, AreRolledUp}
use Rattle.pc_rollup.proofs.SumLaws.{IsSumOver-same, IsSumOver-both, IsSumOver-one, IsSumOver-part, IsSumOver-bound}

-- c is one of the last j of the order
abbrev pub IsPassed : List ℕ → ℕ → ℕ → Type 0
IsPassed order j c = (k : ℕ) × ((length order ≤ k + j) × (k < length order) × (slice_index order k ≡ c))

-- x is y, or below a child of y that passed its total on
abbrev pub IsGathered : List ItemRow → List ℕ → ℕ → ℕ → ℕ → Type 0
IsGathered rows order j y x =
    (x ≡ y) ⊎ ((c : ℕ) × ((parent_of rows c ≡ Some y) × IsBelow rows x c × IsPassed order j c))

-- the last j of the order passed their totals on
pub record AreGathered (rows : List ItemRow) (order : List ℕ) (j : ℕ) (amounts totals : List ℤ) : Type 0 where
  pub one_each : length totals ≡ length rows
  pub each : (y : ℕ) → y < length rows → IsSumOver (IsGathered rows order j y) (length rows) (amount_at amounts) (amount_at totals y)

-- an item is at one place
pub same_place : (rows : List ItemRow) (order : List ℕ) (i k : ℕ) → IsPreorder rows order → i < length order → k < length order → slice_index order i ≡ slice_index order k → i ≡ k
same_place rows order i k preorder lt less same =
    ⊎_elim (λ e. e)
    (λ apart. ⊎_elim (λ before. absurd (preorder.once i k before less same)) (λ behind. absurd (preorder.once k i behind lt (sym same))) apart)
    (cases_order i k)

-- one item more
passed_more : (order : List ℕ) (i j c : ℕ) → i + j + 1 ≡ length order → IsPassed order (j + 1) c → (slice_index order i ≡ c) ⊎ IsPassed order j c
passed_more order i j c place (k, (le, lt, e)) =
    ⊎_elim (λ same. inl (ap (slice_index order) (sym same) ∙ e)) (λ apart. inr (k, (omega arith, lt, e))) (cases_eq k i)

pub passed_keep : (order : List ℕ) (j c : ℕ) → IsPassed order j c → IsPassed order (j + 1) c
passed_keep order j c (k, (le, lt, e)) = (k, (omega arith, lt, e))

-- nothing has been passed on
pub gathered_none : (rows : List ItemRow) (order : List ℕ) (amounts : List ℤ) → length amounts ≡ length rows → AreGathered rows order 0 amounts amounts
gathered_none rows order amounts one_each = record {
  one_each = one_each;
  each = λ y lt. IsSumOver-same (λ x. x ≡ y) (IsGathered rows order 0 y) (length rows) (amount_at amounts) (amount_at amounts y)
      (λ x h e. inl e) (λ x h g. itself y x g) (IsSumOver-one (length rows) (amount_at amounts) y lt);
}
  where
    itself : (y x : ℕ) → IsGathered rows order 0 y x → x ≡ y
    itself y x (inl e) = e
    itself y x (inr (c, (p, b, (k, (le, lt, e))))) = absurd (omega arith)

-- below y or y itself is what is below some child of y or y
pub below_child : (rows : List ItemRow) (x y : ℕ) → IsBelow rows x y → (x ≡ y) ⊎ ((c : ℕ) × ((parent_of rows c ≡ Some y) × IsBelow rows x c))
below_child rows x y below =
    ⊎_elim (λ same. inl same) (λ (p, (e, (k, h))). inr (under_child rows x y p k e h)) (cases_below rows x y below)

from_child : (rows : List ItemRow) (x y c : ℕ) → parent_of rows c ≡ Some y → IsBelow rows x c → IsBelow rows x y
from_child rows x y c e below =
    IsBelow-trans rows x c y below (IsBelow-parent rows c y y e (IsBelow-self rows y))

pub gathered-below : (rows : List ItemRow) (order : List ℕ) (j y x : ℕ) → IsGathered rows order j y x → IsBelow rows x y
gathered-below rows order j y x (inl e) = rw e (IsBelow-self rows y)
gathered-below rows order j y x (inr (c, (p, b, s))) = from_child rows x y c p b

-- an item whose turn it is has all that is below it
pub whole : (rows : List ItemRow) (order : List ℕ) (i j x : ℕ) → IsPreorder rows order → i < length order → i + j + 1 ≡ length order →
    IsBelow rows x (slice_index order i) → IsGathered rows order j (slice_index order i) x
whole rows order i j x preorder within place below = of_child (below_child rows x v below)
  where
    v : ℕ
    v = slice_index order i

    of_child : (x ≡ v) ⊎ ((c : ℕ) × ((parent_of rows c ≡ Some v) × IsBelow rows x c)) → IsGathered rows order j v x
    of_child (inl same) = inl same
    of_child (inr (c, (e, b))) =
        let (k, lt, at) = preorder.every c (parent-inside rows c v e) in
        let up : parent_of rows (slice_index order k) ≡ Some v = ap (parent_of rows) at ∙ e in
        let (h, less, is) = preorder.before k v lt up in
        let here : h ≡ i = same_place rows order h i preorder (omega arith) within is in
        inr (c, (e, b, (k, (omega arith, lt, at))))

whole_sum : (rows : List ItemRow) (order : List ℕ) (i j : ℕ) (amounts totals : List ℤ) → IsPreorder rows order →
    AreGathered rows order j amounts totals → i < length order → i + j + 1 ≡ length order →
    IsSumOver (λ x. IsBelow rows x (slice_index order i)) (length rows) (amount_at amounts) (amount_at totals (slice_index order i))
whole_sum rows order i j amounts totals preorder so_far within place =
    IsSumOver-same (IsGathered rows order j v) (λ x. IsBelow rows x v) (length rows) (amount_at amounts) (amount_at totals v)
    (λ x h g. gathered-below rows order j v x g)
    (λ x h b. whole rows order i j x preorder within place b)
    (so_far.each v (preorder.range i within))
  where
    v : ℕ
    v = slice_index order i

-- what is below the item has not been added to its parent
apart : (rows : List ItemRow) (order : List ℕ) (i j p x : ℕ) → IsTree rows → IsPreorder rows order → i < length order →
    i + j + 1 ≡ length order → parent_of rows (slice_index order i) ≡ Some p → IsGathered rows order j p x →
    IsBelow rows x (slice_index order i) → ⊥
apart rows order i j p x tree preorder within place up (inl e) below =
    let under : IsUnder rows (slice_index order i) p = (p, (up, IsBelow-self rows p)) in
    let down : IsBelow rows p (slice_index order i) = rw (← e) below in
    IsUnder-self rows p (HasNoLoop-tree rows tree) (IsUnder-from rows p (slice_index order i) p down under)
apart rows order i j p x tree preorder within place up (inr (c, (e, b, (k, (le, lt, at))))) below =
    ⊎_elim (λ cv. of_below cv) (λ vc. of_above vc) (cases_above rows x c v b below)
  where
    v : ℕ
    v = slice_index order i

    not_same : c ≡ v → ⊥
    not_same same =
        let here : k ≡ i = same_place rows order k i preorder lt within (at ∙ same) in
        omega arith

    of_below : IsBelow rows c v → ⊥
    of_below cv =
        ⊎_elim not_same (λ under. siblings_apart rows c v p (HasNoLoop-tree rows tree) e up under) (cases_below rows c v cv)

    of_above : IsBelow rows v c → ⊥
    of_above vc =
        ⊎_elim (λ same. not_same (sym same)) (λ under. siblings_apart rows v c p (HasNoLoop-tree rows tree) up e under) (cases_below rows v c vc)

-- with its parent's are then all that were, and all below the item
pub gathered_to-parent : (rows : List ItemRow) (order : List ℕ) (i j p x : ℕ) → i < length order → i + j + 1 ≡ length order →
    parent_of rows (slice_index order i) ≡ Some p → IsGathered rows order j p x ⊎ IsBelow rows x (slice_index order i) →
    IsGathered rows order (j + 1) p x
gathered_to-parent rows order i j p x within place up (inl (inl e)) = inl e
gathered_to-parent rows order i j p x within place up (inl (inr (c, (e, b, s)))) =
    inr (c, (e, b, passed_keep order j c s))
gathered_to-parent rows order i j p x within place up (inr b) =
    inr (slice_index order i, (up, b, (i, (omega arith, within, refl))))

pub gathered_from-parent : (rows : List ItemRow) (order : List ℕ) (i j p x : ℕ) → i + j + 1 ≡ length order →
    IsGathered rows order (j + 1) p x → IsGathered rows order j p x ⊎ IsBelow rows x (slice_index order i)
gathered_from-parent rows order i j p x place (inl e) = inl (inl e)
gathered_from-parent rows order i j p x place (inr (c, (e, b, s))) =
    ⊎_elim (λ same. inr (rw same b)) (λ passed. inl (inr (c, (e, b, passed)))) (passed_more order i j c place s)

-- the item's total goes to its parent
parent_sum : (rows : List ItemRow) (order : List ℕ) (i j p : ℕ) (amounts totals : List ℤ) → AreInRange rows → IsTree rows →
    IsPreorder rows order → AreGathered rows order j amounts totals → i < length order → i + j + 1 ≡ length order →
    parent_of rows (slice_index order i) ≡ Some p →
    IsSumOver (IsGathered rows order (j + 1) p) (length rows) (amount_at amounts)
    (amount_at totals p +ℤ amount_at totals (slice_index order i))
parent_sum rows order i j p amounts totals ranged tree preorder so_far within place up =
    IsSumOver-same (λ x. IsGathered rows order j p x ⊎ IsBelow rows x v) (IsGathered rows order (j + 1) p) (length rows) (amount_at amounts) (amount_at totals p +ℤ amount_at totals v)
    (λ x h either. gathered_to-parent rows order i j p x within place up either)
    (λ x h g. gathered_from-parent rows order i j p x place g)
    (IsSumOver-both (IsGathered rows order j p) (λ x. IsBelow rows x v) (length rows) (amount_at amounts) (amount_at totals p) (amount_at totals v)
    (λ x h g b. apart rows order i j p x tree preorder within place up g b)
    (so_far.each p (ranged v p (preorder.range i within) up))
    (whole_sum rows order i j amounts totals preorder so_far within place))
  where
    v : ℕ
    v = slice_index order i

-- and nothing changes at the other items
pub gathered_to-other : (rows : List ItemRow) (order : List ℕ) (j y x : ℕ) → IsGathered rows order j y x → IsGathered rows order (j + 1) y x
gathered_to-other rows order j y x (inl e) = inl e
gathered_to-other rows order j y x (inr (c, (e, b, s))) = inr (c, (e, b, passed_keep order j c s))

pub gathered_from-other : (rows : List ItemRow) (order : List ℕ) (i j y x : ℕ) → i + j + 1 ≡ length order →
    parent_of rows (slice_index order i) ≢ Some y → IsGathered rows order (j + 1) y x → IsGathered rows order j y x
gathered_from-other rows order i j y x place not_parent (inl e) = inl e
gathered_from-other rows order i j y x place not_parent (inr (c, (e, b, s))) =
    ⊎_elim (λ same. absurd (not_parent (ap (parent_of rows) same ∙ e))) (λ passed. inr (c, (e, b, passed))) (passed_more order i j c place s)

other_sum : (rows : List ItemRow) (order : List ℕ) (i j y : ℕ) (amounts totals : List ℤ) → AreGathered rows order j amounts totals →
    i + j + 1 ≡ length order → y < length rows → parent_of rows (slice_index order i) ≢ Some y →
    IsSumOver (IsGathered rows order (j + 1) y) (length rows) (amount_at amounts) (amount_at totals y)
other_sum rows order i j y amounts totals so_far place lt not_parent =
    IsSumOver-same (IsGathered rows order j y) (IsGathered rows order (j + 1) y) (length rows) (amount_at amounts) (amount_at totals y)
    (λ x h g. gathered_to-other rows order j y x g)
    (λ x h g. gathered_from-other rows order i j y x place not_parent g)
    (so_far.each y lt)

pub gathered_child : (rows : List ItemRow) (order : List ℕ) (i j p : ℕ) (amounts totals : List ℤ) → AreInRange rows → IsTree rows →
    IsPreorder rows order → AreGathered rows order j amounts totals → i < length order → i + j + 1 ≡ length order →
    parent_of rows (slice_index order i) ≡ Some p →
    AreGathered rows order (j + 1) amounts (set totals p (amount_at totals p +ℤ amount_at totals (slice_index order i)))
gathered_child rows order i j p amounts totals ranged tree preorder so_far within place up = record {
  one_each = length-set totals p sum ∙ so_far.one_each;
  each = λ y lt. ⊎_elim (λ e. here y e) (λ ne. there y lt ne) (cases_eq p y);
}
  where
    sum : ℤ
    sum = amount_at totals p +ℤ amount_at totals (slice_index order i)

    here : (y : ℕ) → p ≡ y → IsSumOver (IsGathered rows order (j + 1) y) (length rows) (amount_at amounts) (amount_at (set totals p sum) y)
    here y e =
        let known : p < length totals = let inside = ranged (slice_index order i) p (preorder.range i within) up in omega (arith, so_far.one_each) in
        rw (← e, get_or-set_same totals p sum (pos 0) known) (parent_sum rows order i j p amounts totals ranged tree preorder so_far within place up)

    there : (y : ℕ) → y < length rows → p ≢ y → IsSumOver (IsGathered rows order (j + 1) y) (length rows) (amount_at amounts) (amount_at (set totals p sum) y)
    there y lt ne =
        let other : y ≢ p = λ e. ne (sym e) in
        rw (get_or-set_other totals p y sum (pos 0) other) (other_sum rows order i j y amounts totals so_far place lt (λ e. ne (let same : Some p ≡ Some y = sym up ∙ e in cc)))

pub gathered_top : (rows : List ItemRow) (order : List ℕ) (i j : ℕ) (amounts totals : List ℤ) → AreGathered rows order j amounts totals →
    i + j + 1 ≡ length order → parent_of rows (slice_index order i) ≡ None → AreGathered rows order (j + 1) amounts totals
gathered_top rows order i j amounts totals so_far place up = record {
  one_each = so_far.one_each;
  each = λ y lt. other_sum rows order i j y amounts totals so_far place lt (λ e. let clash : None ≡ Some y = sym up ∙ e in cc);
}

-- sums of magnitudes over a list and over its places
sum_by-take : (f : ℤ → ℕ) (xs : List ℤ) (i : ℕ) → i ≤ length xs → sum_by f (take i xs) ≡ sum_to i (λ k. f (get_or xs k (pos 0)))
sum_by-take f xs zero h = refl
sum_by-take f xs (suc i) h =
    let e : suc i ≡ i + 1 = omega arith in
    let more = sum_by_more f xs i (pos 0) (omega arith) in
    ap (λ (n : ℕ). sum_by f (take n xs)) e ∙ more ∙ ap (λ (n : ℕ). n + f (get_or xs i (pos 0))) (sum_by-take f xs i (omega arith))

pub magnitude : (amounts : List ℤ) → sum_by unsigned_abs amounts ≡ sum_to (length amounts) (λ x. unsigned_abs (amount_at amounts x))
magnitude amounts =
    ap (sum_by unsigned_abs) (sym (take-length amounts)) ∙ sum_by-take unsigned_abs amounts (length amounts) (omega arith)

-- the sum that goes to a parent is no greater than all amounts
pub parent_fits : (rows : List ItemRow) (order : List ℕ) (i j p : ℕ) (amounts totals : List ℤ) → AreInRange rows → IsTree rows →
    IsPreorder rows order → length amounts ≡ length rows → AreGathered rows order j amounts totals → i < length order →
    i + j + 1 ≡ length order → parent_of rows (slice_index order i) ≡ Some p →
    unsigned_abs (amount_at totals p +ℤ amount_at totals (slice_index order i)) ≤ sum_by unsigned_abs amounts
parent_fits rows order i j p amounts totals ranged tree preorder one_each so_far within place up =
    let bound = IsSumOver-bound (IsGathered rows order (j + 1) p) (length rows) (amount_at amounts)
    (amount_at totals p +ℤ amount_at totals (slice_index order i))
    (parent_sum rows order i j p amounts totals ranged tree preorder so_far within place up) in
    omega (arith, bound, magnitude amounts, ap (λ (n : ℕ). sum_to n (λ x. unsigned_abs (amount_at amounts x))) one_each)

-- numbers whose sum fits are added as numbers
pub added : (a b : ℤ) → unsigned_abs a < 2 ^ 63 → unsigned_abs b < 2 ^ 63 → unsigned_abs (a +ℤ b) < 2 ^ 63 → to_z w64 (of_z w64 (to_z w64 (of_z w64 a) +ℤ to_z w64 (of_z w64 b))) ≡ a +ℤ b
added a b small less sum =
    let fits_a = fits_signed_from_abs w64 a small in
    let fits_b = fits_signed_from_abs w64 b less in
    let fits = fits_signed_from_abs w64 (a +ℤ b) sum in
    ap (λ (z : ℤ). to_z w64 (of_z w64 (z +ℤ to_z w64 (of_z w64 b)))) (to_z-of_z w64 a fits_a) ∙ (ap (λ (z : ℤ). to_z w64 (of_z w64 (a +ℤ z))) (to_z-of_z w64 b fits_b) ∙ to_z-of_z w64 (a +ℤ b) fits)

-- what stays true of totals on their way up: the loop goes back over the preorder of a tree, the amounts are small, and the last j of the order
-- passed their totals on
pub record AreRolling (rows : List ItemRow) (order : List ℕ) (j : ℕ) (amounts totals : List ℤ) : Type 0 where
  pub ranged : AreInRange rows
  pub tree : IsTree rows
  pub preorder : IsPreorder rows order
  pub one_each : length amounts ≡ length rows
  pub small : sum_by unsigned_abs amounts < 2 ^ 63
  pub gathered : AreGathered rows order j amounts totals

-- the same with totals to which more has been added
rolling_on : (rows : List ItemRow) (order : List ℕ) (j k : ℕ) (amounts totals others : List ℤ) → AreRolling rows order j amounts totals →
    AreGathered rows order k amounts others → AreRolling rows order k amounts others
rolling_on rows order j k amounts totals others r gathered = record {
  ranged = r.ranged;
  tree = r.tree;
  preorder = r.preorder;
  one_each = r.one_each;
  small = r.small;
  gathered = gathered;
}

-- what a turn needs: an item v, whose turn it is, and its parent p
pub record IsTurn (rows : List ItemRow) (order : List ℕ) (j p : ℕ) (amounts totals : List ℤ) (v : ℕ) : Type 0 where
  pub so_far : AreRolling rows order j amounts totals
  pub place : (i : ℕ) × (i < length order) × (i + j + 1 ≡ length order) × (slice_index order i ≡ v)
  pub up : parent_of rows v ≡ Some p

pub turn_fits : (rows : List ItemRow) (order : List ℕ) (j p : ℕ) (amounts totals : List ℤ) (v : ℕ) →
    IsTurn rows order j p amounts totals v → unsigned_abs (amount_at totals p +ℤ amount_at totals v) < 2 ^ 63
turn_fits rows order j p amounts totals v t =
    let (i, lt, place, at) = t.place in
    let s = t.so_far in
    let both = parent_fits rows order i j p amounts totals s.ranged s.tree s.preorder s.one_each s.gathered lt place (ap (parent_of rows) at ∙ t.up) in
    omega (arith, s.small, both, ap (λ (n : ℕ). unsigned_abs (amount_at totals p +ℤ amount_at totals n)) at)

pub turn_taken : (rows : List ItemRow) (order : List ℕ) (j p : ℕ) (amounts totals : List ℤ) (v : ℕ) →
    IsTurn rows order j p amounts totals v → AreRolling rows order (j + 1) amounts (set totals p (amount_at totals p +ℤ amount_at totals v))
turn_taken rows order j p amounts totals v t =
    let (i, lt, place, at) = t.place in
    let s = t.so_far in
    rolling_on rows order j (j + 1) amounts totals _ s
    (subst (λ (n : ℕ). AreGathered rows order (j + 1) amounts (set totals p (amount_at totals p +ℤ amount_at totals n))) at
    (gathered_child rows order i j p amounts totals s.ranged s.tree s.preorder s.gathered lt place (ap (parent_of rows) at ∙ t.up)))

pub top_taken : (rows : List ItemRow) (order : List ℕ) (j : ℕ) (amounts totals : List ℤ) (v : ℕ) → AreRolling rows order j amounts totals →
    (i : ℕ) × (i < length order) × (i + j + 1 ≡ length order) × (slice_index order i ≡ v) → parent_of rows v ≡ None →
    AreRolling rows order (j + 1) amounts totals
top_taken rows order j amounts totals v so_far (i, lt, place, at) up =
    rolling_on rows order j (j + 1) amounts totals totals so_far (gathered_top rows order i j amounts totals so_far.gathered place (ap (parent_of rows) at ∙ up))

-- whether an item is a leaf
child_below : (rows : List ItemRow) (x n : ℕ) → ((y : ℕ) × ((y < n) × (parent_of rows y ≡ Some x))) ⊎ ((y : ℕ) → y < n → parent_of rows y ≢ Some x)
child_below rows x zero = inr (λ y lt e. absurd (omega arith))
child_below rows x (suc n) = ⊎_elim (λ (y, (lt, e)). inl (y, (omega arith, e))) (λ none. of_parent none (parent_of rows n) refl) (child_below rows x n)
  where
    last : (n : ℕ) → ((y : ℕ) → y < n → parent_of rows y ≢ Some x) → parent_of rows n ≢ Some x → (y : ℕ) → y < suc n → parent_of rows y ≢ Some x
    last n none not_here y lt =
        ⊎_elim (λ e. rw e not_here) (λ ne. none y (omega arith)) (cases_eq y n)

    of_parent : ((y : ℕ) → y < n → parent_of rows y ≢ Some x) → (o : Option ℕ) → parent_of rows n ≡ o →
        ((y : ℕ) × ((y < suc n) × (parent_of rows y ≡ Some x))) ⊎ ((y : ℕ) → y < suc n → parent_of rows y ≢ Some x)
    of_parent none None e = inr (last n none (λ is. let clash : None ≡ Some x = sym e ∙ is in cc))
    of_parent none (Some p) e =
        ⊎_elim (λ same. inl (n, (omega arith, e ∙ ap Some same)))
        (λ ne. inr (last n none (λ is. ne (let both : Some p ≡ Some x = sym e ∙ is in cc))))
        (cases_eq p x)

pub leaf_or_not : (rows : List ItemRow) (x : ℕ) → IsLeaf rows x ⊎ (IsLeaf rows x → ⊥)
leaf_or_not rows x =
    ⊎_elim (λ (y, (lt, e)). inr (λ leaf. leaf y lt e)) (λ none. inl none) (child_below rows x (length rows))

-- what is below an item has all been added once all passed their totals on
pub all_gathered : (rows : List ItemRow) (order : List ℕ) (j y x : ℕ) → IsPreorder rows order → length order ≤ j → IsBelow rows x y → IsGathered rows order j y x
all_gathered rows order j y x preorder all below = of_child (below_child rows x y below)
  where
    of_child : (x ≡ y) ⊎ ((c : ℕ) × ((parent_of rows c ≡ Some y) × IsBelow rows x c)) → IsGathered rows order j y x
    of_child (inl same) = inl same
    of_child (inr (c, (e, b))) =
        let (k, lt, at) = preorder.every c (parent-inside rows c y e) in
        inr (c, (e, b, (k, (omega arith, lt, at))))

-- all passed their totals on
pub gathered_all : (rows : List ItemRow) (order : List ℕ) (j : ℕ) (amounts totals : List ℤ) → AreAtLeaves rows amounts → length order ≤ j →
    AreRolling rows order j amounts totals → AreRolledUp rows amounts totals
gathered_all rows order j amounts totals at_leaves all so_far = record {
  one_each = so_far.gathered.one_each;
  each = λ y lt. IsSumOver-part (λ x. IsBelow rows x y) (IsLeaf rows) (length rows) (amount_at amounts) (amount_at totals y)
      (λ x h. ⊎_elim (λ leaf. inl leaf) (λ none. inr (none, at_leaves x h none)) (leaf_or_not rows x))
      (IsSumOver-same (IsGathered rows order j y) (λ x. IsBelow rows x y) (length rows) (amount_at amounts) (amount_at totals y)
      (λ x h g. gathered-below rows order j y x g)
      (λ x h b. all_gathered rows order j y x so_far.preorder all b)
      (so_far.gathered.each y lt));
}
