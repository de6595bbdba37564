-- The lines of a level together have all that is on leaves, and so the amounts of the top.
use Rattle.std.proofs.Common.{◌≡◌, ◌≢◌, Option, Some, None, ℕ, zero, suc, ◌+◌, ◌<◌, ◌≤◌, ◌⊎◌, inl, inr, ⊎_elim, List, [], ◌∷◌, ◌++◌, length, take, refl, sym, ◌∙◌, subst, arith}
use Rattle.std.specs.Prelude.{ℤ, pos, ◌+ℤ◌, slice_index}
use Rattle.std.proofs.lemmas.Bool.{cases_eq, cases_lt}
use Rattle.std.proofs.lemmas.List.Sums.{fold_more}
use Rattle.std.proofs.Math.Seq.{take-length}
use Rattle.pc_wbs.specs.declared.tree.ItemRow.{ItemRow}
use Rattle.pc_wbs.specs.Climb.{parent_of, AreInRange, HasLevel, IsBelow, IsTop, IsOnlyTop, IsLeaf, IsTree}
use Rattle.pc_wbs.proofs.ClimbLaws.{HasLevel-same}
use Rattle.pc_wbs.specs.Preorder.{IsPreorder}
use Rattle.pc_wbs.proofs.OrderLaws.{IsBelow-top}
use Rattle.pc_rollup.specs.declared.levels.LevelLine.{LevelLine}
use Rattle.pc_rollup.specs.Sums.{IsSumOver}
use Rattle.pc_rollup.specs.Totals.{amount_at}
use Rattle.pc_rollup.specs.inside.Totals.{AreRolledUp}
use Rattle.pc_rollup.specs.Lines.{HasLine, line_at, StandsBefore, AreLines, sum_of}
use Rattle.pc_rollup.proofs.SumLaws.{IsSumOver-none, IsSumOver-same, IsSumOver-both, IsSumOver-only, IsSumOver-at, IsSumOver-parts, IsSumOver-some}
use Rattle.pc_rollup.proofs.RollLaws.{leaf_or_not}
use Rattle.pc_rollup.proofs.LineLaws.{line_of_leaf, AreLinesTo, lines_none, lines_skip, lines_more, lines_all}

-- what is on the leaves of a tree, and the lines of a level: those numbers below n that have P are on leaves, each
-- total is the sum of what is on its item or below it, and the lines are those of the level with these totals
pub record AreAll (rows : List ItemRow) (order : List ℕ) (level : ℕ) (P : ℕ → Type 0) (place : ℕ → ℕ) (n : ℕ) (amount : ℕ → ℤ) (totals : List ℤ) (listed : List LevelLine) : Type 0 where
  pub ranged : AreInRange rows
  pub tree : IsTree rows
  pub preorder : IsPreorder rows order
  pub some : 1 ≤ level
  pub known : (x : ℕ) → x < n → P x → place x < length rows
  pub leaves : (x : ℕ) → x < n → P x → IsLeaf rows (place x)
  pub summed : (y : ℕ) → y < length rows → IsSumOver (λ x. P x × IsBelow rows (place x) y) n amount (amount_at totals y)
  pub lines : AreLines rows order level totals listed

-- x is below one of the first k lines
abbrev IsCovered : List ItemRow → (ℕ → Type 0) → (ℕ → ℕ) → List LevelLine → ℕ → ℕ → Type 0
IsCovered rows P place lines k x =
    P x × ((j : ℕ) × ((j < k) × IsBelow rows (place x) (line_at lines j).item))

-- no item has two lines
one_line : (rows : List ItemRow) (order : List ℕ) (x y : ℕ) → IsPreorder rows order → StandsBefore order x y → x ≡ y → ⊥
one_line rows order x y preorder (j, (k, (lt, less, at, is))) same =
    let e : slice_index order j ≡ slice_index order k = at ∙ same ∙ sym is in
    preorder.once j k lt less e

-- one more line
covered_more : (rows : List ItemRow) (order : List ℕ) (level : ℕ) (P : ℕ → Type 0) (place : ℕ → ℕ) (n : ℕ) (amount : ℕ → ℤ)
    (totals : List ℤ) (lines : List LevelLine) (k : ℕ) (sum : ℤ) → AreAll rows order level P place n amount totals lines →
    k < length lines → IsSumOver (IsCovered rows P place lines k) n amount sum →
    IsSumOver (IsCovered rows P place lines (k + 1)) n amount (sum +ℤ (line_at lines k).amount)
covered_more rows order level P place n amount totals lines k sum all lt so_far =
    IsSumOver-same (λ x. IsCovered rows P place lines k x ⊎ (P x × IsBelow rows (place x) item)) (IsCovered rows P place lines (k + 1)) n amount (sum +ℤ (line_at lines k).amount)
    (λ x h either. to x either)
    (λ x h covered. from x covered)
    (IsSumOver-both (IsCovered rows P place lines k) (λ x. P x × IsBelow rows (place x) item) n amount sum (line_at lines k).amount
    (λ x h covered here. apart x h covered here)
    so_far
    (subst (λ (z : ℤ). IsSumOver (λ x. P x × IsBelow rows (place x) item) n amount z) (sym (all.lines.amount k lt)) (all.summed item (all.lines.known k lt))))
  where
    item : ℕ
    item = (line_at lines k).item

    to : (x : ℕ) → IsCovered rows P place lines k x ⊎ (P x × IsBelow rows (place x) item) → IsCovered rows P place lines (k + 1) x
    to x (inl (has, (j, (less, below)))) = (has, (j, (omega arith, below)))
    to x (inr (has, below)) = (has, (k, (omega arith, below)))

    from : (x : ℕ) → IsCovered rows P place lines (k + 1) x → IsCovered rows P place lines k x ⊎ (P x × IsBelow rows (place x) item)
    from x (has, (j, (less, below))) =
        ⊎_elim (λ e. inr (has, subst (λ (i : ℕ). IsBelow rows (place x) (line_at lines i).item) e below)) (λ ne. inl (has, (j, (omega arith, below)))) (cases_eq j k)

    apart : (x : ℕ) → x < n → IsCovered rows P place lines k x → P x × IsBelow rows (place x) item → ⊥
    apart x h (has, (j, (less, below))) (other, here) =
        let (y, line) = line_of_leaf rows level (place x) all.ranged all.tree all.some (all.known x h has) (all.leaves x h has) in
        let first = line.only (line_at lines j).item (all.lines.each j (omega arith)) below in
        let second = line.only item (all.lines.each k lt) here in
        one_line rows order (line_at lines j).item item all.preorder (all.lines.in_order j k less lt) (first ∙ sym second)

covered : (rows : List ItemRow) (order : List ℕ) (level : ℕ) (P : ℕ → Type 0) (place : ℕ → ℕ) (n : ℕ) (amount : ℕ → ℤ) (totals : List ℤ)
    (lines : List LevelLine) (k : ℕ) → AreAll rows order level P place n amount totals lines → k ≤ length lines →
    IsSumOver (IsCovered rows P place lines k) n amount (sum_of (take k lines))
covered rows order level P place n amount totals lines zero all le =
    IsSumOver-none (IsCovered rows P place lines 0) n amount (λ x h (has, (j, (lt, below))). absurd (omega arith))
covered rows order level P place n amount totals lines (suc k) all le =
    let e : k + 1 ≡ suc k = omega arith in
    let lt : k < length lines = omega arith in
    let more : sum_of (take (k + 1) lines)
    ≡ sum_of (take k lines) +ℤ (line_at lines k).amount = fold_more (λ (sum : ℤ) (line : LevelLine). sum +ℤ line.amount) (pos 0) lines k
    (record { item = 0; amount = pos 0 }) lt in
    let next = covered_more rows order level P place n amount totals lines k (sum_of (take k lines)) all lt (covered rows order level P place n amount totals lines k all (omega arith)) in
    subst (λ (i : ℕ). IsSumOver (IsCovered rows P place lines i) n amount (sum_of (take i lines))) e
    (subst (λ (z : ℤ). IsSumOver (IsCovered rows P place lines (k + 1)) n amount z) (sym more) next)

-- the lines have all that is on leaves, each amount once
pub lines_sum : (rows : List ItemRow) (order : List ℕ) (level : ℕ) (P : ℕ → Type 0) (place : ℕ → ℕ) (n : ℕ) (amount : ℕ → ℤ)
    (totals : List ℤ) (lines : List LevelLine) → AreAll rows order level P place n amount totals lines → IsSumOver P n amount (sum_of lines)
lines_sum rows order level P place n amount totals lines all =
    IsSumOver-same (IsCovered rows P place lines (length lines)) P n amount (sum_of lines)
    (λ x h (has, rest). has)
    (λ x h has. (has, line x h has))
    (subst (λ (ls : List LevelLine). IsSumOver (IsCovered rows P place lines (length lines)) n amount (sum_of ls)) (take-length lines)
    (covered rows order level P place n amount totals lines (length lines) all (omega arith)))
  where
    line : (x : ℕ) → x < n → P x → (j : ℕ) × ((j < length lines) × IsBelow rows (place x) (line_at lines j).item)
    line x h has =
        let (y, its) = line_of_leaf rows level (place x) all.ranged all.tree all.some (all.known x h has) (all.leaves x h has) in
        let (j, (less, e)) = all.lines.every y its.known its.line in
        (j, (less, subst (IsBelow rows (place x)) (sym e) its.at.below))

-- the top has the sum over all leaves
leaves_of_top : (rows : List ItemRow) (top : ℕ) (amounts totals : List ℤ) → AreInRange rows → IsTree rows →
    AreRolledUp rows amounts totals → IsTop rows top → IsSumOver (IsLeaf rows) (length rows) (amount_at amounts) (amount_at totals top)
leaves_of_top rows top amounts totals ranged tree rolled is_top =
    IsSumOver-same (λ x. IsLeaf rows x × IsBelow rows x top) (IsLeaf rows) (length rows) (amount_at amounts) (amount_at totals top)
    (λ x h (leaf, rest). leaf)
    (λ x h leaf. (leaf, IsBelow-top rows top x ranged tree only h))
    (rolled.each top is_top.0)
  where
    only : IsOnlyTop rows top
    only = let (first, alone) = tree.top in subst (IsOnlyTop rows) (sym (alone.only top is_top.0 is_top.1)) alone

-- so they have what the top has, where the totals are rolled up from the leaves' own amounts
pub whole_sum : (rows : List ItemRow) (order : List ℕ) (level top : ℕ) (amounts totals : List ℤ) (lines : List LevelLine) →
    AreInRange rows → IsTree rows → IsPreorder rows order → 1 ≤ level → AreLines rows order level totals lines →
    AreRolledUp rows amounts totals → IsTop rows top → sum_of lines ≡ amount_at totals top
whole_sum rows order level top amounts totals lines ranged tree preorder some are rolled is_top =
    IsSumOver-only (IsLeaf rows) (length rows) (amount_at amounts) (sum_of lines) (amount_at totals top)
    (lines_sum rows order level (IsLeaf rows) (λ x. x) (length rows) (amount_at amounts) totals lines (record {
      ranged = ranged;
      tree = tree;
      preorder = preorder;
      some = some;
      known = λ x h leaf. h;
      leaves = λ x h leaf. leaf;
      summed = rolled.each;
      lines = are;
    }))
    (leaves_of_top rows top amounts totals ranged tree rolled is_top)

-- ---- the lines of a level as items

-- whether an item has a line
line_or_not : (rows : List ItemRow) (level x : ℕ) → IsTree rows → x < length rows → HasLine rows level x ⊎ (HasLine rows level x → ⊥)
line_or_not rows level x tree lt =
    let (own, (has, within)) = tree.levels x lt in
    ⊎_elim (λ e. inl (inl (subst (HasLevel rows x) e has))) (λ ne. ⊎_elim (λ less. high own has less ne) (λ le. inr (low own has le ne)) (cases_lt own level)) (cases_eq own level)
  where
    high : (own : ℕ) → HasLevel rows x own → own < level → own ≢ level → HasLine rows level x ⊎ (HasLine rows level x → ⊥)
    high own has less ne =
        ⊎_elim (λ leaf. inl (inr (leaf, (own, (has, less))))) (λ none. inr (λ line. ⊎_elim (λ at. ne (HasLevel-same rows x own level has at)) (λ (leaf, rest). none leaf) line)) (leaf_or_not rows x)

    low : (own : ℕ) → HasLevel rows x own → level ≤ own → own ≢ level → HasLine rows level x → ⊥
    low own has le ne line =
        ⊎_elim (λ at. ne (HasLevel-same rows x own level has at)) (λ (leaf, (other, (at, less))). let same = HasLevel-same rows x own other has at in absurd (omega arith)) line

-- the items at a level and the leaves above it have together what the top has
pub lines_have_all : (rows : List ItemRow) (level top : ℕ) (amounts totals : List ℤ) → AreInRange rows → IsTree rows → 1 ≤ level →
    AreRolledUp rows amounts totals → IsTop rows top →
    IsSumOver (HasLine rows level) (length rows) (amount_at totals) (amount_at totals top)
lines_have_all rows level top amounts totals ranged tree some rolled is_top =
    let (sum, over) = IsSumOver-some (HasLine rows level) (length rows) (amount_at totals) (λ x h. line_or_not rows level x tree h) in
    IsSumOver-at (HasLine rows level) (length rows) (amount_at totals) sum (amount_at totals top) (same sum over) over
  where
    -- a leaf has one line
    apart : (x y k : ℕ) → x < y → y < length rows → k < length rows → HasLine rows level x → HasLine rows level y → IsLeaf rows k × IsBelow rows k x → IsLeaf rows k × IsBelow rows k y → ⊥
    apart x y k less h known on_x on_y (leaf, in_x) (also, in_y) =
        let (z, line) = line_of_leaf rows level k ranged tree some known leaf in
        let first = line.only x on_x in_x in
        let second = line.only y on_y in_y in
        omega arith

    same : (sum : ℤ) → IsSumOver (HasLine rows level) (length rows) (amount_at totals) sum → sum ≡ amount_at totals top
    same sum over =
        IsSumOver-only (IsLeaf rows) (length rows) (amount_at amounts) sum (amount_at totals top)
        (IsSumOver-same (λ k. (x : ℕ) × ((x < length rows) × HasLine rows level x × (IsLeaf rows k × IsBelow rows k x))) (IsLeaf rows) (length rows) (amount_at amounts) sum
        (λ k h (x, (lt, line, (leaf, below))). leaf)
        (λ k h leaf. let (y, line) = line_of_leaf rows level k ranged tree some h leaf in (y, (line.known, line.line, (leaf, line.at.below))))
        (IsSumOver-parts (HasLine rows level) (λ x k. IsLeaf rows k × IsBelow rows k x) (length rows) (length rows) (amount_at totals)
        (amount_at amounts) sum (λ x h line. rolled.each x h) apart over))
        (leaves_of_top rows top amounts totals ranged tree rolled is_top)

-- ---- the lines of a level, which has some

-- those of the first n items in order
lines_to : (rows : List ItemRow) (order : List ℕ) (level : ℕ) (totals : List ℤ) → IsTree rows → IsPreorder rows order → (n : ℕ) → n ≤ length order →
    (lines : List LevelLine) × AreLinesTo rows order n level totals lines
lines_to rows order level totals tree preorder zero le = ([], lines_none rows order level totals)
lines_to rows order level totals tree preorder (suc n) le =
    let (lines, so_far) = lines_to rows order level totals tree preorder n (omega arith) in
    let more : n + 1 ≡ suc n = omega arith in
    ⊎_elim
    (λ has. (
      lines ++ line n ∷ [],
      subst (λ (k : ℕ). AreLinesTo rows order k level totals (lines ++ line n ∷ [])) more
          (lines_more rows order n level totals lines (line n) (omega arith) refl refl has so_far),
    ))
    (λ none. (lines, subst (λ (k : ℕ). AreLinesTo rows order k level totals lines) more (lines_skip rows order n level totals lines none so_far)))
    (line_or_not rows level (slice_index order n) tree (preorder.range n (omega arith)))
  where
    line : ℕ → LevelLine
    line k = record { item = slice_index order k; amount = amount_at totals (slice_index order k) }

pub lines_of_level : (rows : List ItemRow) (order : List ℕ) (level : ℕ) (totals : List ℤ) → IsTree rows → IsPreorder rows order →
    (lines : List LevelLine) × AreLines rows order level totals lines
lines_of_level rows order level totals tree preorder =
    let (lines, so_far) = lines_to rows order level totals tree preorder (length order) (omega arith) in
    (lines, lines_all rows order (length order) level totals lines preorder refl so_far)

-- the first item in preorder is the top
pub first_is_top : (rows : List ItemRow) (order : List ℕ) → IsPreorder rows order → 0 < length order → IsTop rows (slice_index order 0)
first_is_top rows order preorder some = (preorder.range 0 some, none (parent_of rows (slice_index order 0)) refl)
  where
    none : (p : Option ℕ) → parent_of rows (slice_index order 0) ≡ p → parent_of rows (slice_index order 0) ≡ None
    none None e = e
    none (Some p) e = let (j, less, at) = preorder.before 0 p some e in absurd (omega arith)

-- a tree has some item
pub some_item : (rows : List ItemRow) (order : List ℕ) → IsTree rows → IsPreorder rows order → 0 < length order
some_item rows order tree preorder =
    let (top, only) = tree.top in
    let (j, less, at) = preorder.every top only.is_top.0 in
    omega arith
