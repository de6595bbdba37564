-- The lines of a level: each leaf is below one of them, and together they make up what the top has.
use Rattle.std.proofs.Common.{◌≡◌, ◌≢◌, ℕ, zero, suc, ◌+◌, ◌-◌, ◌<◌, ◌≤◌, inl, inr, ⊎_elim, List, [], ◌∷◌, ◌++◌, length, Some, refl, sym, ap, ◌∙◌, subst, below_more, arith}
use Rattle.std.specs.Prelude.{ℤ, pos, min, slice_index}
use Rattle.std.proofs.lemmas.List.{length_push, get_or_push, get_or_append_left}
use Rattle.std.proofs.lemmas.Bool.{cases_lt, cases_eq}
use Rattle.pc_wbs.specs.declared.tree.ItemRow.{ItemRow}
use Rattle.pc_wbs.specs.Climb.{parent_of, AreInRange, climb, IsBelow, HasLevel, IsLeaf, IsTree, IsAtLevel}
use Rattle.pc_wbs.proofs.ClimbLaws.{climb-lower, climb-add, climb-range, climb-more, IsBelow-self, HasLevel-same}
use Rattle.pc_wbs.proofs.LevelLaws.{climb-level, IsBelow-same_level}
use Rattle.pc_wbs.proofs.OrderLaws.{parent-inside}
use Rattle.pc_wbs.specs.Preorder.{IsPreorder}
use Rattle.pc_rollup.specs.declared.levels.LevelLine.{LevelLine}
use Rattle.pc_rollup.specs.Totals.{amount_at}
use Rattle.pc_rollup.specs.Lines.{HasLine, line_at, StandsBefore, AreLines}

-- an item above another is its parent or above that, and so no leaf
above_no_leaf : (rows : List ItemRow) (k x y : ℕ) → climb rows k x ≡ Some y → x ≢ y → IsLeaf rows y → ⊥
above_no_leaf rows zero x y h ne leaf = ne (let same : Some x ≡ Some y = h in cc)
above_no_leaf rows (suc k) x y h ne leaf =
    let z = climb-lower rows k (suc k) x y (omega arith) h in
    let up : parent_of rows z.0 ≡ Some y = sym (climb-more rows k x z.0 z.1) ∙ (ap (λ (n : ℕ). climb rows n x) (let e : k + 1 ≡ suc k = omega arith in e) ∙ h) in
    leaf z.0 (parent-inside rows z.0 y up) up

-- a line that a leaf is below
pub record IsLineOf (rows : List ItemRow) (level x y : ℕ) : Type 0 where
  pub known : y < length rows
  pub line : HasLine rows level y
  pub at : IsAtLevel rows x level y
  pub only : (z : ℕ) → HasLine rows level z → IsBelow rows x z → z ≡ y

-- a leaf at the level or above it has a line of its own
own_line : (rows : List ItemRow) (level x own : ℕ) → x < length rows → IsLeaf rows x → HasLevel rows x own → own ≤ level → IsLineOf rows level x x
own_line rows level x own lt leaf has le = record {
  known = lt;
  line = ⊎_elim (λ e. inl (subst (HasLevel rows x) e has)) (λ ne. inr (leaf, (own, (has, omega arith)))) (cases_eq own level);
  at = record { below = IsBelow-self rows x; at_level = λ other is. let same = HasLevel-same rows x own other has is in let least : min level other ≡ other = omega arith in rw least is };
  only = λ z line below. ⊎_elim (λ at. at_level z at below) (λ (end, (high, (is, less))). ⊎_elim (λ e. sym e) (λ ne. absurd (above_no_leaf rows below.0 x z below.1 ne end)) (cases_eq x z)) line;
}
  where
    at_level : (z : ℕ) → HasLevel rows z level → IsBelow rows x z → z ≡ x
    at_level z at (k, h) =
        let steps = climb-level rows x z k own level h has at in
        let none : k ≡ 0 = omega arith in
        let here : Some x ≡ Some z = ap (λ (n : ℕ). climb rows n x) (sym none) ∙ h in
        cc

-- a deeper leaf has the line of the item above it at the level
high_line : (rows : List ItemRow) (level x own : ℕ) → AreInRange rows → x < length rows → 1 ≤ level → HasLevel rows x own → level < own → (y : ℕ) × IsLineOf rows level x y
high_line rows level x own ranged lt some (k, (top, (h, t, l))) deep =
    let y = climb-lower rows (own - level) k x top (omega arith) h in
    let has : HasLevel rows x own = (k, (top, (h, t, l))) in
    let at : HasLevel rows y.0 level = (level - 1, (top, (sym (climb-add rows (own - level) (level - 1) k x y.0 (omega arith) y.1) ∙ h, t, omega arith))) in (
      y.0,
      record {
        known = climb-range rows (own - level) x y.0 ranged lt y.1;
        line = inl at;
        at = record { below = (own - level, y.1); at_level = λ other is. let same = HasLevel-same rows x own other has is in let least : min level other ≡ level = omega arith in rw least at };
        only = λ z line below. ⊎_elim (λ here. IsBelow-same_level rows x z y.0 own level has below (own - level, y.1) here at)
            (λ (end, (high, (is, less))). ⊎_elim (λ e. absurd (shallow e is less))
            (λ ne. absurd (above_no_leaf rows below.0 x z below.1 ne end)) (cases_eq x z)) line;
      },
    )
  where
    shallow : {z high : ℕ} → x ≡ z → HasLevel rows z high → high < level → ⊥
    shallow {z} {high} e is less =
        let same = HasLevel-same rows x own high (k, (top, (h, t, l))) (subst (λ (n : ℕ). HasLevel rows n high) (sym e) is) in
        omega arith

-- each leaf is below one line
pub line_of_leaf : (rows : List ItemRow) (level x : ℕ) → AreInRange rows → IsTree rows → 1 ≤ level → x < length rows → IsLeaf rows x → (y : ℕ) × IsLineOf rows level x y
line_of_leaf rows level x ranged tree some lt leaf =
    let (own, (has, within)) = tree.levels x lt in
    ⊎_elim (λ deep. high_line rows level x own ranged lt some has deep) (λ le. (x, own_line rows level x own lt leaf has le)) (cases_lt level own)

-- the lines so far, of the first n items in order
pub record AreLinesTo (rows : List ItemRow) (order : List ℕ) (n level : ℕ) (totals : List ℤ) (lines : List LevelLine) : Type 0 where
  pub place : (k : ℕ) → k < length lines → (j : ℕ) × ((j < n) × (slice_index order j ≡ (line_at lines k).item))
  pub each : (k : ℕ) → k < length lines → HasLine rows level (line_at lines k).item
  pub amount : (k : ℕ) → k < length lines → (line_at lines k).amount ≡ amount_at totals (line_at lines k).item
  pub every : (j : ℕ) → j < n → HasLine rows level (slice_index order j) → (k : ℕ) × ((k < length lines) × ((line_at lines k).item ≡ slice_index order j))
  pub in_order : (j k : ℕ) → j < k → k < length lines → StandsBefore order (line_at lines j).item (line_at lines k).item

pub lines_none : (rows : List ItemRow) (order : List ℕ) (level : ℕ) (totals : List ℤ) → AreLinesTo rows order 0 level totals []
lines_none rows order level totals = record {
  place = λ k lt. absurd (omega arith);
  each = λ k lt. absurd (omega arith);
  amount = λ k lt. absurd (omega arith);
  every = λ j lt line. absurd (omega arith);
  in_order = λ j k lt less. absurd (omega arith);
}

-- an item without a line
pub lines_skip : (rows : List ItemRow) (order : List ℕ) (n level : ℕ) (totals : List ℤ) (lines : List LevelLine) →
    (HasLine rows level (slice_index order n) → ⊥) → AreLinesTo rows order n level totals lines →
    AreLinesTo rows order (n + 1) level totals lines
lines_skip rows order n level totals lines none so_far = record {
  place = λ k lt. let (j, (less, e)) = so_far.place k lt in (j, (omega arith, e));
  each = so_far.each;
  amount = so_far.amount;
  every = below_more _ _ so_far.every (λ line. absurd (none line));
  in_order = so_far.in_order;
}

-- an item with one
pub lines_more : (rows : List ItemRow) (order : List ℕ) (n level : ℕ) (totals : List ℤ) (lines : List LevelLine) (line : LevelLine) →
    n < length order → line.item ≡ slice_index order n → line.amount ≡ amount_at totals (slice_index order n) →
    HasLine rows level (slice_index order n) → AreLinesTo rows order n level totals lines →
    AreLinesTo rows order (n + 1) level totals (lines ++ line ∷ [])
lines_more rows order n level totals lines line within item amount has so_far = record {
  place = all (λ l. (j : ℕ) × ((j < n + 1) × (slice_index order j ≡ l.item))) (λ k lt. let (j, (less, e)) = so_far.place k lt in (j, (omega arith, e))) (n, (omega arith, sym item));
  each = all (λ l. HasLine rows level l.item) so_far.each (subst (HasLine rows level) (sym item) has);
  amount = all (λ l. l.amount ≡ amount_at totals l.item) so_far.amount (amount ∙ ap (amount_at totals) (sym item));
  every = below_more _ _ (λ j lt its. let (k, (less, e)) = so_far.every j lt its in (k, (omega (arith, long), ap (λ (l : LevelLine). l.item) (earlier k less) ∙ e)))
      (λ its. (length lines, (omega (arith, long), ap (λ (l : LevelLine). l.item) here ∙ item)));
  in_order = λ j k lt less. ⊎_elim (λ last. before j k lt last) (λ apart. let low : k < length lines = omega (arith, long) in
      let lower : j < length lines = omega arith in rw (earlier j lower, earlier k low) (so_far.in_order j k lt low))
      (cases_eq k (length lines));
}
  where
    long : length (lines ++ line ∷ []) ≡ length lines + 1
    long = length_push lines line

    here : line_at (lines ++ line ∷ []) (length lines) ≡ line
    here = get_or_push lines line (record { item = 0; amount = pos 0 }) (length lines) refl

    earlier : (k : ℕ) → k < length lines → line_at (lines ++ line ∷ []) k ≡ line_at lines k
    earlier k lt = get_or_append_left lines (line ∷ []) (record { item = 0; amount = pos 0 }) k lt

    all : (P : LevelLine → Type 0) → ((k : ℕ) → k < length lines → P (line_at lines k)) → P line → (k : ℕ) → k < length (lines ++ line ∷ []) → P (line_at (lines ++ line ∷ []) k)
    all P so_far last k lt =
        ⊎_elim (λ e. let at : line_at (lines ++ line ∷ []) k ≡ line = ap (line_at (lines ++ line ∷ [])) e ∙ here in subst P (sym at) last)
        (λ ne. let low : k < length lines = omega (arith, long) in subst P (sym (earlier k low)) (so_far k low))
        (cases_eq k (length lines))

    before : (j k : ℕ) → j < k → k ≡ length lines → StandsBefore order (line_at (lines ++ line ∷ []) j).item (line_at (lines ++ line ∷ []) k).item
    before j k lt last =
        let low : j < length lines = omega arith in
        let (p, (less, e)) = so_far.place j low in
        (p, (n, (less, within, e ∙ ap (λ (l : LevelLine). l.item) (sym (earlier j low)), sym item ∙ ap (λ (l : LevelLine). l.item) (sym here ∙ ap (line_at (lines ++ line ∷ [])) (sym last)))))

-- all of them
pub lines_all : (rows : List ItemRow) (order : List ℕ) (n level : ℕ) (totals : List ℤ) (lines : List LevelLine) → IsPreorder rows order →
    n ≡ length order → AreLinesTo rows order n level totals lines → AreLines rows order level totals lines
lines_all rows order n level totals lines preorder all so_far = record {
  known = λ k lt. let (j, (less, e)) = so_far.place k lt in let inside = preorder.range j (omega arith) in omega (arith, e);
  each = so_far.each;
  amount = so_far.amount;
  every = λ x lt line. let (j, less, e) = preorder.every x lt in let (k, (low, is)) = so_far.every j (omega arith) (subst (HasLine rows level) (sym e) line) in (k, (low, is ∙ e));
  in_order = so_far.in_order;
}
