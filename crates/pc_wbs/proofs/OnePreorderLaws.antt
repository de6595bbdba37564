-- A tree has one preorder, and an item one level.
use Rattle.std.proofs.Common.{◌≡◌, ◌≢◌, ℕ, zero, suc, ◌+◌, ◌<◌, ◌≤◌, ◌⊎◌, inl, inr, ⊎_elim, List, length, slice_index, Option, Some, None, refl, sym, ap, ◌∙◌, subst, arith}
use Rattle.std.proofs.lemmas.Bool.{cases_eq, cases_lt}
use Rattle.std.proofs.lemmas.List.{ext_get_or}
use Rattle.std.proofs.lemmas.Option.{none-some}
use Rattle.pc_model.specs.Greatest.{StandsBelow}
use Rattle.pc_wbs.specs.declared.tree.ItemRow.{ItemRow}
use Rattle.pc_wbs.specs.Climb.{parent_of, IsBelow, HasLevel, IsOnlyTop, IsTree}
use Rattle.pc_wbs.specs.Preorder.{IsPreorder}
use Rattle.pc_wbs.proofs.ClimbLaws.{IsBelow-cases, IsBelow-parent, IsBelow-self}
use Rattle.pc_wbs.proofs.LevelLaws.{IsBelow-same_level, level-IsBelow}

-- of two rows that are below one another there is but one
below_both : (rows : List ItemRow) (x y own level : ℕ) → HasLevel rows x own → HasLevel rows y level → IsBelow rows x y → IsBelow rows y x → x ≡ y
below_both rows x y own level has at below above =
    let less = level-IsBelow rows x y own level below has at in
    let more = level-IsBelow rows y x level own above at has in
    let same : own ≡ level = omega (arith, less, more) in
    IsBelow-same_level rows x x y own level has (IsBelow-self rows x) below (subst (λ (l : ℕ). HasLevel rows x l) same has) at

-- what is below a row and not that row has its parent below it
parent_below : (rows : List ItemRow) (x p y : ℕ) → parent_of rows x ≡ Some p → IsBelow rows x y → x ≢ y → IsBelow rows p y
parent_below rows x p y parent below other =
    ⊎_elim (λ same. absurd (other same))
    (λ (q, (also, above)). let same : q ≡ p = cc in subst (λ (r : ℕ). IsBelow rows r y) same above)
    (IsBelow-cases rows x y below)

module _ (rows : List ItemRow) (tree : IsTree rows) where
  -- if two orders agree on the first k rows, a row after these in one order is after them in the other
  behind : (xs ys : List ℕ) (k y : ℕ) → IsPreorder rows xs → IsPreorder rows ys → ((j : ℕ) → j < k → slice_index xs j ≡ slice_index ys j) → k < length ys → slice_index ys k ≡ y → slice_index xs k ≢ y
      → (m : ℕ) × ((k < m) × (m < length xs) × (slice_index xs m ≡ y))
  behind xs ys k y a b agree inside is other =
      let (m, lower, at) = a.every y (subst (λ (n : ℕ). n < length rows) is (b.range k inside)) in
      ⊎_elim (λ before. absurd (b.once m k before inside (sym (agree m before) ∙ (at ∙ sym is))))
      (λ not_before. ⊎_elim (λ here. absurd (other (ap (slice_index xs) (sym here) ∙ at))) (λ apart. (m, (omega (arith, not_before, apart), lower, at))) (cases_eq m k))
      (cases_lt m k)

  -- for a row with a parent, the row in its place in the other order is below that parent too
  both_below : (xs ys : List ℕ) (k p : ℕ) → IsPreorder rows xs → IsPreorder rows ys →
      ((j : ℕ) → j < k → slice_index xs j ≡ slice_index ys j) → k < length xs → k < length ys → slice_index xs k ≢ slice_index ys k
      → parent_of rows (slice_index xs k) ≡ Some p → IsBelow rows (slice_index ys k) p × (slice_index ys k ≢ p)
  both_below xs ys k p a b agree in_xs in_ys other parent =
      let (j, before, is) = a.before k p in_xs parent in
      let there : slice_index ys j ≡ p = sym (agree j before) ∙ is in
      let (m, (later, lower, at)) = behind ys xs k (slice_index xs k) b a (λ i lt. sym (agree i lt)) in_xs refl (λ same. other (sym same)) in
      let child : IsBelow rows (slice_index xs k) p = IsBelow-parent rows (slice_index xs k) p p parent (IsBelow-self rows p) in
      let under : IsBelow rows (slice_index ys m) (slice_index ys j) =
      subst (λ (n : ℕ). IsBelow rows n (slice_index ys j)) (sym at)
      (subst (λ (n : ℕ). IsBelow rows (slice_index xs k) n) (sym there) child) in (
        subst (λ (n : ℕ). IsBelow rows (slice_index ys k) n) there (b.together j k m (omega (arith, before)) (omega (arith, later)) lower under),
        λ same. b.once j k before in_ys (there ∙ sym same),
      )

  -- a row without a parent is first
  first_alone : (xs : List ℕ) (k : ℕ) → IsPreorder rows xs → k < length xs → parent_of rows (slice_index xs k) ≡ None → k ≡ 0
  first_alone xs k a inside none =
      ⊎_elim (λ zero_is. zero_is)
      (λ later. absurd (first_has (parent_of rows (slice_index xs 0)) refl (omega (arith, later))))
      (cases_eq k 0)
    where
      first_has : (o : Option ℕ) → parent_of rows (slice_index xs 0) ≡ o → 0 < k → ⊥
      first_has (Some p) is some = let (j, lower, at) = a.before 0 p (omega (arith, some, inside)) is in omega (arith, lower)
      first_has None is some =
          let top = tree.top.1 in
          a.once 0 k some inside (top.only (slice_index xs 0) (a.range 0 (omega (arith, some, inside))) is ∙ sym (top.only (slice_index xs k) (a.range k inside) none))

  module _ (xs ys : List ℕ) (a : IsPreorder rows xs) (b : IsPreorder rows ys) where
    next_same : (k : ℕ) → k < length rows → ((j : ℕ) → j < k → slice_index xs j ≡ slice_index ys j) → slice_index xs k ≡ slice_index ys k
    next_same k inside agree =
        ⊎_elim (λ same. same) (λ other. absurd (apart other (parent_of rows x) refl (parent_of rows y) refl)) (cases_eq x y)
      where
        x : ℕ
        x = slice_index xs k

        y : ℕ
        y = slice_index ys k

        in_xs : k < length xs
        in_xs = omega (arith, inside, a.whole)

        in_ys : k < length ys
        in_ys = omega (arith, inside, b.whole)

        apart : x ≢ y → (o : Option ℕ) → parent_of rows x ≡ o → (q : Option ℕ) → parent_of rows y ≡ q → ⊥
        apart other None no_parent q is =
            let zero_is = first_alone xs k a in_xs no_parent in
            first_too q is zero_is
          where
            first_too : (q : Option ℕ) → parent_of rows y ≡ q → k ≡ 0 → ⊥
            first_too None also zero_is = other (tree.top.1.only x (a.range k in_xs) no_parent ∙ sym (tree.top.1.only y (b.range k in_ys) also))
            first_too (Some p) parent zero_is = let (j, lower, at) = b.before k p in_ys parent in omega (arith, lower, zero_is)
        apart other (Some p) parent None no_parent =
            let zero_is = first_alone ys k b in_ys no_parent in
            let (j, lower, at) = a.before k p in_xs parent in
            omega (arith, lower, zero_is)
        apart other (Some p) parent (Some q) also =
            let under_p = both_below xs ys k p a b agree in_xs in_ys other parent in
            let under_q = both_below ys xs k q b a (λ j lt. sym (agree j lt)) in_ys in_xs (λ same. other (sym same)) also in
            let q_below_p = parent_below rows y q p also under_p.0 under_p.1 in
            let p_below_q = parent_below rows x p q parent under_q.0 under_q.1 in
            ⊎_elim (λ same. siblings same) (λ differ. differ_not differ q_below_p p_below_q) (cases_eq p q)
          where
            siblings : p ≡ q → ⊥
            siblings same =
                let (m, (later, lower, at)) = behind xs ys k y a b agree in_ys refl other in
                let (n, (behind_it, short, is)) = behind ys xs k x b a (λ j lt. sym (agree j lt)) in_xs refl (λ e. other (sym e)) in
                let first = a.in_row_order k m p later lower parent (ap (parent_of rows) at ∙ (also ∙ ap Some (sym same))) in
                let second = b.in_row_order k n q behind_it short also (ap (parent_of rows) is ∙ (parent ∙ ap Some same)) in
                omega (arith, first, second, at, is)

            differ_not : p ≢ q → IsBelow rows q p → IsBelow rows p q → ⊥
            differ_not differ up down =
                let (i, before, at) = a.before k p in_xs parent in
                let (j, earlier, is) = b.before k q in_ys also in
                let of_p = tree.levels p (subst (λ (n : ℕ). n < length rows) at (a.range i (omega (arith, before, in_xs)))) in
                let of_q = tree.levels q (subst (λ (n : ℕ). n < length rows) is (b.range j (omega (arith, earlier, in_ys)))) in
                differ (below_both rows p q of_p.0 of_q.0 of_p.1.0 of_q.1.0 down up)

    same_to : (k : ℕ) → k ≤ length rows → (j : ℕ) → j < k → slice_index xs j ≡ slice_index ys j
    same_to zero le j lt = absurd (omega (arith, lt))
    same_to (suc k) le j lt =
        ⊎_elim (λ same. subst (λ (n : ℕ). slice_index xs n ≡ slice_index ys n) (sym same) (next_same k (omega (arith, le)) (same_to k (omega (arith, le)))))
        (λ apart. same_to k (omega (arith, le)) j (omega (arith, lt, apart))) (cases_eq j k)

    -- the two are one
    pub one_preorder : xs ≡ ys
    one_preorder =
        ext_get_or 0 xs ys (a.whole ∙ sym b.whole) (λ k lt. same_to (length rows) (omega arith) k (omega (arith, lt, a.whole)))
