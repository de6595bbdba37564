-- The least of the amounts that are placed on items, and how it is computed from the end of the preorder on.
use Rattle.std.proofs.Common.{◌≡◌, ◌≢◌, ℕ, ◌+◌, ◌<◌, ◌≤◌, ◌⊎◌, inl, inr, ⊎_elim, Bool, true, false, cond, List, length, get_or, set}
use Rattle.std.proofs.Common.{Option, Some, None, refl, sym, ap, ◌∙◌, subst, get_or-set_same, get_or-set_other, length-set, arith}
use Rattle.std.specs.Prelude.{ℤ, int_lt, slice_index}
use Rattle.std.proofs.lemmas.Bool.{cases_eq}
use Rattle.std.proofs.lemmas.Int.{ints}
use Rattle.std.proofs.lemmas.List.{get_or_default}
use Rattle.pc_wbs.specs.declared.tree.ItemRow.{ItemRow}
use Rattle.pc_wbs.specs.Climb.{parent_of, AreInRange, IsBelow}
use Rattle.pc_wbs.specs.Preorder.{IsPreorder}
use Rattle.pc_wbs.proofs.OrderLaws.{parent-inside}
use Rattle.pc_rollup.specs.declared.totals.Placed.{Placed}
use Rattle.pc_rollup.specs.inside.Totals.{placed_item, placed_amount}
use Rattle.pc_rollup.specs.Least.{IsLeastOver, least_at}
use Rattle.pc_rollup.specs.inside.Least.{AreLeastOf, AreLeastOn, lesser_amount}
use Rattle.pc_rollup.proofs.RollLaws.{IsGathered, gathered_to-parent, gathered_from-parent, gathered_to-other, gathered_from-other, gathered-below, whole, all_gathered}

-- properties that agree below the count have the same least
IsLeastOver-same : (P Q : ℕ → Type 0) (n : ℕ) (f : ℕ → ℤ) (o : Option ℤ) → ((x : ℕ) → x < n → P x → Q x) → ((x : ℕ) → x < n → Q x → P x) → IsLeastOver P n f o → IsLeastOver Q n f o
IsLeastOver-same P Q n f None to from none = λ x lt q. none x lt (from x lt q)
IsLeastOver-same P Q n f (Some least) to from ((x, (lt, p, e)), bound) =
    ((x, (lt, to x lt p, e)), λ y less q. bound y less (from y less q))

-- the least over one property or another
IsLeastOver-both : (P Q : ℕ → Type 0) (n : ℕ) (f : ℕ → ℤ) (a b : Option ℤ) → IsLeastOver P n f a → IsLeastOver Q n f b → IsLeastOver (λ x. P x ⊎ Q x) n f (lesser_amount a b)
IsLeastOver-both P Q n f None None none never = λ x lt either. ⊎_elim (none x lt) (never x lt) either
IsLeastOver-both P Q n f None (Some b) none ((x, (lt, q, e)), bound) =
    ((x, (lt, inr q, e)), λ y less either. ⊎_elim (λ p. absurd (none y less p)) (bound y less) either)
IsLeastOver-both P Q n f (Some a) None ((x, (lt, p, e)), bound) none =
    ((x, (lt, inl p, e)), λ y less either. ⊎_elim (bound y less) (λ q. absurd (none y less q)) either)
IsLeastOver-both P Q n f (Some a) (Some b) ((x, (lt, p, e)), bound) ((z, (below, q, g)), limit) =
    by_test (int_lt b a) refl
  where
    by_test : (t : Bool) → int_lt b a ≡ t → IsLeastOver (λ x. P x ⊎ Q x) n f (cond t (Some b) (Some a))
    by_test true is = (
      (z, (below, inr q, g)),
      λ y less either. ⊎_elim (λ r. let le = bound y less r in grind (arith, ints)) (limit y less) either,
    )
    by_test false is = (
      (x, (lt, inl p, e)),
      λ y less either. ⊎_elim (bound y less) (λ r. let le = limit y less r in grind (arith, ints)) either,
    )

-- one number more
IsLeastOver-has : (P : ℕ → Type 0) (n : ℕ) (f : ℕ → ℤ) (o : Option ℤ) → P n → IsLeastOver P n f o → IsLeastOver P (n + 1) f (lesser_amount o (Some (f n)))
IsLeastOver-has P n f o p so_far =
    IsLeastOver-same (λ x. ((x < n) × P x) ⊎ (x ≡ n)) P (n + 1) f (lesser_amount o (Some (f n)))
    (λ x lt either. ⊎_elim (λ (less, is). is) (λ e. subst P (sym e) p) either)
    (λ x lt is. ⊎_elim (λ e. inr e) (λ ne. inl (omega arith, is)) (cases_eq x n))
    (IsLeastOver-both (λ x. (x < n) × P x) (λ x. x ≡ n) (n + 1) f o (Some (f n))
    (earlier o so_far)
    ((n, (omega arith, refl, refl)), λ y less e. let same = ap f e in omega (arith, ints)))
  where
    earlier : (o : Option ℤ) → IsLeastOver P n f o → IsLeastOver (λ x. (x < n) × P x) (n + 1) f o
    earlier None none = λ x lt (less, is). none x less is
    earlier (Some least) ((x, (lt, is, e)), bound) =
        ((x, (omega arith, (lt, is), e)), λ y less (below, q). bound y below q)

IsLeastOver-lacks : (P : ℕ → Type 0) (n : ℕ) (f : ℕ → ℤ) (o : Option ℤ) → (P n → ⊥) → IsLeastOver P n f o → IsLeastOver P (n + 1) f o
IsLeastOver-lacks P n f None not none = λ x lt is. ⊎_elim (λ e. not (subst P e is)) (λ ne. none x (omega arith) is) (cases_eq x n)
IsLeastOver-lacks P n f (Some least) not ((x, (lt, is, e)), bound) = (
  (x, (omega arith, is, e)),
  λ y less q. ⊎_elim (λ same. absurd (not (subst P same q))) (λ ne. bound y (omega arith) q) (cases_eq y n),
)

-- one amount more, on the item that it is placed on
pub AreLeastOn-more : (items : ℕ) (placed : List Placed) (i x : ℕ) (least : List (Option ℤ)) (a : Option ℤ) (b : ℤ) →
    AreLeastOn items placed i least → i < length placed → x ≡ placed_item placed i → x < items → a ≡ get_or least x a →
    b ≡ placed_amount placed i → AreLeastOn items placed (i + 1) (set least x (lesser_amount a (Some b)))
AreLeastOn-more items placed i x least a b so_far within place known read is = record {
  one_each = length-set least x (lesser_amount a (Some b)) ∙ so_far.one_each;
  each = λ y lt. ⊎_elim (λ e. here y e) (λ ne. there y lt ne) (cases_eq x y);
}
  where
    here : (y : ℕ) → x ≡ y → IsLeastOver (λ k. placed_item placed k ≡ y) (i + 1) (placed_amount placed) (least_at (set least x (lesser_amount a (Some b))) y)
    here y e =
        let known_at : x < length least = omega (arith, so_far.one_each) in
        let at : a ≡ least_at least x = read ∙ get_or_default least x a None known_at in
        rw (← e, get_or-set_same least x (lesser_amount a (Some b)) None known_at, at, is)
        (IsLeastOver-has (λ k. placed_item placed k ≡ x) i (placed_amount placed) (least_at least x) (sym place) (so_far.each x known))

    there : (y : ℕ) → y < items → x ≢ y → IsLeastOver (λ k. placed_item placed k ≡ y) (i + 1) (placed_amount placed) (least_at (set least x (lesser_amount a (Some b))) y)
    there y lt ne =
        let other : y ≢ x = λ e. ne (sym e) in
        rw (get_or-set_other least x y (lesser_amount a (Some b)) None other)
        (IsLeastOver-lacks (λ k. placed_item placed k ≡ y) i (placed_amount placed) (least_at least y) (λ e. ne (place ∙ e)) (so_far.each y lt))

-- the last j of the order passed their least on
pub record AreLeastGathered (rows : List ItemRow) (order : List ℕ) (j : ℕ) (placed : List Placed) (least : List (Option ℤ)) : Type 0 where
  pub one_each : length least ≡ length rows
  pub each : (y : ℕ) → y < length rows → IsLeastOver (λ k. IsGathered rows order j y (placed_item placed k)) (length placed) (placed_amount placed) (least_at least y)

-- nothing has been passed on
pub least_none : (rows : List ItemRow) (order : List ℕ) (placed : List Placed) (least : List (Option ℤ)) →
    AreLeastOn (length rows) placed (length placed) least → AreLeastGathered rows order 0 placed least
least_none rows order placed least on = record {
  one_each = on.one_each;
  each = λ y lt. IsLeastOver-same (λ k. placed_item placed k ≡ y) (λ k. IsGathered rows order 0 y (placed_item placed k)) (length placed)
      (placed_amount placed) (least_at least y) (λ k h e. inl e) (λ k h g. itself y (placed_item placed k) g) (on.each y lt);
}
  where
    itself : (y x : ℕ) → IsGathered rows order 0 y x → x ≡ y
    itself y x (inl e) = e
    itself y x (inr (c, (p, b, (k, (le, lt, e))))) = absurd (omega arith)

-- what a turn needs: an item at some place, its parent, and the two amounts as they are read
pub record IsLeastTurn (rows : List ItemRow) (order : List ℕ) (j p : ℕ) (placed : List Placed) (least : List (Option ℤ)) (v : ℕ) (a b : Option ℤ) : Type 0 where
  pub ranged : AreInRange rows
  pub preorder : IsPreorder rows order
  pub so_far : AreLeastGathered rows order j placed least
  pub place : (i : ℕ) × (i < length order) × (i + j + 1 ≡ length order) × (slice_index order i ≡ v)
  pub up : parent_of rows v ≡ Some p
  pub parent_read : a ≡ get_or least p a
  pub item_read : b ≡ get_or least v b

-- nothing changes at the other items
least_other : (rows : List ItemRow) (order : List ℕ) (i j y : ℕ) (placed : List Placed) (least : List (Option ℤ)) →
    AreLeastGathered rows order j placed least → i + j + 1 ≡ length order → y < length rows →
    parent_of rows (slice_index order i) ≢ Some y →
    IsLeastOver (λ k. IsGathered rows order (j + 1) y (placed_item placed k)) (length placed) (placed_amount placed) (least_at least y)
least_other rows order i j y placed least so_far place lt not_parent =
    IsLeastOver-same (λ k. IsGathered rows order j y (placed_item placed k)) (λ k. IsGathered rows order (j + 1) y (placed_item placed k)) (length placed) (placed_amount placed) (least_at least y)
    (λ k h g. gathered_to-other rows order j y (placed_item placed k) g)
    (λ k h g. gathered_from-other rows order i j y (placed_item placed k) place not_parent g)
    (so_far.each y lt)

-- an item whose turn it is hands its least to its parent
pub least_taken : (rows : List ItemRow) (order : List ℕ) (j p : ℕ) (placed : List Placed) (least : List (Option ℤ)) (v : ℕ)
    (a b : Option ℤ) → IsLeastTurn rows order j p placed least v a b → AreLeastGathered rows order (j + 1) placed (set least p (lesser_amount a b))
least_taken rows order j p placed least v a b t = record {
  one_each = length-set least p (lesser_amount a b) ∙ t.so_far.one_each;
  each = λ y lt. ⊎_elim (λ e. here y e) (λ ne. there y lt ne) (cases_eq p y);
}
  where
    in_v : v < length rows
    in_v = parent-inside rows v p t.up

    in_p : p < length rows
    in_p = t.ranged v p in_v t.up

    here : (y : ℕ) → p ≡ y → IsLeastOver (λ k. IsGathered rows order (j + 1) y (placed_item placed k)) (length placed) (placed_amount placed) (least_at (set least p (lesser_amount a b)) y)
    here y e =
        let (i, lt, place, at) = t.place in
        let known : p < length least = omega (arith, t.so_far.one_each, in_p) in
        let read_a : a ≡ least_at least p = t.parent_read ∙ get_or_default least p a None known in
        let read_b : b ≡ least_at least (slice_index order i) = t.item_read ∙ get_or_default least v b None (omega (arith, t.so_far.one_each, in_v)) ∙ ap (least_at least) (sym at) in
        let up : parent_of rows (slice_index order i) ≡ Some p = ap (parent_of rows) at ∙ t.up in
        rw (← e, get_or-set_same least p (lesser_amount a b) None known, read_a, read_b)
        (IsLeastOver-same (λ k. IsGathered rows order j p (placed_item placed k) ⊎ IsBelow rows (placed_item placed k) (slice_index order i))
        (λ k. IsGathered rows order (j + 1) p (placed_item placed k)) (length placed) (placed_amount placed)
        (lesser_amount (least_at least p) (least_at least (slice_index order i)))
        (λ k h either. gathered_to-parent rows order i j p (placed_item placed k) lt place up either)
        (λ k h g. gathered_from-parent rows order i j p (placed_item placed k) place g)
        (IsLeastOver-both (λ k. IsGathered rows order j p (placed_item placed k)) (λ k. IsBelow rows (placed_item placed k) (slice_index order i))
        (length placed) (placed_amount placed) (least_at least p) (least_at least (slice_index order i))
        (t.so_far.each p in_p)
        (IsLeastOver-same (λ k. IsGathered rows order j (slice_index order i) (placed_item placed k))
        (λ k. IsBelow rows (placed_item placed k) (slice_index order i)) (length placed) (placed_amount placed)
        (least_at least (slice_index order i))
        (λ k h g. gathered-below rows order j (slice_index order i) (placed_item placed k) g)
        (λ k h below. whole rows order i j (placed_item placed k) t.preorder lt place below)
        (t.so_far.each (slice_index order i) (t.preorder.range i lt)))))

    there : (y : ℕ) → y < length rows → p ≢ y → IsLeastOver (λ k. IsGathered rows order (j + 1) y (placed_item placed k)) (length placed) (placed_amount placed)
        (least_at (set least p (lesser_amount a b)) y)
    there y less ne =
        let (i, lt, place, at) = t.place in
        let other : y ≢ p = λ e. ne (sym e) in
        let up : parent_of rows (slice_index order i) ≡ Some p = ap (parent_of rows) at ∙ t.up in
        rw (get_or-set_other least p y (lesser_amount a b) None other) (least_other rows order i j y placed least t.so_far place less (λ e. ne (let same : Some p ≡ Some y = sym up ∙ e in cc)))

-- and the top keeps its own
pub least_top : (rows : List ItemRow) (order : List ℕ) (j : ℕ) (placed : List Placed) (least : List (Option ℤ)) (v : ℕ) →
    AreLeastGathered rows order j placed least → (i : ℕ) × (i < length order) × (i + j + 1 ≡ length order) × (slice_index order i ≡ v) →
    parent_of rows v ≡ None → AreLeastGathered rows order (j + 1) placed least
least_top rows order j placed least v so_far (i, lt, place, at) top = record {
  one_each = so_far.one_each;
  each = λ y less. least_other rows order i j y placed least so_far place less (λ e. let clash : None ≡ Some y = sym (ap (parent_of rows) at ∙ top) ∙ e in cc);
}

-- all passed theirs on
pub least_all : (rows : List ItemRow) (order : List ℕ) (j : ℕ) (placed : List Placed) (least : List (Option ℤ)) → IsPreorder rows order →
    length order ≤ j → AreLeastGathered rows order j placed least → AreLeastOf rows placed least
least_all rows order j placed least preorder all so_far = record {
  one_each = so_far.one_each;
  each = λ y lt. IsLeastOver-same (λ k. IsGathered rows order j y (placed_item placed k)) (λ k. IsBelow rows (placed_item placed k) y) (length placed) (placed_amount placed) (least_at least y)
      (λ k h g. gathered-below rows order j y (placed_item placed k) g)
      (λ k h b. all_gathered rows order j y (placed_item placed k) preorder all b)
      (so_far.each y lt);
}
