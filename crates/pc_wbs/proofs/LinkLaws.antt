-- The links of one row more, as they are made from the last row to the first.
use Rattle.std.proofs.Common.{◌≡◌, ◌≢◌, ◌∙◌, ℕ, ◌+◌, ◌<◌, List, length, Option, Some, None, replicate, set, sym, ap, subst, ⊎_elim, arith}
use Rattle.std.proofs.lemmas.Bool.{cases_eq}
use Rattle.std.proofs.lemmas.List.{get_or-replicate, get_or-set_same, get_or-set_other, length-replicate, length-set}
use Rattle.pc_wbs.specs.declared.tree.ItemRow.{ItemRow}
use Rattle.pc_wbs.specs.Climb.{parent_of}
use Rattle.pc_wbs.specs.inside.Links.{IsFirstChild, linked_row_at, AreFirstChildren, AreNextSiblings}

-- no row is anybody's first child among none
pub firsts_none : (rows : List ItemRow) (n : ℕ) (firsts : List (Option ℕ)) → firsts ≡ replicate (length rows) None → n ≡ length rows → AreFirstChildren rows n firsts
firsts_none rows n firsts made all = record {
  one_each = ap length made ∙ length-replicate {A = Option ℕ} (length rows) None;
  first = λ p below. subst (IsFirstChild rows p n) (sym (ap (λ links. linked_row_at links p) made ∙ get_or-replicate (length rows) p None None below)) (λ x from inside. absurd (omega arith));
}

-- nor has any of them a sibling
pub nexts_none : (rows : List ItemRow) (n : ℕ) (nexts : List (Option ℕ)) → nexts ≡ replicate (length rows) None → n ≡ length rows → AreNextSiblings rows n nexts
nexts_none rows n nexts made all = record {
  one_each = ap length made ∙ length-replicate {A = Option ℕ} (length rows) None;
  next = λ x p from inside. absurd (omega arith);
  alone = λ x inside top. ap (λ links. linked_row_at links x) made ∙ get_or-replicate (length rows) x None None inside;
  later = λ x before inside. ap (λ links. linked_row_at links x) made ∙ get_or-replicate (length rows) x None None inside;
}

-- the links from one place on are those from the same place on
pub firsts_from : (rows : List ItemRow) (m n : ℕ) (firsts : List (Option ℕ)) → AreFirstChildren rows m firsts → m ≡ n → AreFirstChildren rows n firsts
firsts_from rows m n firsts are same = subst (λ (k : ℕ). AreFirstChildren rows k firsts) same are

pub nexts_from : (rows : List ItemRow) (m n : ℕ) (nexts : List (Option ℕ)) → AreNextSiblings rows m nexts → m ≡ n → AreNextSiblings rows n nexts
nexts_from rows m n nexts are same = subst (λ (k : ℕ). AreNextSiblings rows k nexts) same are

-- the first child among the rows from x + 1 on is the first among those from x on where x is no child
first_still : (rows : List ItemRow) (p x : ℕ) (o : Option ℕ) → parent_of rows x ≢ Some p → IsFirstChild rows p (x + 1) o → IsFirstChild rows p x o
first_still rows p x None other none = λ y from inside. ⊎_elim
    (λ same. subst (λ (z : ℕ). parent_of rows z ≢ Some p) (sym same) other)
    (λ apart. none y (omega arith) inside)
    (cases_eq y x)
first_still rows p x (Some c) other (from, inside, child, least) = (
  omega arith,
  inside,
  child,
  λ y start before. ⊎_elim
      (λ same. subst (λ (z : ℕ). parent_of rows z ≢ Some p) (sym same) other)
      (λ apart. least y (omega arith) before)
      (cases_eq y x),
)

-- any other is the first child of its parent so far
pub firsts_more : (rows : List ItemRow) (x p : ℕ) (firsts : List (Option ℕ)) → parent_of rows x ≡ Some p → x < length rows →
    AreFirstChildren rows (x + 1) firsts → AreFirstChildren rows x (set firsts p (Some x))
firsts_more rows x p firsts child inside are = record {
  one_each = length-set firsts p (Some x) ∙ are.one_each;
  first = λ q below. ⊎_elim
      (λ same. subst (IsFirstChild rows q x) (sym (ap (linked_row_at (set firsts p (Some x))) same ∙ get_or-set_same firsts p (Some x) None (omega (arith, are.one_each))))
      (omega arith, inside, child ∙ ap Some (sym same), λ y from before. absurd (omega arith)))
      (λ apart. subst (IsFirstChild rows q x) (sym (get_or-set_other firsts p q (Some x) None apart))
      (first_still rows q x (linked_row_at firsts q) (λ other. apart (cc)) (are.first q below)))
      (cases_eq q p);
}

-- the next sibling of any other is the first child so far of its parent
pub nexts_more : (rows : List ItemRow) (x p : ℕ) (firsts nexts : List (Option ℕ)) → parent_of rows x ≡ Some p → x < length rows →
    p < length rows → AreFirstChildren rows (x + 1) firsts → AreNextSiblings rows (x + 1) nexts →
    AreNextSiblings rows x (set nexts x (linked_row_at firsts p))
nexts_more rows x p firsts nexts child inside known firsts_are are = record {
  one_each = length-set nexts x (linked_row_at firsts p) ∙ are.one_each;
  next = λ y q from within is_child. ⊎_elim
      (λ same.
      let here : parent_of rows x ≡ Some q = subst (λ (z : ℕ). parent_of rows z ≡ Some q) same is_child in
      let parent : p ≡ q = cc in
      subst (λ (z : ℕ). IsFirstChild rows q (z + 1) (linked_row_at (set nexts x (linked_row_at firsts p)) z)) (sym same)
      (subst (IsFirstChild rows q (x + 1)) (sym (here_is)) (subst (λ (r : ℕ). IsFirstChild rows r (x + 1) (linked_row_at firsts p)) parent (firsts_are.first p known))))
      (λ apart. subst (IsFirstChild rows q (y + 1)) (sym (elsewhere y apart)) (are.next y q (omega arith) within is_child))
      (cases_eq y x);
  alone = λ y within top. ⊎_elim
      (λ same. let here : parent_of rows x ≡ None = subst (λ (z : ℕ). parent_of rows z ≡ None) same top in absurd (cc))
      (λ apart. elsewhere y apart ∙ are.alone y within top)
      (cases_eq y x);
  later = λ y before within. elsewhere y (omega arith) ∙ are.later y (omega arith) within;
}
  where
    here_is : linked_row_at (set nexts x (linked_row_at firsts p)) x ≡ linked_row_at firsts p
    here_is = get_or-set_same nexts x (linked_row_at firsts p) None (omega (arith, are.one_each))

    elsewhere : (y : ℕ) → y ≢ x → linked_row_at (set nexts x (linked_row_at firsts p)) y ≡ linked_row_at nexts y
    elsewhere y apart = get_or-set_other nexts x y (linked_row_at firsts p) None apart
