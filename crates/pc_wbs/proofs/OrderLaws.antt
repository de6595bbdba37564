-- The row directly after another in preorder, and the preorder that is made of such steps.
use Rattle.std.proofs.Common.{◌≡◌, ◌≢◌, ℕ, zero, suc, ◌+◌, ◌-◌, ◌<◌, ◌≤◌, ◌⊎◌, ◌++◌, ◌∷◌, [], below_more, List, length, Option, Some, None, refl, sym, ap, ◌∙◌, inl, inr, ⊎_elim, add-one, arith}
use Rattle.std.specs.Prelude.{slice_index}
use Rattle.std.proofs.lemmas.Bool.{cases_lt, cases_eq, cases_order}
use Rattle.std.proofs.lemmas.List.{length_push, get_or_push, get_or_append_left, get_or_past}
use Rattle.pc_model.specs.Greatest.{StandsBelow}
use Rattle.pc_wbs.specs.declared.tree.ItemRow.{ItemRow}
use Rattle.pc_wbs.specs.Climb.{parent_of, AreInRange, climb, IsBelow, HasLevel, IsOnlyTop, IsTree}
use Rattle.pc_wbs.specs.inside.Links.{IsFirstChild, linked_row_at, AreNextSiblings, IsNextBeside}
use Rattle.pc_wbs.specs.Preorder.{IsPreorder}
use Rattle.pc_wbs.specs.inside.Precedes.{IsUnder, Parts, Precedes, IsSuccessor}
use Rattle.pc_wbs.proofs.Pigeon.{Repeats, repeats, length-apart}
use Rattle.pc_wbs.proofs.ClimbLaws.{climb-add, step-some, climb-range, IsBelow-self, IsBelow-parent}
use Rattle.pc_wbs.proofs.LoopLaws.{HasLevel-no_loop}
use Rattle.pc_wbs.proofs.PrecedesLaws.{HasNoLoop, IsBelow-trans, IsBelow-under, cases_below, IsUnder-self, sibling_under, Precedes-self, Precedes-trans, Parts-below, Parts-siblings}

-- what has a parent is a row
pub parent-inside : (rows : List ItemRow) (x p : ℕ) → parent_of rows x ≡ Some p → x < length rows
parent-inside rows x p e =
    ⊎_elim (λ lt. lt)
    (λ past. let out : parent_of rows x ≡ None = ap (λ (r : ItemRow). r.parent) (get_or_past rows x (record { parent = None }) past) in absurd cc)
    (cases_lt x (length rows))

-- a tree has no loop
pub HasNoLoop-tree : (rows : List ItemRow) → IsTree rows → HasNoLoop rows
HasNoLoop-tree rows t x (k, h) =
    let s = step-some (climb rows k) (parent_of rows x) x (rw add-one at h) in
    let level = t.levels x (parent-inside rows x s.0 s.1.0) in
    HasLevel-no_loop rows x level.0 level.1.0 (k, h)

-- what is under x is below one of its children
pub under_child : (rows : List ItemRow) (u x p k : ℕ) → parent_of rows u ≡ Some p → climb rows k p ≡ Some x → (d : ℕ) × ((parent_of rows d ≡ Some x) × IsBelow rows u d)
under_child rows u x p zero e h = let same : p ≡ x = cc in (u, (e ∙ ap Some same, IsBelow-self rows u))
under_child rows u x p (suc k) e h =
    let s = step-some (climb rows k) (parent_of rows p) x h in
    let d = under_child rows p x s.0 k s.1.0 s.1.1 in
    (d.0, (d.1.0, IsBelow-parent rows u p d.0 e d.1.1))

child_of : (rows : List ItemRow) (u x : ℕ) → IsUnder rows u x → (d : ℕ) × ((parent_of rows d ≡ Some x) × IsBelow rows u d)
child_of rows u x (p, (e, (k, h))) = under_child rows u x p k e h

below-precedes : (rows : List ItemRow) (u c : ℕ) → IsBelow rows u c → (u ≡ c) ⊎ Precedes rows c u
below-precedes rows u c h = ⊎_elim (λ same. inl same) (λ under. inr (inl under)) (cases_below rows u c h)

-- a row with children is followed by the first of them
pub IsSuccessor-child : (rows : List ItemRow) (x c : ℕ) → IsFirstChild rows x 0 (Some c) → IsSuccessor rows x (Some c)
IsSuccessor-child rows x c (from, inside, e, first) = (inside, inl (x, (e, IsBelow-self rows x)), later)
  where
    of_child : (u : ℕ) → (d : ℕ) × ((parent_of rows d ≡ Some x) × IsBelow rows u d) → (u ≡ c) ⊎ Precedes rows c u
    of_child u (d, (f, h)) =
        ⊎_elim (λ same. below-precedes rows u c (rw same h))
        (λ apart. ⊎_elim (λ lt. inr (inr
        (Parts-siblings rows c d x c u e f lt (IsBelow-self rows c) h))) (λ gt. absurd (first d (omega arith) gt f)) apart)
        (cases_order c d)

    later : (u : ℕ) → u < length rows → Precedes rows x u → (u ≡ c) ⊎ Precedes rows c u
    later u lt (inl under) = of_child u (child_of rows u x under)
    later u lt (inr t) =
        inr (inr (Parts-below t (IsBelow-parent rows c x t.earlier e t.below_earlier) t.below_later))

-- a row with a later sibling has a next one
linked : (rows : List ItemRow) (nexts : List (Option ℕ)) (b a p : ℕ) → AreNextSiblings rows 0 nexts → parent_of rows b ≡ Some p → parent_of rows a ≡ Some p → b < a → linked_row_at nexts b ≡ None → ⊥
linked rows nexts b a p links eb ea lt no_link =
    let none : IsFirstChild rows p (b + 1) None = rw no_link at (links.next b p (omega arith) (parent-inside rows b p eb) eb) in
    none a (omega arith) (parent-inside rows a p ea) ea

-- a row without children is followed by the next sibling of the nearest row above that has one
pub IsSuccessor-beside : (rows : List ItemRow) (nexts : List (Option ℕ)) (x : ℕ) (o : Option ℕ) → AreInRange rows → x < length rows →
    AreNextSiblings rows 0 nexts → IsFirstChild rows x 0 None → IsNextBeside rows nexts x o → IsSuccessor rows x o
IsSuccessor-beside rows nexts x None r inside links childless none = last
  where
    last : (u : ℕ) → u < length rows → Precedes rows x u → ⊥
    last u lt (inl under) =
        let d = child_of rows u x under in
        childless d.0 (omega arith) (parent-inside rows d.0 x d.1.0) d.1.0
    last u lt (inr t) =
        linked rows nexts t.earlier t.later t.parent links t.parent_earlier t.parent_later t.order (none t.below_earlier.0 t.earlier t.below_earlier.1)
IsSuccessor-beside rows nexts x (Some s) r inside links childless (k, (y, (h, e, nearest))) = by_parent (parent_of rows y) refl
  where
    within : y < length rows
    within = climb-range rows k x y r inside h

    below_y : (p : ℕ) → parent_of rows y ≡ Some p → IsFirstChild rows p (y + 1) (Some s) → (u : ℕ) → Parts rows x u → (u ≡ s) ⊎ Precedes rows s u
    below_y p ep (from, in_rows, es, first) u t =
        let a = t.later in
        let b = t.earlier in
        ⊎_elim (λ lt. absurd (linked rows nexts b a t.parent links t.parent_earlier t.parent_later t.order (nearest t.below_earlier.0 b lt t.below_earlier.1)))
        (λ le. let up : IsBelow rows y b = (t.below_earlier.0 - k, sym (climb-add rows k (t.below_earlier.0 - k) t.below_earlier.0 x y (omega arith) h) ∙ t.below_earlier.1) in
        ⊎_elim (λ same. let parents : t.parent ≡ p = let f = t.parent_earlier in let g = ap (λ n. parent_of rows n) same in cc in
        let ea : parent_of rows a ≡ Some p = t.parent_later ∙ ap Some parents in
        ⊎_elim (λ at. below-precedes rows u s (rw at t.below_later))
        (λ apart. ⊎_elim (λ lt. inr (inr
        (Parts-siblings rows s a p s u es ea lt (IsBelow-self rows s) t.below_later))) (λ gt. absurd (first a (omega (arith, t.order)) gt ea)) apart)
        (cases_order s a))
        (λ under. inr (inr (Parts-below t (IsBelow-under rows s b (sibling_under rows y s p b ep es under)) t.below_later)))
        (cases_below rows y b up))
        (cases_lt t.below_earlier.0 k)

    later : (p : ℕ) → parent_of rows y ≡ Some p → IsFirstChild rows p (y + 1) (Some s) → (u : ℕ) → u < length rows → Precedes rows x u → (u ≡ s) ⊎ Precedes rows s u
    later p ep sibling u lt (inl under) =
        let d = child_of rows u x under in
        absurd (childless d.0 (omega arith) (parent-inside rows d.0 x d.1.0) d.1.0)
    later p ep sibling u lt (inr t) = below_y p ep sibling u t

    by_parent : (o : Option ℕ) → parent_of rows y ≡ o → IsSuccessor rows x (Some s)
    by_parent None top = let alone = links.alone y within top in absurd cc
    by_parent (Some p) ep =
        let sibling : IsFirstChild rows p (y + 1) (Some s) = rw e at (links.next y p (omega arith) within ep) in (
          sibling.1,
          inr (record {
            earlier = y;
            later = s;
            parent = p;
            below_earlier = (k, h);
            below_later = IsBelow-self rows s;
            parent_earlier = ep;
            parent_later = sibling.2;
            order = omega (arith, sibling.0);
          }),
          later p ep sibling,
        )

-- what is left to visit
abbrev pub Continues : List ItemRow → List ℕ → Option ℕ → Type 0
Continues rows xs None = (u : ℕ) → u < length rows → StandsBelow xs (length xs) u
Continues rows xs (Some x) =
    (x < length rows) × ((k : ℕ) → k < length xs → Precedes rows (slice_index xs k) x) × ((u : ℕ) → u < length rows → StandsBelow xs (length xs) u ⊎ ((u ≡ x) ⊎ Precedes rows x u))

-- the first rows of the preorder, and the next one
pub record IsFront (rows : List ItemRow) (xs : List ℕ) (next : Option ℕ) : Type 0 where
  pub range : (k : ℕ) → k < length xs → slice_index xs k < length rows
  pub sorted : (j k : ℕ) → j < k → k < length xs → Precedes rows (slice_index xs j) (slice_index xs k)
  pub continues : Continues rows xs next

-- every row is below the top
pub IsBelow-top : (rows : List ItemRow) (top x : ℕ) → AreInRange rows → IsTree rows → IsOnlyTop rows top → x < length rows → IsBelow rows x top
IsBelow-top rows top x r t only lt = at_top (t.levels x lt).1.0
  where
    at_top : {level : ℕ} → HasLevel rows x level → IsBelow rows x top
    at_top (k, (y, (h, e, l))) =
        let same = only.only y (climb-range rows k x y r lt h) e in
        (k, h ∙ ap Some same)

pub IsFront-none : (rows : List ItemRow) (top : ℕ) → AreInRange rows → IsTree rows → IsOnlyTop rows top → IsFront rows [] (Some top)
IsFront-none rows top r t only = record {
  range = λ k h. absurd (omega arith);
  sorted = λ j k h g. absurd (omega arith);
  continues = (only.is_top.0, λ k h. absurd (omega arith), λ u lt. inr (below-precedes rows u top (IsBelow-top rows top u r t only lt)));
}

-- the rows and the next one after them are rows in order
front_push : (rows : List ItemRow) (xs : List ℕ) (x : ℕ) → IsFront rows xs (Some x) →
    ((k : ℕ) → k < length xs + 1 → slice_index (xs ++ x ∷ []) k < length rows)
    × ((j k : ℕ) → j < k → k < length xs + 1 → Precedes rows (slice_index (xs ++ x ∷ []) j) (slice_index (xs ++ x ∷ []) k))
front_push rows xs x h = (in_rows, λ j k lt within. behind j k lt within (cases_eq k (length xs)))
  where
    here : slice_index (xs ++ x ∷ []) (length xs) ≡ x
    here = get_or_push xs x 0 (length xs) refl

    earlier : (k : ℕ) → k < length xs → slice_index (xs ++ x ∷ []) k ≡ slice_index xs k
    earlier k lt = get_or_append_left xs (x ∷ []) 0 k lt

    in_rows : (k : ℕ) → k < length xs + 1 → slice_index (xs ++ x ∷ []) k < length rows
    in_rows = below_more _ _ (λ k lt. rw (earlier k lt) (h.range k lt)) (rw here h.continues.0)

    behind : (j k : ℕ) → j < k → k < length xs + 1 → (k ≡ length xs) ⊎ (k ≢ length xs) → Precedes rows (slice_index (xs ++ x ∷ []) j) (slice_index (xs ++ x ∷ []) k)
    behind j k lt within (inl last) =
        let low : j < length xs = omega arith in
        rw (last, here, earlier j low) (h.continues.1 j low)
    behind j k lt within (inr apart) =
        let high : k < length xs = omega arith in
        let low : j < length xs = omega arith in
        rw (earlier j low, earlier k high) (h.sorted j k lt high)

pub IsFront-more : (rows : List ItemRow) (xs : List ℕ) (x : ℕ) (next : Option ℕ) → IsFront rows xs (Some x) → IsSuccessor rows x next → IsFront rows (xs ++ x ∷ []) next
IsFront-more rows xs x next h is = record {
  range = λ k lt. (front_push rows xs x h).0 k (omega (arith, lt, length_push xs x));
  sorted = λ j k lt within. (front_push rows xs x h).1 j k lt (omega (arith, within, length_push xs x));
  continues = go next is;
}
  where
    here : slice_index (xs ++ x ∷ []) (length xs) ≡ x
    here = get_or_push xs x 0 (length xs) refl

    earlier : (k : ℕ) → k < length xs → slice_index (xs ++ x ∷ []) k ≡ slice_index xs k
    earlier k lt = get_or_append_left xs (x ∷ []) 0 k lt

    stands : (u : ℕ) → StandsBelow xs (length xs) u → StandsBelow (xs ++ x ∷ []) (length (xs ++ x ∷ [])) u
    stands u (j, lt, e) = (j, omega (arith, lt, length_push xs x), earlier j lt ∙ e)

    stands_last : StandsBelow (xs ++ x ∷ []) (length (xs ++ x ∷ [])) x
    stands_last = (length xs, omega (arith, length_push xs x), here)

    before : (t : ℕ) → Precedes rows x t → (k : ℕ) → k < length xs + 1 → Precedes rows (slice_index (xs ++ x ∷ []) k) t
    before t first =
        below_more _ _ (λ k lt. rw (earlier k lt) (Precedes-trans rows (slice_index xs k) x t (h.continues.1 k lt) first)) (rw here first)

    go : (o : Option ℕ) → IsSuccessor rows x o → Continues rows (xs ++ x ∷ []) o
    go None last = λ u lt. ⊎_elim (λ found. stands u found) (λ rest. ⊎_elim (λ same. rw same stands_last) (λ after. absurd (last u lt after)) rest) (h.continues.2 u lt)
    go (Some t) after = (
      after.0,
      λ k lt. before t after.1 k (omega (arith, lt, length_push xs x)),
      λ u lt. ⊎_elim (λ found. inl (stands u found))
          (λ rest. ⊎_elim (λ same. inl (rw same stands_last)) (λ behind. inr (after.2 u lt behind)) rest) (h.continues.2 u lt),
    )

apart : (rows : List ItemRow) (xs : List ℕ) → HasNoLoop rows →
    ((j k : ℕ) → j < k → k < length xs → Precedes rows (slice_index xs j) (slice_index xs k)) → (j k : ℕ) → j < k → k < length xs →
    slice_index xs j ≢ slice_index xs k
apart rows xs none sorted j k lt within same =
    Precedes-self rows (slice_index xs k) none (rw same at (sorted j k lt within))

-- rows are left to visit while there is a next one
pub IsFront-room : (rows : List ItemRow) (xs : List ℕ) (x : ℕ) → IsTree rows → IsFront rows xs (Some x) → length xs < length rows
IsFront-room rows xs x t h =
    let more = front_push rows xs x h in
    let long = length_push xs x in
    let fits : length (xs ++ x ∷ [])
    ≤ length rows = length-apart (length rows) (xs ++ x ∷ []) (λ k lt. more.0 k (omega (arith, lt, long)))
    (apart rows (xs ++ x ∷ []) (HasNoLoop-tree rows t) (λ j k lt within. more.1 j k lt (omega (arith, within, long)))) in
    omega arith

-- the place of a row
place : (rows : List ItemRow) (xs : List ℕ) → IsFront rows xs None → (u : ℕ) → (u < length rows) ⊎ (length rows ≤ u) → ℕ
place rows xs h u (inl lt) = (h.continues u lt).0
place rows xs h u (inr past) = 0

place-is : (rows : List ItemRow) (xs : List ℕ) (h : IsFront rows xs None) (u : ℕ) (d : (u < length rows) ⊎ (length rows ≤ u)) →
    u < length rows → (place rows xs h u d < length xs) × (slice_index xs (place rows xs h u d) ≡ u)
unfolding place
place-is rows xs h u (inl lt) is = ((h.continues u lt).1, (h.continues u lt).2)
place-is rows xs h u (inr past) is = absurd (omega arith)

-- all rows are there
all_there : (rows : List ItemRow) (xs : List ℕ) → IsFront rows xs None → length rows ≤ length xs
all_there rows xs h =
    ⊎_elim (λ short. absurd (clash short (repeats (length xs) spot (λ i le. small short i le)))) (λ fits. fits) (cases_lt (length xs) (length rows))
  where
    spot : ℕ → ℕ
    spot u = place rows xs h u (cases_lt u (length rows))

    small : length xs < length rows → (i : ℕ) → i ≤ length xs → place rows xs h i (cases_lt i (length rows)) < length xs
    small short i le = (place-is rows xs h i (cases_lt i (length rows)) (omega arith)).0

    clash : length xs < length rows → Repeats (length xs) (λ u. place rows xs h u (cases_lt u (length rows))) → ⊥
    clash short (i, (j, (lt, le, e))) =
        let at_i = (place-is rows xs h i (cases_lt i (length rows)) (omega arith)).1 in
        let at_j = (place-is rows xs h j (cases_lt j (length rows)) (omega arith)).1 in
        let same : i ≡ j = sym at_i ∙ ap (λ n. slice_index xs n) e ∙ at_j in
        omega arith

-- where nothing is left the rows are in preorder
pub IsPreorder-front : (rows : List ItemRow) (xs : List ℕ) → AreInRange rows → IsTree rows → IsFront rows xs None → IsPreorder rows xs
IsPreorder-front rows xs r t h = record {
  whole = let fits = length-apart (length rows) xs h.range (apart rows xs none h.sorted) in omega (arith, all_there rows xs h);
  range = h.range;
  every = h.continues;
  once = apart rows xs none h.sorted;
  before = λ k p lt e. behind k p lt e (h.continues p (r (slice_index xs k) p (h.range k lt) e));
  together = λ j k m le high within
      below. ⊎_elim (λ lt. ⊎_elim (λ less. between j k m lt less within below (h.sorted j k lt (omega arith)))
      (λ ge. let same : k ≡ m = omega arith in rw same below) (cases_lt k m)) (λ ge. let same : k ≡ j = omega arith in
      rw same (IsBelow-self rows (slice_index xs j))) (cases_lt j k);
  in_row_order = λ j k p lt within ej ek. ordered j k p lt within ej ek (cases_order (slice_index xs j) (slice_index xs k));
}
  where
    none : HasNoLoop rows
    none = HasNoLoop-tree rows t

    never : (j k : ℕ) → j < k → k < length xs → Precedes rows (slice_index xs k) (slice_index xs j) → ⊥
    never j k lt within back =
        Precedes-self rows (slice_index xs k) none (Precedes-trans rows (slice_index xs k) (slice_index xs j) (slice_index xs k) back (h.sorted j k lt within))

    behind : (k p : ℕ) → k < length xs → parent_of rows (slice_index xs k) ≡ Some p → StandsBelow xs (length xs) p → StandsBelow xs k p
    behind k p lt e (j, within, is) =
        let under : IsUnder rows (slice_index xs k) p = (p, (e, IsBelow-self rows p)) in
        ⊎_elim (λ same. let here : slice_index xs k ≡ p = ap (λ n. slice_index xs n) (sym same) ∙ is in absurd (IsUnder-self rows p none (rw here at under)))
        (λ order. ⊎_elim (λ less. (j, less, is)) (λ gt. absurd (never k j gt within (rw is (inl under)))) order)
        (cases_order j k)

    between : (j k m : ℕ) → j < k → k < m → m < length xs → IsBelow rows (slice_index xs m) (slice_index xs j) →
        Precedes rows (slice_index xs j) (slice_index xs k) → IsBelow rows (slice_index xs k) (slice_index xs j)
    between j k m lt less within below (inl under) = IsBelow-under rows (slice_index xs k) (slice_index xs j) under
    between j k m lt less within below (inr t) =
        absurd (never k m less within (inr
        (Parts-below t (IsBelow-trans rows (slice_index xs m) (slice_index xs j) t.earlier below t.below_earlier) t.below_later)))

    ordered : (j k p : ℕ) → j < k → k < length xs → parent_of rows (slice_index xs j) ≡ Some p →
        parent_of rows (slice_index xs k) ≡ Some p →
        (slice_index xs j ≡ slice_index xs k) ⊎ ((slice_index xs j < slice_index xs k) ⊎ (slice_index xs k < slice_index xs j)) →
        slice_index xs j < slice_index xs k
    ordered j k p lt within ej ek (inl same) =
        absurd (apart rows xs none h.sorted j k lt within same)
    ordered j k p lt within ej ek (inr (inl less)) = less
    ordered j k p lt within ej ek (inr (inr more)) =
        absurd (never j k lt within (inr
        (record {
          earlier = slice_index xs k;
          later = slice_index xs j;
          parent = p;
          below_earlier = IsBelow-self rows (slice_index xs k);
          below_later = IsBelow-self rows (slice_index xs j);
          parent_earlier = ek;
          parent_later = ej;
          order = more;
        })))
