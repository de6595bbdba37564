-- The steps of the loops that build a tree.
use Rattle.std.proofs.Common.{◌≡◌, ◌≢◌, ℕ, ◌+◌, ◌<◌, ◌≤◌, ◌⊎◌, ◌++◌, ◌∷◌, [], below_more, List, length, get_or, Option, Some, None, refl, sym, ap, ◌∙◌, inl, inr, ⊎_elim, arith}
use Rattle.std.specs.Prelude.{option_and_then, slice_index, min, max}
use Rattle.std.proofs.lemmas.Bool.{cases_lt, cases_eq}
use Rattle.std.proofs.lemmas.List.{length_push, get_or_push, get_or_append_left, get_or_default}
use Rattle.pc_wbs.specs.declared.tree.ItemRow.{ItemRow}
use Rattle.pc_model.specs.declared.limits.TheConstants.{MAX_LEVEL}
use Rattle.pc_wbs.specs.Climb.{parent_of, AreInRange, climb, HasLevel, IsDepth, IsOnlyTop, IsTree}
use Rattle.pc_wbs.specs.Refusal.{IsLooped, IsTooDeep}
use Rattle.pc_wbs.specs.inside.Links.{linked_row_at}
use Rattle.pc_model.specs.Greatest.{IsFirst, StandsBelow}
use Rattle.pc_wbs.specs.inside.Ends.{AreEnds, AreDoubled, StayInside, IsLeastBelow, IsFirstLooped, AreLevels, AreGreatest, lesser}
use Rattle.pc_wbs.proofs.ClimbLaws.{climb-add, climb-lower, climb-more, climb-range, HasLevel-same}
use Rattle.pc_wbs.proofs.LoopLaws.{IsOnLoop-end, end-IsOnLoop}

-- a row from which this many steps lead somewhere is deeper than that
pub HasLevel-deep : (rows : List ItemRow) (steps x end level : ℕ) → climb rows steps x ≡ Some end → HasLevel rows x level → steps < level
HasLevel-deep rows steps x end level h (k, (top, (g, t, l))) =
    ⊎_elim (λ lt. let z = climb-lower rows (k + 1) steps x end (omega arith) h in let over = climb-more rows k x top g in let is = z.1 in absurd cc)
    (λ le. omega arith)
    (cases_lt k steps)

-- twice as many steps
climb-twice : (rows : List ItemRow) (steps x : ℕ) (o : Option ℕ) → climb rows steps x ≡ o → climb rows (steps + steps) x ≡ option_and_then (climb rows steps) o
climb-twice rows steps x None h = by_end (climb rows (steps + steps) x) refl
  where
    by_end : (o : Option ℕ) → climb rows (steps + steps) x ≡ o → climb rows (steps + steps) x ≡ None
    by_end None e = e
    by_end (Some y) e = let z = climb-lower rows steps (steps + steps) x y (omega arith) e in let is = z.1 in absurd cc
climb-twice rows steps x (Some y) h = climb-add rows steps steps (steps + steps) x y refl h

pub StayInside-ends : (rows : List ItemRow) (steps : ℕ) (ends : List (Option ℕ)) → AreInRange rows → AreEnds rows (length rows) steps ends → StayInside ends
StayInside-ends rows steps ends r h x y lt e =
    let in_rows : x < length rows = omega (arith, h.one_each) in
    let inside = climb-range rows steps x y r in_rows (sym (h.end x in_rows) ∙ e) in
    omega (arith, h.one_each)

pub AreEnds-twice : (rows : List ItemRow) (steps more : ℕ) (ends twice : List (Option ℕ)) → AreInRange rows → more ≡ steps + steps →
    AreEnds rows (length rows) steps ends → AreDoubled ends (length ends) twice → AreEnds rows (length rows) more twice
AreEnds-twice rows steps more ends twice r e h d = record {
  one_each = d.one_each ∙ h.one_each;
  end = λ x lt. d.end x (omega (arith, h.one_each)) ∙ by_end x lt (climb rows steps x) refl;
}
  where
    by_end : (x : ℕ) → x < length rows → (o : Option ℕ) → climb rows steps x ≡ o → option_and_then (linked_row_at ends) (linked_row_at ends x) ≡ climb rows more x
    by_end x lt None is =
        let at : linked_row_at ends x ≡ None = h.end x lt ∙ is in
        ap (λ o. option_and_then (linked_row_at ends) o) at ∙ sym (ap (λ n. climb rows n x) e ∙ climb-twice rows steps x None is)
    by_end x lt (Some y) is =
        let at : linked_row_at ends x ≡ Some y = h.end x lt ∙ is in
        let inside = climb-range rows steps x y r lt is in
        ap (λ o. option_and_then (linked_row_at ends) o) at ∙ h.end y inside ∙ sym (ap (λ n. climb rows n x) e ∙ climb-twice rows steps x (Some y) is)

-- the least end of climbs that are long enough is the first row on a loop
pub IsFirstLooped-ends : (rows : List ItemRow) (steps : ℕ) (ends : List (Option ℕ)) (o : Option ℕ) → AreInRange rows → length rows ≤ steps →
    AreEnds rows (length rows) steps ends → IsLeastBelow ends (length ends) o → IsFirstLooped rows o
IsFirstLooped-ends rows steps ends None r long h none = λ x on. missed x on (end-IsOnLoop rows x steps r on.0 on.1)
  where
    missed : (x : ℕ) → IsLooped rows x → (z : ℕ) × ((z < length rows) × (climb rows steps z ≡ Some x)) → ⊥
    missed x on (z, (lt, e)) =
        let is = h.end z lt in
        let not = none z (omega (arith, lt, h.one_each)) in
        cc
IsFirstLooped-ends rows steps ends (Some m) r long h ((x, (lt, e)), bound) = record {
  holds = (climb-range rows steps x m r in_rows ends_here, IsOnLoop-end rows steps x m r in_rows long ends_here);
  first = λ y less on. sooner y less (end-IsOnLoop rows y steps r on.0 on.1);
}
  where
    in_rows : x < length rows
    in_rows = omega (arith, lt, h.one_each)

    ends_here : climb rows steps x ≡ Some m
    ends_here = sym (h.end x in_rows) ∙ e

    sooner : (y : ℕ) → y < m → (z : ℕ) × ((z < length rows) × (climb rows steps z ≡ Some y)) → ⊥
    sooner y less (z, (inside, is)) =
        let least = bound z y (omega (arith, inside, h.one_each)) (h.end z inside ∙ is) in
        omega arith

-- one end more
pub IsLeastBelow-more : (ends : List (Option ℕ)) (n : ℕ) (o v : Option ℕ) → IsLeastBelow ends n o → linked_row_at ends n ≡ v → IsLeastBelow ends (n + 1) (lesser o v)
IsLeastBelow-more ends n None None h e = below_more _ _ h e
IsLeastBelow-more ends n None (Some b) h e = (
  (n, (omega arith, e)),
  λ x y lt is. ⊎_elim (λ at. let here : linked_row_at ends n ≡ Some y = rw (← at) is in let same : b ≡ y = cc in
      omega arith) (λ apart. let not = h x (omega arith) in absurd cc) (cases_eq x n),
)
IsLeastBelow-more ends n (Some a) None h e =
    ((h.0.0, (omega (arith, h.0.1.0), h.0.1.1)), λ x y lt is. ⊎_elim (λ at. let here : linked_row_at ends n ≡ Some y = rw (← at) is in absurd cc) (λ apart. h.1 x y (omega arith) is) (cases_eq x n))
IsLeastBelow-more ends n (Some a) (Some b) h e = (
  least (cases_lt a b),
  λ x y lt is. ⊎_elim (λ at. let here : linked_row_at ends n ≡ Some y = rw (← at) is in let same : b ≡ y = cc in
      omega arith) (λ apart. let low = h.1 x y (omega arith) is in omega arith) (cases_eq x n),
)
  where
    least : (a < b) ⊎ (b ≤ a) → (x : ℕ) × ((x < n + 1) × (linked_row_at ends x ≡ Some (min a b)))
    least (inl lt) =
        let is : min a b ≡ a = omega arith in
        (h.0.0, (omega (arith, h.0.1.0), h.0.1.1 ∙ ap Some (sym is)))
    least (inr le) = let is : min a b ≡ b = omega arith in (n, (omega arith, e ∙ ap Some (sym is)))

-- one level more
pub AreLevels-more : (rows : List ItemRow) (n level : ℕ) (levels : List ℕ) → AreLevels rows n levels → HasLevel rows n level → level ≤ MAX_LEVEL → AreLevels rows (n + 1) (levels ++ level ∷ [])
AreLevels-more rows n level levels h has le = record {
  one_each = length_push levels level ∙ ap (λ k. k + 1) h.one_each;
  level = below_more _ _ (λ x lt. rw (earlier x lt) (h.level x lt)) (rw last has);
  within = below_more _ _ (λ x lt. rw (earlier x lt) (h.within x lt)) (rw last le);
}
  where
    last : slice_index (levels ++ level ∷ []) n ≡ level
    last = get_or_push levels level 0 n h.one_each

    earlier : (x : ℕ) → x < n → slice_index (levels ++ level ∷ []) x ≡ slice_index levels x
    earlier x lt = get_or_append_left levels (level ∷ []) 0 x (omega (arith, h.one_each))

-- the first row that is too deep
pub IsFirst-too_deep : (rows : List ItemRow) (n level : ℕ) (levels : List ℕ) → AreLevels rows n levels → n < length rows → HasLevel rows n level → MAX_LEVEL < level → IsFirst (IsTooDeep rows) n
IsFirst-too_deep rows n level levels h lt has deep = record {
  holds = (lt, (level, (has, deep)));
  first = λ y less too. shallow y less too;
}
  where
    shallow : (y : ℕ) → y < n → IsTooDeep rows y → ⊥
    shallow y less (within, (own, (is, over))) =
        let same = HasLevel-same rows y own (slice_index levels y) is (h.level y less) in
        omega (arith, h.within y less)

-- one number more
pub AreGreatest-more : (xs : List ℕ) (n greatest next : ℕ) → AreGreatest xs n greatest → slice_index xs n ≡ next → AreGreatest xs (n + 1) (max greatest next)
AreGreatest-more xs n greatest next h e = record {
  bound = below_more _ _ (λ k lt. omega (arith, h.bound k lt)) (omega arith);
  attained = λ some. by_order (cases_lt greatest next) (cases_eq n 0);
  none = λ z. absurd (omega arith);
}
  where
    newer : greatest ≤ next → StandsBelow xs (n + 1) (max greatest next)
    newer le = let is : max greatest next ≡ next = omega arith in (n, omega arith, e ∙ sym is)

    keep : next ≤ greatest → StandsBelow xs n greatest → StandsBelow xs (n + 1) (max greatest next)
    keep ge (j, lt, is) = let m : max greatest next ≡ greatest = omega arith in (j, omega arith, is ∙ sym m)

    by_order : (greatest < next) ⊎ (next ≤ greatest) → (n ≡ 0) ⊎ (n ≢ 0) → StandsBelow xs (n + 1) (max greatest next)
    by_order (inl lt) zero_or = newer (omega arith)
    by_order (inr ge) (inl z) = newer (omega (arith, h.none z))
    by_order (inr ge) (inr nz) = keep ge (h.attained (omega arith))

-- the row of a climb has the link that the row of an equal climb has
pub same_row : (rows : List ItemRow) (links : List (Option ℕ)) (j k x y z : ℕ) → j ≡ k → climb rows j x ≡ Some y → climb rows k x ≡ Some z → linked_row_at links z ≡ None → linked_row_at links y ≡ None
same_row rows links j k x y z e h g none =
    let same : y ≡ z = let f = ap (λ n. climb rows n x) e in cc in
    rw same none

-- above a row without a parent there are no links
pub no_links_above : (rows : List ItemRow) (links : List (Option ℕ)) (k x top : ℕ) → climb rows k x ≡ Some top → parent_of rows top ≡ None →
    ((j z : ℕ) → j < k → climb rows j x ≡ Some z → linked_row_at links z ≡ None) → linked_row_at links top ≡ None → (j z : ℕ) →
    climb rows j x ≡ Some z → linked_row_at links z ≡ None
no_links_above rows links k x top h e lower none j z g =
    ⊎_elim (λ lt. lower j z lt g)
    (λ ge. ⊎_elim (λ same. same_row rows links j k x z top same g h none)
    (λ apart. let s = climb-lower rows (k + 1) j x z (omega arith) g in let over = climb-more rows k x top h in let is = s.1 in
    absurd cc) (cases_eq j k))
    (cases_lt j k)

-- what a read of a link says
pub link-read : (links : List (Option ℕ)) (x : ℕ) (o : Option ℕ) → x < length links → o ≡ get_or links x o → linked_row_at links x ≡ o
link-read links x o lt e = get_or_default links x None o lt ∙ sym e

-- the greatest level is the depth
pub IsDepth-greatest : (rows : List ItemRow) (levels : List ℕ) (depth : ℕ) → 0 < length rows → AreLevels rows (length rows) levels → AreGreatest levels (length levels) depth → IsDepth rows depth
IsDepth-greatest rows levels depth some h g = record {
  attained = at (g.attained (omega (arith, h.one_each)));
  bound = λ x level lt has. let same = HasLevel-same rows x level (slice_index levels x) has (h.level x lt) in omega (arith, g.bound x (omega (arith, h.one_each)));
}
  where
    at : StandsBelow levels (length levels) depth → (x : ℕ) × ((x < length rows) × HasLevel rows x depth)
    at (j, lt, e) =
        let inside : j < length rows = omega (arith, h.one_each) in
        (j, (inside, rw (← e) (h.level j inside)))

-- no depth is beyond the most levels
pub IsDepth-within : (rows : List ItemRow) (levels : List ℕ) (depth : ℕ) → AreLevels rows (length rows) levels → IsDepth rows depth → depth ≤ MAX_LEVEL
IsDepth-within rows levels depth h d =
    let x = d.attained in
    let same = HasLevel-same rows x.0 depth (slice_index levels x.0) x.1.1 (h.level x.0 x.1.0) in
    omega (arith, h.within x.0 x.1.0)

-- rows with one top and a level each are a tree
pub IsTree-levels : (rows : List ItemRow) (top : ℕ) (levels : List ℕ) → IsOnlyTop rows top → AreLevels rows (length rows) levels → IsTree rows
IsTree-levels rows top levels only h = record {
  top = (top, only);
  levels = λ x lt. (slice_index levels x, (h.level x lt, h.within x lt));
}
