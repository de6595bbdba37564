-- How climbs compose, and what levels they lead to.
use Rattle.std.proofs.Common.{◌≡◌, ℕ, zero, suc, ◌+◌, ◌-◌, ◌<◌, ◌≤◌, ◌⊎◌, List, length, Option, Some, None, refl, ap, ◌∙◌, inl, inr, ⊎_elim, arith}
use Rattle.std.specs.Prelude.{option_and_then}
use Rattle.std.proofs.lemmas.Bool.{cases_order}
use Rattle.pc_wbs.specs.declared.tree.ItemRow.{ItemRow}
use Rattle.pc_wbs.specs.Climb.{parent_of, AreInRange, climb, IsBelow, HasLevel}

-- a step that leads somewhere has a row to begin with
pub step-some : (f : ℕ → Option ℕ) (o : Option ℕ) (y : ℕ) → option_and_then f o ≡ Some y → (p : ℕ) × ((o ≡ Some p) × (f p ≡ Some y))
step-some f None y h = cc
step-some f (Some p) y h = (p, (refl, h))

-- a climb begins with the step to the parent
pub climb-step : (rows : List ItemRow) (k x p : ℕ) → parent_of rows x ≡ Some p → climb rows (suc k) x ≡ climb rows k p
climb-step rows k x p e = ap (λ o. option_and_then (climb rows k) o) e

-- a climb of a steps and one of b are one of c = a + b
pub climb-add : (rows : List ItemRow) (a b c x y : ℕ) → c ≡ a + b → climb rows a x ≡ Some y → climb rows c x ≡ climb rows b y
climb-add rows zero b c x y e h =
    let same : x ≡ y = cc in
    let steps : c ≡ b = omega arith in
    rw (same, steps) refl
climb-add rows (suc a) b zero x y e h = absurd (omega arith)
climb-add rows (suc a) b (suc c) x y e h =
    let s = step-some (climb rows a) (parent_of rows x) y h in
    climb-step rows c x s.0 s.1.0 ∙ climb-add rows a b c s.0 y (omega arith) s.1.1

climb-one : (rows : List ItemRow) (y : ℕ) → climb rows 1 y ≡ parent_of rows y
climb-one rows y = by_parent (parent_of rows y)
  where
    by_parent : (o : Option ℕ) → option_and_then (climb rows 0) o ≡ o
    by_parent None = refl
    by_parent (Some p) = refl

-- one step more leads to the parent
pub climb-more : (rows : List ItemRow) (k x y : ℕ) → climb rows k x ≡ Some y → climb rows (k + 1) x ≡ parent_of rows y
climb-more rows k x y h = climb-add rows k 1 (k + 1) x y refl h ∙ climb-one rows y

-- a climb passes through somewhere at each lesser number of steps
pub climb-lower : (rows : List ItemRow) (b c x y : ℕ) → b ≤ c → climb rows c x ≡ Some y → (z : ℕ) × (climb rows b x ≡ Some z)
climb-lower rows zero c x y le h = (x, refl)
climb-lower rows (suc b) zero x y le h = absurd (omega arith)
climb-lower rows (suc b) (suc c) x y le h =
    let s = step-some (climb rows c) (parent_of rows x) y h in
    let z = climb-lower rows b c s.0 y (omega arith) s.1.1 in
    (z.0, climb-step rows b x s.0 s.1.0 ∙ z.1)

-- and ends at a row
pub climb-range : (rows : List ItemRow) (k x y : ℕ) → AreInRange rows → x < length rows → climb rows k x ≡ Some y → y < length rows
climb-range rows zero x y r lt h = let same : x ≡ y = cc in omega arith
climb-range rows (suc k) x y r lt h =
    let s = step-some (climb rows k) (parent_of rows x) y h in
    climb-range rows k s.0 y r (r x s.0 lt s.1.0) s.1.1

-- below
pub IsBelow-self : (rows : List ItemRow) (x : ℕ) → IsBelow rows x x
IsBelow-self rows x = (0, refl)

pub IsBelow-parent : (rows : List ItemRow) (x p y : ℕ) → parent_of rows x ≡ Some p → IsBelow rows p y → IsBelow rows x y
IsBelow-parent rows x p y e (k, h) = (suc k, climb-step rows k x p e ∙ h)

pub IsBelow-cases : (rows : List ItemRow) (x y : ℕ) → IsBelow rows x y → (x ≡ y) ⊎ ((p : ℕ) × ((parent_of rows x ≡ Some p) × IsBelow rows p y))
IsBelow-cases rows x y (zero, h) = inl cc
IsBelow-cases rows x y (suc k, h) =
    let s = step-some (climb rows k) (parent_of rows x) y h in
    inr (s.0, (s.1.0, (k, s.1.1)))

-- levels
pub HasLevel-top : (rows : List ItemRow) (x : ℕ) → parent_of rows x ≡ None → HasLevel rows x 1
HasLevel-top rows x e = (0, (x, (refl, e, omega arith)))

pub HasLevel-child : (rows : List ItemRow) (x p level : ℕ) → parent_of rows x ≡ Some p → HasLevel rows p level → HasLevel rows x (level + 1)
HasLevel-child rows x p level e (k, (top, (h, t, l))) = (suc k, (top, (climb-step rows k x p e ∙ h, t, omega arith)))

no_step : (rows : List ItemRow) (k j x t u : ℕ) → k < j → climb rows k x ≡ Some t → parent_of rows t ≡ None → climb rows j x ≡ Some u → ⊥
no_step rows k j x t u lt h e g =
    let z = climb-lower rows (k + 1) j x u (omega arith) g in
    let over = climb-more rows k x t h in
    let is = z.1 in
    cc

pub HasLevel-same : (rows : List ItemRow) (x l m : ℕ) → HasLevel rows x l → HasLevel rows x m → l ≡ m
HasLevel-same rows x l m (k, (t, (h, e, is))) (j, (u, (g, f, at))) =
    ⊎_elim (λ same. omega arith)
    (λ apart. ⊎_elim (λ lt. absurd (no_step rows k j x t u lt h e g)) (λ gt. absurd (no_step rows j k x u t gt g f h)) apart)
    (cases_order k j)

-- a parent is one level up
pub HasLevel-parent : (rows : List ItemRow) (x p level : ℕ) → parent_of rows x ≡ Some p → HasLevel rows x level → HasLevel rows p (level - 1) × (2 ≤ level)
HasLevel-parent rows x p level e (zero, (top, (h, t, l))) =
    let same : x ≡ top = cc in
    let none : parent_of rows x ≡ None = rw same t in
    cc
HasLevel-parent rows x p level e (suc k, (top, (h, t, l))) =
    let s = step-some (climb rows k) (parent_of rows x) top h in
    let is = s.1.0 in
    let same : s.0 ≡ p = cc in
    ((k, (top, (rw (← same) s.1.1, t, omega arith))), omega arith)
