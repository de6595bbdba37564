-- Which of two rows comes first in preorder: the one that the other is below, or else the one that is below the earlier
-- of two siblings.
use Rattle.std.proofs.Common.{◌≡◌, ℕ, zero, suc, ◌+◌, ◌-◌, ◌<◌, ◌⊎◌, List, Some, refl, sym, ap, ◌∙◌, inl, inr, ⊎_elim, add-one, arith}
use Rattle.std.proofs.lemmas.Bool.{cases_lt}
use Rattle.pc_wbs.specs.declared.tree.ItemRow.{ItemRow}
use Rattle.pc_wbs.specs.Climb.{parent_of, climb, IsBelow, IsOnLoop}
use Rattle.pc_wbs.specs.inside.Precedes.{IsUnder, Parts, Precedes}
use Rattle.pc_wbs.proofs.ClimbLaws.{climb-add, climb-step, step-some, IsBelow-self, IsBelow-parent, IsBelow-cases}

-- no row is on a loop
abbrev pub HasNoLoop : List ItemRow → Type 0
HasNoLoop rows = (x : ℕ) → IsOnLoop rows x → ⊥

pub IsBelow-trans : (rows : List ItemRow) (x y z : ℕ) → IsBelow rows x y → IsBelow rows y z → IsBelow rows x z
IsBelow-trans rows x y z (k, h) (j, g) = (k + j, climb-add rows k j (k + j) x y refl h ∙ g)

pub IsBelow-under : (rows : List ItemRow) (u y : ℕ) → IsUnder rows u y → IsBelow rows u y
IsBelow-under rows u y (p, (e, h)) = IsBelow-parent rows u p y e h

pub IsUnder-below : (rows : List ItemRow) (u y z : ℕ) → IsUnder rows u y → IsBelow rows y z → IsUnder rows u z
IsUnder-below rows u y z (p, (e, h)) g = (p, (e, IsBelow-trans rows p y z h g))

pub IsUnder-from : (rows : List ItemRow) (u v y : ℕ) → IsBelow rows u v → IsUnder rows v y → IsUnder rows u y
IsUnder-from rows u v y (zero, h) (p, (e, g)) =
    let same : u ≡ v = cc in
    (p, (ap (λ n. parent_of rows n) same ∙ e, g))
IsUnder-from rows u v y (suc k, h) (p, (e, g)) =
    let s = step-some (climb rows k) (parent_of rows u) v h in
    (s.0, (s.1.0, IsBelow-trans rows s.0 v y (k, s.1.1) (IsBelow-parent rows v p y e g)))

-- below is under or the same
pub cases_below : (rows : List ItemRow) (x y : ℕ) → IsBelow rows x y → (x ≡ y) ⊎ IsUnder rows x y
cases_below rows x y h = IsBelow-cases rows x y h

-- of two rows above the same row one is above the other
pub cases_above : (rows : List ItemRow) (v b c : ℕ) → IsBelow rows v b → IsBelow rows v c → IsBelow rows b c ⊎ IsBelow rows c b
cases_above rows v b c (k, h) (j, g) =
    ⊎_elim (λ lt. inl (j - k, sym (climb-add rows k (j - k) j v b (omega arith) h) ∙ g))
    (λ le. inr (k - j, sym (climb-add rows j (k - j) k v c (omega arith) g) ∙ h))
    (cases_lt k j)

-- nothing is under itself
pub IsUnder-self : (rows : List ItemRow) (x : ℕ) → HasNoLoop rows → IsUnder rows x x → ⊥
IsUnder-self rows x none (p, (e, (k, h))) = none x (k, rw add-one (climb-step rows k x p e ∙ h))

-- of two siblings none is below the other
pub siblings_apart : (rows : List ItemRow) (a b p : ℕ) → HasNoLoop rows → parent_of rows a ≡ Some p → parent_of rows b ≡ Some p → IsUnder rows a b → ⊥
siblings_apart rows a b p none ea eb (q, (eq, h)) =
    let same : q ≡ p = cc in
    IsUnder-self rows b none (p, (eb, rw (← same) h))

pub Precedes-self : (rows : List ItemRow) (x : ℕ) → HasNoLoop rows → Precedes rows x x → ⊥
Precedes-self rows x none (inl under) = IsUnder-self rows x none under
Precedes-self rows x none (inr t) =
    ⊎_elim (λ down. ⊎_elim (λ same. omega (arith, t.order)) (λ under. siblings_apart rows t.earlier t.later t.parent none t.parent_earlier t.parent_later under) (cases_below rows _ _ down))
    (λ up. ⊎_elim (λ same. omega (arith, t.order)) (λ under. siblings_apart rows t.later t.earlier t.parent none t.parent_later t.parent_earlier under) (cases_below rows _ _ up))
    (cases_above rows x t.earlier t.later t.below_earlier t.below_later)

-- the later sibling is under whatever the earlier one is under
pub sibling_under : (rows : List ItemRow) (a b p y : ℕ) → parent_of rows a ≡ Some p → parent_of rows b ≡ Some p → IsUnder rows a y → IsUnder rows b y
sibling_under rows a b p y ea eb (q, (eq, h)) =
    let same : q ≡ p = cc in
    (p, (eb, rw (← same) h))

-- two siblings part any two rows below them
pub Parts-siblings : (rows : List ItemRow) (a b p u v : ℕ) → parent_of rows a ≡ Some p → parent_of rows b ≡ Some p → a < b →
    IsBelow rows u a → IsBelow rows v b → Parts rows u v
Parts-siblings rows a b p u v ea eb before below_a below_b = record {
  earlier = a;
  later = b;
  parent = p;
  below_earlier = below_a;
  below_later = below_b;
  parent_earlier = ea;
  parent_later = eb;
  order = before;
}

-- the siblings that part two rows do so
pub Parts-below : {rows : List ItemRow} {u v x y : ℕ} (t : Parts rows u v) → IsBelow rows x t.earlier → IsBelow rows y t.later → Parts rows x y
Parts-below {rows} {u} {v} {x} {y} t = Parts-siblings rows t.earlier t.later t.parent x y t.parent_earlier t.parent_later t.order

pub Precedes-trans : (rows : List ItemRow) (u v w : ℕ) → Precedes rows u v → Precedes rows v w → Precedes rows u w
Precedes-trans rows u v w (inl vu) (inl wv) =
    inl (IsUnder-below rows w v u wv (IsBelow-under rows v u vu))
Precedes-trans rows u v w (inl vu) (inr t) = above (cases_above rows v t.earlier u t.below_earlier (IsBelow-under rows v u vu))
  where
    parted : IsBelow rows u t.earlier → Precedes rows u w
    parted h = inr (Parts-below t h t.below_later)

    above : IsBelow rows t.earlier u ⊎ IsBelow rows u t.earlier → Precedes rows u w
    above (inr h) = parted h
    above (inl h) =
        ⊎_elim (λ same. parted (rw same (IsBelow-self rows u)))
        (λ under. inl (IsUnder-from rows w t.later u t.below_later (sibling_under rows t.earlier t.later t.parent u t.parent_earlier t.parent_later under)))
        (cases_below rows _ _ h)
Precedes-trans rows u v w (inr t) (inl wv) = inr (Parts-below t t.below_earlier (IsBelow-trans rows w v t.later (IsBelow-under rows w v wv) t.below_later))
Precedes-trans rows u v w (inr s) (inr t) = above (cases_above rows v s.later t.earlier s.below_later t.below_earlier)
  where
    by_second : IsBelow rows u t.earlier → Precedes rows u w
    by_second h = inr (Parts-below t h t.below_later)

    by_first : IsBelow rows w s.later → Precedes rows u w
    by_first h = inr (Parts-below s s.below_earlier h)

    level_with : s.later ≡ t.earlier → Precedes rows u w
    level_with same =
        let parents : s.parent ≡ t.parent = let a = s.parent_later in let b = t.parent_earlier in let c = ap (λ n. parent_of rows n) same in cc in
        inr (Parts-siblings rows s.earlier t.later s.parent u w s.parent_earlier (t.parent_later ∙ ap Some (sym parents))
        (omega (arith, s.order, t.order)) s.below_earlier t.below_later)

    above : IsBelow rows s.later t.earlier ⊎ IsBelow rows t.earlier s.later → Precedes rows u w
    above (inl h) =
        ⊎_elim level_with
        (λ under. by_second (IsBelow-trans rows u s.earlier t.earlier s.below_earlier (IsBelow-under rows s.earlier t.earlier
        (sibling_under rows s.later s.earlier s.parent t.earlier s.parent_later s.parent_earlier under))))
        (cases_below rows _ _ h)
    above (inr h) =
        ⊎_elim (λ same. level_with (sym same))
        (λ under. by_first (IsBelow-trans rows w t.later s.later t.below_later (IsBelow-under rows t.later s.later
        (sibling_under rows t.earlier t.later t.parent s.later t.parent_earlier t.parent_later under))))
        (cases_below rows _ _ h)
