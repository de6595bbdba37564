-- The basic laws of walks: how they are joined and split, the sums over them, and what bounds both.
use Rattle.std.proofs.Common.{◌≡◌, ℕ, ◌+◌, ◌*◌, ◌<◌, ◌≤◌, zero, suc, List, [], ◌∷◌, ◌++◌, length, slice_index, take, drop, refl, sym, ap, subst, ◌⊎◌, inl, inr, ⊎_elim, arith}
use Rattle.std.proofs.lemmas.Bool.{cases_order}
use Rattle.pc_model.specs.declared.Arc.{Arc}
use Rattle.pc_model.specs.Greatest.{IsGreatest, IsFirst}
use Rattle.pc_model.specs.Walk.{from_of, to_of, IsWalk, walk_sum}

-- a walk and, from where it ends, another are one walk
pub IsWalk-append : (arcs : List Arc) (e m f : ℕ) (walk rest : List ℕ) → IsWalk arcs e walk m → IsWalk arcs m rest f → IsWalk arcs e (walk ++ rest) f
IsWalk-append arcs e m f [] rest front back = subst (λ (x : ℕ). IsWalk arcs x rest f) (sym front) back
IsWalk-append arcs e m f (a ∷ walk) rest front back =
    (front.0, front.1, IsWalk-append arcs (to_of arcs a) m f walk rest front.2 back)

-- a walk is continued by an activity that begins where it ends
pub IsWalk-push : (arcs : List Arc) (e m : ℕ) (walk : List ℕ) (a : ℕ) → IsWalk arcs e walk m → a < length arcs → from_of arcs a ≡ m → IsWalk arcs e (walk ++ a ∷ []) (to_of arcs a)
IsWalk-push arcs e m walk a front below begins =
    IsWalk-append arcs e m (to_of arcs a) walk (a ∷ []) front (below, begins, refl)

-- the sum over two walks, one after the other, is the sum of theirs
pub walk_sum-append : (lengths walk rest : List ℕ) → walk_sum lengths (walk ++ rest) ≡ walk_sum lengths walk + walk_sum lengths rest
walk_sum-append lengths [] rest = omega arith
walk_sum-append lengths (a ∷ walk) rest = omega (arith, walk_sum-append lengths walk rest)

-- one more activity at a walk's end adds its length
pub walk_sum-push : (lengths walk : List ℕ) (a : ℕ) → walk_sum lengths (walk ++ a ∷ []) ≡ walk_sum lengths walk + slice_index lengths a
walk_sum-push lengths walk a = omega (arith, walk_sum-append lengths walk (a ∷ []))

-- a walk of two parts has an event where one ends and the other begins
pub split_walk : (arcs : List Arc) (e f : ℕ) (walk rest : List ℕ) → IsWalk arcs e (walk ++ rest) f → (m : ℕ) × IsWalk arcs e walk m × IsWalk arcs m rest f
split_walk arcs e f [] rest whole = (e, refl, whole)
split_walk arcs e f (a ∷ walk) rest whole =
    let (m, front, back) = split_walk arcs (to_of arcs a) f walk rest whole.2 in
    (m, (whole.0, whole.1, front), back)

-- a walk is at some event after its first k activities, and continues from there
pub split_walk_at : (arcs : List Arc) (e f k : ℕ) (walk : List ℕ) → IsWalk arcs e walk f → (m : ℕ) × IsWalk arcs e (take k walk) m × IsWalk arcs m (drop k walk) f
split_walk_at arcs e f zero walk whole = (e, refl, whole)
split_walk_at arcs e f (suc k) [] whole = (e, refl, whole)
split_walk_at arcs e f (suc k) (a ∷ walk) whole =
    let (m, front, back) = split_walk_at arcs (to_of arcs a) f k walk whole.2 in
    (m, (whole.0, whole.1, front), back)

-- a walk is empty and stays where it began, or it has a last activity
pub last_of_walk : (arcs : List Arc) (e f : ℕ) (walk : List ℕ) → IsWalk arcs e walk f →
    ((walk ≡ []) × (e ≡ f)) ⊎ ((front : List ℕ) × (a : ℕ) × (walk ≡ front ++ a ∷ []) × (a < length arcs)
    × IsWalk arcs e front (from_of arcs a) × (to_of arcs a ≡ f))
last_of_walk arcs e f [] walked = inl (refl, walked)
last_of_walk arcs e f (a ∷ walk) walked =
    ⊎_elim (λ (empty, ends). inr ([], a, ap (λ (w : List ℕ). a ∷ w) empty, walked.0, sym walked.1, ends))
    (λ (front, b, is, below, before, ends). inr (a ∷ front, b, ap (λ (w : List ℕ). a ∷ w) is, below, (walked.0, walked.1, before), ends))
    (last_of_walk arcs (to_of arcs a) f walk walked.2)

-- times that leave each activity its length between its two events rise along a walk by the walk's sum at least
pub times_bound_walk : (arcs : List Arc) (lengths : List ℕ) (times : ℕ → ℕ) →
    ((a : ℕ) → a < length arcs → times (from_of arcs a) + slice_index lengths a ≤ times (to_of arcs a)) → (e f : ℕ) (walk : List ℕ) →
    IsWalk arcs e walk f → times e + walk_sum lengths walk ≤ times f
times_bound_walk arcs lengths times fits e f [] walked = omega (arith, ap times walked)
times_bound_walk arcs lengths times fits e f (a ∷ walk) walked =
    omega (arith, fits a walked.0, ap times walked.1, times_bound_walk arcs lengths times fits (to_of arcs a) f walk walked.2)

-- there is one greatest number at most
pub greatest_unique : (P : ℕ → Type 0) (m n : ℕ) → IsGreatest P m → IsGreatest P n → m ≡ n
greatest_unique P m n by_m by_n = omega (arith, by_m.bound n by_n.attained, by_n.bound m by_m.attained)

-- there is one first number at most
pub first_unique : (P : ℕ → Type 0) (a b : ℕ) → IsFirst P a → IsFirst P b → a ≡ b
first_unique P a b first_a first_b =
    ⊎_elim (λ same. same) (λ apart. ⊎_elim (λ lt. absurd (first_b.first a lt first_a.holds)) (λ gt. absurd (first_a.first b gt first_b.holds)) apart) (cases_order a b)

-- where no activity is longer than a limit, a walk's sum is at most the limit for each of its activities
pub walk_sum-bound : (arcs : List Arc) (lengths : List ℕ) (limit : ℕ) → ((a : ℕ) → a < length arcs → slice_index lengths a ≤ limit) →
    (e f : ℕ) (walk : List ℕ) → IsWalk arcs e walk f → walk_sum lengths walk ≤ length walk * limit
walk_sum-bound arcs lengths limit small e f [] walked = omega arith
walk_sum-bound arcs lengths limit small e f (a ∷ walk) walked =
    omega (arith, small a walked.0, walk_sum-bound arcs lengths limit small (to_of arcs a) f walk walked.2)
