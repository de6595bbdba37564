-- Laws of gaps while some events fall together: a gap that is linear needs only its two ends.
use Rattle.std.proofs.Common.{◌≡◌, ℕ, zero, ◌+◌, ◌<◌, ◌≤◌, Bool, true, false, if◌then◌else◌, List, [], ◌∷◌, length, refl, sym, subst, arith}
use Rattle.pc_model.specs.declared.Arc.{Arc}
use Rattle.pc_model.specs.declared.Term.{Term}
use Rattle.pc_model.specs.Walk.{from_of, to_of, IsWalk}
use Rattle.pc_model.specs.Cost.{Knees}
use Rattle.pc_laws.specs.Tight.{IsTight}
use Rattle.pc_laws.specs.Segment.{fall_of}

-- the side of a gap that grows by the fall where an event moves
abbrev pub side : Bool → ℕ → ℕ → ℕ
side moves time fall = time + (if moves then fall else 0)

-- an event that falls by 0 does not fall
pub fall_of-zero : (moves : Bool) → (if moves then zero else zero) ≡ zero
fall_of-zero true = refl
fall_of-zero false = refl

-- an activity that is tight at a wider gap and at a narrower one is so at each gap between them
tight_amid : (terms : List Term) (knees : Knees) (a tail head : ℕ) (flow : ℕ → ℕ) (g : ℕ) {wide_tail wide_head narrow_tail narrow_head : ℕ} →
    IsTight terms knees a wide_tail wide_head flow g → IsTight terms knees a narrow_tail narrow_head flow g →
    head + wide_tail ≤ wide_head + tail → narrow_head + tail ≤ head + narrow_tail → IsTight terms knees a tail head flow g
tight_amid terms knees a tail head flow g wide narrow within beyond = record {
  room = omega (arith, narrow.room);
  slack = record {
    at_knees = λ k inside. record {
      above = λ h. (wide.slack.at_knees k inside).above (omega arith);
      below = λ h. (narrow.slack.at_knees k inside).below (omega arith);
    };
    above_crash = λ h. wide.slack.above_crash (omega arith);
  };
}

-- whether an activity is tight depends only on its gap
pub tight_shifted : (terms : List Term) (knees : Knees) (a tail head tail' head' : ℕ) (flow : ℕ → ℕ) (g : ℕ) → tail + head' ≡ head + tail' →
    IsTight terms knees a tail head flow g → IsTight terms knees a tail' head' flow g
tight_shifted terms knees a tail head tail' head' flow g same p = tight_amid terms knees a tail' head' flow g p p (omega arith) (omega arith)

-- f and t say whether the beginning and the ending event move, u and v are their times, s is how far they fall in all,
-- and x how far they have fallen: an activity that is tight at both ends is so between them
pub tight_between : (f t : Bool) (terms : List Term) (knees : Knees) (a u v : ℕ) (flow : ℕ → ℕ) (g s x : ℕ) → x ≤ s →
    IsTight terms knees a (side t u 0) (side f v 0) flow g → IsTight terms knees a (side t u s) (side f v s) flow g →
    IsTight terms knees a (side t u x) (side f v x) flow g
tight_between true true terms knees a u v flow g s x h p q = tight_amid terms knees a (u + x) (v + x) flow g p q (omega arith) (omega arith)
tight_between true false terms knees a u v flow g s x h p q = tight_amid terms knees a (u + 0) (v + x) flow g q p (omega arith) (omega arith)
tight_between false true terms knees a u v flow g s x h p q = tight_amid terms knees a (u + x) (v + 0) flow g p q (omega arith) (omega arith)
tight_between false false terms knees a u v flow g s x h p q = tight_amid terms knees a (u + 0) (v + 0) flow g p q (omega arith) (omega arith)

-- where no gap is negative after the fall, no event on a walk falls below 0, if it begins at one that does not
pub falls_along : (arcs : List Arc) (time : ℕ → ℕ) (moves : ℕ → Bool) (x : ℕ) →
    ((a : ℕ) → a < length arcs → time (from_of arcs a) + fall_of moves x (to_of arcs a) ≤ time (to_of arcs a) + fall_of moves x (from_of arcs a)) →
    (walk : List ℕ) (e f : ℕ) → IsWalk arcs e walk f → fall_of moves x e ≤ time e → fall_of moves x f ≤ time f
falls_along arcs time moves x fits [] e f is start = subst (λ (y : ℕ). fall_of moves x y ≤ time y) is start
falls_along arcs time moves x fits (a ∷ walk) e f (inside, from, rest) start =
    let begins : fall_of moves x (from_of arcs a) ≤ time (from_of arcs a) = subst (λ (y : ℕ). fall_of moves x y ≤ time y) (sym from) start in
    falls_along arcs time moves x fits walk (to_of arcs a) f rest (omega (arith, fits a inside))
