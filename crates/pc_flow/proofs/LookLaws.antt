-- How many looks some segments, and all of them, may take.
use Rattle.std.proofs.Common.{◌≡◌, ℕ, ◌+◌, ◌-◌, ◌*◌, ◌≤◌, length, refl, ◌∙◌, ap, arith}
use Rattle.std.proofs.Math.Nat.{mul-add, mul-le-mul_left}
use Rattle.pc_crash.specs.Priced.{PricedNetwork}
use Rattle.pc_flow.specs.search.Labelling.{slopes_in}
use Rattle.pc_flow.specs.Courses.{Course, lower_of, IsLevel, IsSameCurve, IsFurther, most_looks, all_looks}

pub same-stays : (c : Course) → IsSameCurve c c
same-stays c = record { net = refl; home = refl; longest = refl; shortest = refl }

pub same-joins : (c d e : Course) → IsSameCurve c d → IsSameCurve d e → IsSameCurve c e
same-joins c d e first second = record {
  net = second.net ∙ first.net;
  home = second.home ∙ first.home;
  longest = second.longest ∙ first.longest;
  shortest = second.shortest ∙ first.shortest;
}

pub further-stays : (c : Course) → IsFurther c c
further-stays c = record { steeper = omega arith; lower = omega arith }

pub further-joins : (c d e : Course) → IsFurther c d → IsFurther d e → IsFurther c e
further-joins c d e first second = record {
  steeper = omega (arith, first.steeper, second.steeper);
  lower = omega (arith, first.lower, second.lower);
}

pub looks-none : (c : Course) → most_looks c c ≡ 0
looks-none c =
    let nothing : (c.slope - c.slope) + (lower_of c - lower_of c) ≡ 0 = omega arith in
    omega (arith, ap (λ n. 4 * length c.net.network.arcs * n) nothing)

-- the looks from one to the next add up
pub looks-add : (c d e : Course) → IsSameCurve c d → IsFurther c d → IsFurther d e → most_looks c d + most_looks d e ≡ most_looks c e
looks-add c d e one first second =
    let m = 4 * length c.net.network.arcs in
    let x = (d.slope - c.slope) + (lower_of c - lower_of d) in
    let y = (e.slope - d.slope) + (lower_of d - lower_of e) in
    let all : (e.slope - c.slope) + (lower_of c - lower_of e) ≡ x + y =
    omega (arith, first.steeper, second.steeper, first.lower, second.lower) in
    let same : 4 * length d.net.network.arcs * y ≡ m * y = ap (λ (n : PricedNetwork). 4 * length n.network.arcs * y) one.net in
    omega (arith, same, ap (λ n. m * n) all, mul-add m x y)

pub looks-join : (c d e : Course) → IsSameCurve c d → IsFurther c d → IsFurther d e → (before between after : ℕ)
    → between ≤ before + most_looks c d → after ≤ between + most_looks d e → after ≤ before + most_looks c e
looks-join c d e one first second before between after counted more = omega (arith, counted, more, looks-add c d e one first second)

-- from the top they are no more than the complete curve may take
pub looks-most : (c d : Course) → IsLevel c → IsSameCurve c d → d.slope ≤ slopes_in d.net → d.shortest ≤ lower_of d → most_looks c d ≤ all_looks c
looks-most c d level same gentle within =
    let at : lower_of c ≡ c.longest = omega (arith, level.upper, level.fall) in
    let slopes : slopes_in d.net ≡ slopes_in c.net = ap slopes_in same.net in
    mul-le-mul_left (4 * length c.net.network.arcs)
    (let most : (d.slope - c.slope) + (lower_of c - lower_of d) ≤ slopes_in c.net + (c.longest - c.shortest) =
    omega (arith, gentle, slopes, at, within, same.shortest) in most)
