-- How many breakpoints segments have that join one another.
use Rattle.std.proofs.Common.{◌≡◌, ℕ, ◌+◌, ◌<◌, ◌≤◌, ◌==◌, nat_lt, Bool, true, false, List, [], ◌∷◌, ◌++◌, length, refl, ap, ◌∙◌, arith}
use Rattle.std.specs.Prelude.{if◌then◌else◌}
use Rattle.std.proofs.lemmas.Bool.{lt-ltb, le-ltb, cond-true, cond-false}
use Rattle.std.proofs.lemmas.List.Elements.{recursion_from_All}
use Rattle.pc_laws.specs.Segment.{Segment}
use Rattle.pc_laws.specs.Cover.{Joins, IsLong, IsLongUnlessAlone}
use Rattle.pc_laws.specs.Curve.{Breakpoint, upper_point, lower_point, corners_after, corners_of, breakpoints_of}
use Rattle.pc_laws.proofs.Segments.Covering.{all-long}

-- the slope of the last of several segments
abbrev pub last-slope : Segment → List Segment → ℕ
last-slope seg [] = seg.slope
last-slope seg (next ∷ rest) = last-slope next rest

-- a point more, where a test fails, on both sides
on_both : (same : Bool) (point : Breakpoint) (xs ys : List Breakpoint) (n : ℕ) → length xs ≡ length ys + n
    → length (if same then xs else point ∷ xs) ≡ length (if same then ys else point ∷ ys) + n
on_both true point xs ys n more = more
on_both false point xs ys n more = omega (arith, more)

one_or_none : (same : Bool) (point : Breakpoint) → length (if same then [] else point ∷ []) ≡ (if same then 0 else 1)
one_or_none true point = refl
one_or_none false point = refl

abbrev no_end : Segment → List Breakpoint
no_end last = []

abbrev low_end : Segment → List Breakpoint
low_end last = lower_point last ∷ []

-- a segment more has a corner where its slope is not the last one
after-push : (last : Segment) (rest : List Segment) (seg : Segment)
    → length (corners_after no_end last (rest ++ seg ∷ [])) ≡ length (corners_after no_end last rest) + (if last-slope last rest == seg.slope then 0 else 1)
after-push last [] seg = omega (arith, one_or_none (last.slope == seg.slope) (upper_point seg))
after-push last (next ∷ rest) seg =
    on_both (last.slope == next.slope) (upper_point next) (corners_after no_end next (rest ++ seg ∷ [])) (corners_after no_end next rest)
    (if last-slope next rest == seg.slope then 0 else 1) (after-push next rest seg)

pub corners-push : (first : Segment) (rest : List Segment) (seg : Segment)
    → length (corners_of (first ∷ (rest ++ seg ∷ []))) ≡ length (corners_of (first ∷ rest)) + (if last-slope first rest == seg.slope then 0 else 1)
corners-push first rest seg = omega (arith, after-push first rest seg)

pub slope-push : (first : Segment) (rest : List Segment) (seg : Segment) → last-slope first (rest ++ seg ∷ []) ≡ seg.slope
slope-push first [] seg = refl
slope-push first (next ∷ rest) seg = slope-push next rest seg

-- the lower end is a point more
after-end : (last : Segment) (rest : List Segment) → length (corners_after low_end last rest) ≡ length (corners_after no_end last rest) + 1
after-end last [] = refl
after-end last (next ∷ rest) =
    on_both (last.slope == next.slope) (upper_point next) (corners_after low_end next rest) (corners_after no_end next rest) 1 (after-end next rest)

-- the first of segments that cover more than one length is long
first-long : (first : Segment) (rest : List Segment) (high low : ℕ) → Joins high (first ∷ rest) low → IsLongUnlessAlone (first ∷ rest) → low < high
    → first.lower < first.upper
first-long first rest high low joined long below =
    (recursion_from_All IsLong (first ∷ rest) (all-long (first ∷ rest) high low joined below long)).0

-- all breakpoints: the corners, and the lower end of a range of more than one length
pub all-points : (first : Segment) (rest : List Segment) (high low : ℕ) → Joins high (first ∷ rest) low → IsLongUnlessAlone (first ∷ rest) → low < high
    → length (breakpoints_of (first ∷ rest)) ≡ length (corners_of (first ∷ rest)) + 1
all-points first rest high low joined long below =
    ap (λ (points : List Breakpoint). length points)
    (cond-true (nat_lt first.lower first.upper) (upper_point first ∷ corners_after low_end first rest) (lower_point first ∷ [])
    (lt-ltb first.lower first.upper (first-long first rest high low joined long below)))
    ∙ omega (arith, after-end first rest)

-- a range of one length has one
pub one-point : (first : Segment) (high low : ℕ) → Joins high (first ∷ []) low → high ≤ low → length (breakpoints_of (first ∷ [])) ≡ 1
one-point first high low (upper, lower) at =
    ap (λ (points : List Breakpoint). length points)
    (cond-false (nat_lt first.lower first.upper) (upper_point first ∷ corners_after low_end first []) (lower_point first ∷ [])
    (le-ltb first.lower first.upper (omega (arith, upper, lower, at))))
