-- Bounds on the times of events, and the latest times from the greatest sums to the end.
use Rattle.std.proofs.Common.{◌≡◌, ℕ, ◌*◌, ◌<◌, ◌≤◌, ℤ, pos, ◌-ℤ◌, List, map, take, ◌++◌, [], ◌∷◌, ◌+◌, length, slice_index, slice_index_or, sym, ◌∙◌, ap, arith}
use Rattle.std.specs.List.{All}
use Rattle.std.proofs.lemmas.List.Elements.{All-from_get_or, All-map}
use Rattle.std.proofs.lemmas.Int.{ints}
use Rattle.std.proofs.lemmas.List.{length-map, get_or-map, map-append, take_more, take_all}
use Rattle.std.proofs.Math.Nat.{mul-le-mul_right}
use Rattle.pc_model.specs.Network.{Network}
use Rattle.pc_times.specs.Times.{AreEarly}
use Rattle.pc_times.specs.inside.Times.{AreTails}
use Rattle.pc_times.specs.Late.{AreLate}
use Rattle.pc_times.specs.inside.Late.{IsInTimeFor}
use Rattle.pc_times.specs.inside.Passes.{HasBoundedWalks}
use Rattle.pc_times.specs.declared.TheConstants.{MAX_ACTIVITY_LENGTH, MAX_TIME}

-- the longest walk that a network can have takes the greatest time
greatest_time : (net : Network) (lengths : List ℕ) → HasBoundedWalks net lengths → net.events * MAX_ACTIVITY_LENGTH ≤ MAX_TIME
greatest_time net lengths walks = omega (arith, mul-le-mul_right MAX_ACTIVITY_LENGTH walks.few)

-- no event's time is above the greatest one
pub early_limit : (net : Network) (lengths times : List ℕ) → HasBoundedWalks net lengths → AreEarly net lengths times → All (λ time. time ≤ MAX_TIME) times
early_limit net lengths times walks early =
    All-from_get_or (λ time. time ≤ MAX_TIME) times 0 (λ e below. let in_net : e < net.events = omega (arith, early.one_each) in
    omega (arith, greatest_time net lengths walks, walks.fits _ e _ in_net (early.each e in_net).attained))

-- nor is a sum over a walk to the end
pub tails_limit : (net : Network) (lengths tails : List ℕ) → HasBoundedWalks net lengths → AreTails net lengths tails → All (λ tail. tail ≤ MAX_TIME) tails
tails_limit net lengths tails walks late =
    All-from_get_or (λ tail. tail ≤ MAX_TIME) tails 0 (λ e below. let in_net : e < net.events = omega (arith, late.one_each) in
    omega (arith, greatest_time net lengths walks, walks.fits e _ _ walks.ranged.end_in (late.each e in_net).attained))

-- the time to be met less the sums to the end are the latest times
pub late_from_tails : (net : Network) (lengths tails : List ℕ) (by : ℤ) → AreTails net lengths tails → AreLate net lengths by (map (λ n. by -ℤ pos n) tails)
late_from_tails net lengths tails by late = record {
  one_each = length-map tails (λ n. by -ℤ pos n) ∙ late.one_each;
  each = λ e below. (slice_index tails e, late.each e below, get_or-map (λ n. by -ℤ pos n) tails e 0 (pos 0) (omega (arith, late.one_each)));
}

-- and they are within what a project can take of it
pub late_limit : (tails : List ℕ) (by : ℤ) → All (λ tail. tail ≤ MAX_TIME) tails → All (IsInTimeFor by) (map (λ n. by -ℤ pos n) tails)
late_limit tails by small = All-map (IsInTimeFor by) (λ n. by -ℤ pos n) tails
    (λ k d below. let fits : slice_index_or tails k d ≤ MAX_TIME = small k d below in (omega (arith, ints), omega (arith, ints)))

-- one time more, that of the next event
pub late_more : (by : ℤ) (tails : List ℕ) (i : ℕ) (times more : List ℤ) (t : ℤ) → i < length tails →
    times ≡ map (λ n. by -ℤ pos n) (take i tails) → more ≡ times ++ t ∷ [] → t ≡ by -ℤ pos (slice_index tails i) →
    more ≡ map (λ n. by -ℤ pos n) (take (i + 1) tails)
late_more by tails i times more t below so_far pushed is =
    pushed
    ∙ ap (λ front. front ++ t ∷ []) so_far
    ∙ ap (λ x. map (λ n. by -ℤ pos n) (take i tails) ++ x ∷ []) is
    ∙ sym (ap (map (λ n. by -ℤ pos n)) (take_more tails i 0 below) ∙ map-append (λ n. by -ℤ pos n) (take i tails) (slice_index tails i ∷ []))

-- after the last event there is one for each
pub late_all : (by same : ℤ) (tails seen : List ℕ) (i : ℕ) (times : List ℤ) → same ≡ by → seen ≡ tails → length seen ≤ i →
    times ≡ map (λ n. same -ℤ pos n) (take i seen) → times ≡ map (λ n. by -ℤ pos n) tails
late_all by same tails seen i times is all_seen all so_far =
    so_far
    ∙ ap (map (λ n. same -ℤ pos n)) (take_all i seen all ∙ all_seen)
    ∙ ap (λ (z : ℤ). map (λ n. z -ℤ pos n) tails) is
