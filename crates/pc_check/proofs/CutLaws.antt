-- What an activity adds to the cut, over the list of its knees.
use Rattle.std.proofs.Common.{◌≡◌, ℕ, ◌+◌, Bool, List, refl, ap, ◌∙◌}
use Rattle.std.specs.Prelude.{nat_lt, if◌then◌else◌}
use Rattle.pc_model.specs.declared.Knee.{Knee}
use Rattle.pc_model.specs.Sums.{sum_to}
use Rattle.pc_model.specs.Schedule.{crash_of}
use Rattle.pc_model.specs.Cost.{Knees}
use Rattle.pc_laws.specs.Segment.{Segment}
use Rattle.pc_crash.specs.inside.KneeLists.{AreKneesOf}
use Rattle.pc_crash.specs.Priced.{PricedNetwork, knees_in}
use Rattle.pc_check.specs.declared.gaps.Crossing.{Crossing}
use Rattle.pc_check.specs.inside.Crossings.{IsCrossing}
use Rattle.pc_check.specs.Known.{some_below}
use Rattle.pc_check.specs.inside.KneeTests.{knee_rises_over, stops_at_knee_over, stops_over}
use Rattle.pc_check.specs.Segments.{stops_at_knee_in, stops_in}
use Rattle.pc_check.proofs.BelowLaws.{some_below-same}
use Rattle.pc_check.proofs.KneeLaws.{knee_rises_over-list, some-list}

-- the rises of the knees above a gap, where they count
pub rises_if-list : (knees : Knees) (a : ℕ) (list : List Knee) → AreKneesOf knees a list → (counts is : Bool) (head h tail t : ℕ) → counts ≡ is → head ≡ h → tail ≡ t
    → (if counts then knee_rises_over head tail list else 0) ≡ (if is then sum_to (knees.count a) (λ k. if nat_lt h (t + knees.knee a k) then knees.rise a k else 0) else 0)
rises_if-list knees a list are counts is head h tail t same_counts same_head same_tail =
    ap (λ c. if c then knee_rises_over head tail list else 0) same_counts
    ∙ ap (λ x. if is then x else 0) (
    ap (λ x. knee_rises_over x tail list) same_head
    ∙ ap (λ x. knee_rises_over h x list) same_tail
    ∙ knee_rises_over-list knees a list are h t)

-- whether the activity stops
pub stops-list : {seg : Segment} {crossing : Crossing} (net : PricedNetwork) (a : ℕ) (list : List Knee) → AreKneesOf (knees_in net) a list →
    IsCrossing net.network.arcs seg a crossing → stops_over crossing (crash_of net.terms a) list ≡ stops_in net seg a
stops-list {seg} {crossing} net a list are is =
    let at_knee = some-list (knees_in net) a list are (stops_at_knee_over crossing) in
    let same : some_below ((knees_in net).count a) (λ k. stops_at_knee_over crossing ((knees_in net).knee a k)) ≡ some_below ((knees_in net).count a) (stops_at_knee_in net seg a) =
    some_below-same ((knees_in net).count a) _ _ (λ k lt. rw (is.upper_head, is.upper_tail, is.lower_head, is.lower_tail, is.forward, is.backward) refl) in
    rw (at_knee, same, is.lower_head, is.lower_tail, is.forward) refl
