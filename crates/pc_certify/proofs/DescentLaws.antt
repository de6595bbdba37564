-- A solver on its way down: the segments that it gave so far are a front of the curve, and at its end all of it.
use Rattle.std.proofs.Common.{◌≡◌, ℕ, ◌<◌, Bool, true, false, List, [], ◌∷◌, ◌++◌, length, refl, sym, ap, ◌∙◌, subst, inl, inr, arith}
use Rattle.std.specs.Prelude.{if◌then◌else◌, ◌+◌, ◌-◌, ◌≤◌}
use Rattle.std.proofs.lemmas.Bool.{cases_Bool, cases_lt}
use Rattle.pc_model.specs.Schedule.{normal_of, IsAllNormalLength, IsAllCrashLength}
use Rattle.pc_laws.specs.Segment.{Segment, IsSegment}
use Rattle.pc_laws.specs.Cover.{IsFront}
use Rattle.pc_laws.proofs.Segments.Covering.{front_begins, front_grows}
use Rattle.pc_crash.specs.Priced.{PricedNetwork, knees_in}
use Rattle.pc_flow.specs.Courses.{Course, upper_of, lower_of, IsSameCurve}
use Rattle.pc_flow.specs.inside.Courses.{present, HasEnded, IsNext, HasBoundedNumbers}
use Rattle.pc_cert.specs.Document.{HasSmallNumbers}
use Rattle.pc_certify.specs.inside.Descent.{IsAlong, IsAtTop, CanBeSpelled}
use Rattle.pc_cert.specs.Text.{text_of}
use Rattle.pc_edges.specs.inside.page.Puts.{Desk, Adds}
use Rattle.pc_certify.specs.Complete.{begun_lines}

-- the segments are a front of the curve down to the lower end of the present one; where this is above the all-crash length,
-- it is below the all-normal length
pub record AreFront (net : PricedNetwork) (course : Course) (segments : List Segment) : Type 0 where
  pub front : IsFront net.network net.terms (knees_in net) segments course.longest (lower_of course)
  pub within : course.shortest ≤ lower_of course
  pub apart : course.shortest < lower_of course → lower_of course < course.longest

-- these are the segments that a course along the curve gave so far
pub record HasGiven (net : PricedNetwork) (course : Course) (segments : List Segment) : Type 0 where
  pub along : IsAlong net course
  pub none : course.given ≡ false → segments ≡ []
  pub top : course.given ≡ false → lower_of course ≡ course.longest
  pub front : course.given ≡ true → AreFront net course segments

-- no more segments are still to come than there are units down to the all-crash length, and the first
abbrev pub still_to_come : Course → ℕ
still_to_come course = (if course.given then 0 else 1) + (lower_of course - course.shortest)

-- a certificate's head and the segments that the course gave so far were put on a page
pub record IsPut (net : PricedNetwork) (normal crash : List ℕ) (course : Course) (old new : Desk) : Type 0 where
  pub segments : List Segment
  pub given : HasGiven net course segments
  pub text : Adds old new (text_of (begun_lines net normal crash segments))
  pub fit : CanBeSpelled net segments

-- numbers below 10 ^ 18 can be written
small-numbers : (net : PricedNetwork) (seg : Segment) → HasBoundedNumbers net seg → HasSmallNumbers net seg
small-numbers net seg small = record {
  upper = small.upper;
  lower = small.lower;
  cost = small.cost;
  slope = small.slope;
  times = small.time;
  durations = small.duration;
  flows = small.flow;
  beside = small.beside;
}

-- the number for the first segment
abbrev first : Bool → ℕ
first b = if b then 0 else 1

-- before the first segment
pub given-none : (net : PricedNetwork) (course : Course) → IsAtTop net course → HasGiven net course []
given-none net course top = record {
  along = top.along;
  none = λ none. refl;
  top = λ none. top.top;
  front = λ given. let both : true ≡ false = sym given ∙ top.none in cc;
}

module _ (net : PricedNetwork) (c d : Course) (segments : List Segment) (has : HasGiven net c segments) (more : HasEnded c → ⊥) (same : IsSameCurve c d) (next : IsNext c d) where
  along-next : IsAlong net d
  along-next = record {
    same_net = same.net ∙ has.along.same_net;
    longest = subst (IsAllNormalLength net.network net.terms) (sym same.longest) has.along.longest;
    shortest = subst (IsAllCrashLength net.network net.terms) (sym same.shortest) has.along.shortest;
  }

  whole-next : IsSegment net.network net.terms (knees_in net) (present d)
  whole-next = subst (λ (n : PricedNetwork). IsSegment n.network n.terms (knees_in n) (present d)) (along-next.same_net) next.whole

  -- its numbers can be written
  pub small-next : HasSmallNumbers net (present d)
  small-next = small-numbers net (present d) (subst (λ (n : PricedNetwork). HasBoundedNumbers n (present d)) along-next.same_net next.small)

  normal-next : c.given ≡ false → (a : ℕ) → a < length net.network.arcs → (present d).duration a ≡ normal_of net.terms a
  normal-next none = subst (λ (n : PricedNetwork). (a : ℕ) → a < length n.network.arcs → (present d).duration a ≡ normal_of n.terms a) has.along.same_net (next.normal none)

  -- the first segment
  front-first : c.given ≡ false → AreFront net d (segments ++ present d ∷ [])
  front-first none =
      let at = next.first none in
      let one = front_begins net.network net.terms (knees_in net) (present d) whole-next (normal-next none)
      (subst (λ n. IsAllNormalLength net.network net.terms n) (sym at) has.along.longest).attained in
      let high : upper_of d ≡ d.longest = at ∙ sym same.longest in
      record {
        front = subst (λ (list : List Segment). IsFront net.network net.terms (knees_in net) (list ++ present d ∷ []) d.longest (lower_of d)) (sym (has.none none))
            (subst (λ n. IsFront net.network net.terms (knees_in net) (present d ∷ []) n (lower_of d)) high one);
        within = omega (arith, next.within, same.shortest);
        apart = λ above. omega (arith, above, same.shortest, high, at, next.long (omega (arith, above, same.shortest)));
      }

  lower-above : c.given ≡ true → c.shortest < lower_of c
  lower-above given =
      elim (cases_lt c.shortest (lower_of c)) [
        | inl above ↦ above
        | inr at ↦ absurd (more (record { given = given; lowest = omega (arith, at, (has.front given).within) }))
      ]

  -- a later one
  front-later : c.given ≡ true → AreFront net d (segments ++ present d ∷ [])
  front-later given =
      let old = has.front given in
      let above = lower-above given in
      let at = next.joined given in
      let long = next.long (omega (arith, above, at)) in
      let more_of = front_grows net.network net.terms (knees_in net) segments (present d) c.longest (lower_of c) old.front (old.apart above) whole-next at long in
      record {
        front = subst (λ n. IsFront net.network net.terms (knees_in net) (segments ++ present d ∷ []) n (lower_of d)) (sym same.longest) more_of;
        within = omega (arith, next.within, same.shortest);
        apart = λ more_above. omega (arith, long, at, old.apart above, same.longest);
      }

  -- one segment more
  pub given-more : HasGiven net d (segments ++ present d ∷ [])
  given-more = record {
    along = along-next;
    none = λ none. let both : true ≡ false = sym next.given ∙ none in cc;
    top = λ none. let both : true ≡ false = sym next.given ∙ none in cc;
    front = λ given. elim (cases_Bool c.given) [
      | inl given_before ↦ front-later given_before
      | inr none_before ↦ front-first none_before
    ];
  }

  -- fewer are still to come
  pub come-less : still_to_come d < still_to_come c
  come-less =
      let last : first d.given ≡ first true = ap first next.given in
      elim (cases_Bool c.given) [
        | inl given ↦
            let one : first c.given ≡ first true = ap first given in
            let above = lower-above given in
            let at = next.joined given in
            omega (arith, last, one, above, at, next.long (omega (arith, above, at)), same.shortest)
        | inr none ↦
            let one : first c.given ≡ first false = ap first none in
            omega (arith, last, one, next.first none, has.top none, same.shortest)
      ]

-- if the solver has ended, the front reaches down to the all-crash length
pub given-all : (net : PricedNetwork) (c : Course) (segments : List Segment) → HasGiven net c segments → HasEnded c
    → IsFront net.network net.terms (knees_in net) segments c.longest c.shortest
given-all net c segments has ended =
    subst (λ n. IsFront net.network net.terms (knees_in net) segments c.longest n) ended.lowest (has.front ended.given).front
