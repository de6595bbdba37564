-- The way from one segment to the next: the events without a label fall to its lower end, and from there, above the
-- all-crash length, the flow is raised and the next fall found.
use Rattle.std.proofs.Common.{◌≡◌, ℕ, ◌+◌, ◌-◌, ◌*◌, ◌^◌, ◌<◌, ◌≤◌, Bool, true, false, length, refl, sym, ◌∙◌, ap, subst, inl, inr, arith}
use Rattle.std.specs.Prelude.{◌↔◌, IsTrue, min}
use Rattle.std.proofs.lemmas.Bool.{cases_Bool, cases_lt, eq-eqb, ne_eqb, cond-true, cond-false}
use Rattle.pc_model.specs.Walk.{from_of, to_of}
use Rattle.pc_model.specs.Schedule.{normal_of, lesser_of}
use Rattle.pc_model.specs.Cost.{cost_of}
use Rattle.pc_model.proofs.Costs.NormalCost.{cost_of-same}
use Rattle.pc_laws.specs.Segment.{fall_of}
use Rattle.pc_crash.specs.Priced.{PricedNetwork, knees_in}
use Rattle.pc_flow.specs.board.Sheets.{Sheet, time_of, rank_of, flow_of}
use Rattle.pc_flow.specs.inside.search.Growing.{AreDueLater}
use Rattle.pc_flow.specs.inside.search.Choosing.{moving}
use Rattle.pc_flow.specs.search.Labelling.{length_at}
use Rattle.pc_flow.specs.inside.search.Labelling.{slope_at, IsBetweenLabellings, HasFallen}
use Rattle.pc_flow.specs.Courses.{Course, upper_of, lower_of, IsLevel, IsSameCurve, IsFurther, most_looks}
use Rattle.pc_flow.specs.inside.Courses.{IsOnCourse, HasEnded, IsNext}
use Rattle.pc_flow.specs.inside.Descents.{HasDescended, HasSearched}
use Rattle.pc_flow.proofs.CourseLaws.{fall-within, lower-above, fall-some, whole, fallen_times, cost-fallen, cost-still, slope-small, small}

-- where the test for the end says no, it is not there
pub not_ended : (r : Bool) (c : Course) → IsTrue r ↔ HasEnded c → r ≡ false → HasEnded c → ⊥
not_ended r c decides is ended = let same : true ≡ false = sym (decides.1 ended) ∙ is in cc

-- durations between times that are alike
lesser-alike : (net : PricedNetwork) (times later : ℕ → ℕ) (a : ℕ)
    → times (from_of net.network.arcs a) ≡ later (from_of net.network.arcs a) → times (to_of net.network.arcs a) ≡ later (to_of net.network.arcs a)
    → lesser_of net.network net.terms times a ≡ lesser_of net.network net.terms later a
lesser-alike net times later a from to =
    ap (λ n. min (normal_of net.terms a) (n - times (from_of net.network.arcs a))) to
    ∙ ap (λ n. min (normal_of net.terms a) (later (to_of net.network.arcs a) - n)) from

module _ (c : Course) (on : IsOnCourse c) (s : Sheet) (descended : HasDescended c.net c.board s c.fall) where
  event : (e : ℕ) → e < c.net.network.events → e < c.board.events
  event e inside = omega (arith, inside, on.between.search.fits.events)

  pub between-mid : IsBetweenLabellings c.net s
  between-mid =
      elim (cases_lt 0 c.fall) [
        | inl some ↦ (descended.fallen some).between
        | inr none ↦ subst (λ (v : Sheet). IsBetweenLabellings c.net v) (sym (descended.still (omega arith))) on.between
      ]

  pub listed-mid : AreDueLater c.net s
  listed-mid =
      elim (cases_lt 0 c.fall) [
        | inl some ↦ (descended.fallen some).listed
        | inr none ↦ subst (λ (v : Sheet). AreDueLater c.net v) (sym (descended.still (omega arith))) on.listed
      ]

  upper-mid : length_at c.net s ≡ lower_of c
  upper-mid =
      elim (cases_lt 0 c.fall) [
        | inl some ↦ omega (arith, (descended.fallen some).shorter)
        | inr none ↦ omega (arith, none, ap (λ (v : Sheet). length_at c.net v) (descended.still (omega arith)))
      ]

  slope-mid : slope_at c.net s ≡ slope_at c.net c.board
  slope-mid =
      elim (cases_lt 0 c.fall) [
        | inl some ↦ ap (λ (v : Sheet). slope_at c.net v) (descended.fallen some).rest
        | inr none ↦ ap (λ (v : Sheet). slope_at c.net v) (descended.still (omega arith))
      ]

  home-mid : s.home ≡ c.board.home
  home-mid =
      elim (cases_lt 0 c.fall) [
        | inl some ↦ ap (λ (v : Sheet). v.home) (descended.fallen some).rest
        | inr none ↦ ap (λ (v : Sheet). v.home) (descended.still (omega arith))
      ]

  -- each time is that of before, less the fall where the event moves
  time-mid : (fallen : HasFallen c.net c.board s c.fall) (e : ℕ) → e < c.net.network.events
      → time_of s e ≡ time_of c.board e - fall_of (moving c.board) c.fall e
  time-mid fallen e inside =
      elim (cases_lt 0 (rank_of c.board e)) [
        | inl some ↦
            let rests : fall_of (moving c.board) c.fall e ≡ 0 =
            cond-false (moving c.board e) c.fall 0 (ne_eqb (rank_of c.board e) 0 (λ (is : rank_of c.board e ≡ 0). omega (arith, is, some))) in
            omega (arith, fallen.rested e some, rests)
        | inr none ↦
            let is : rank_of c.board e ≡ 0 = omega arith in
            let moves : fall_of (moving c.board) c.fall e ≡ c.fall = cond-true (moving c.board e) c.fall 0 (eq-eqb (rank_of c.board e) 0 is) in
            omega (arith, fallen.moved e (event e inside) is, moves)
      ]

  cost-mid : c.cost + c.slope * c.fall ≡ cost_of c.net.terms (knees_in c.net) (lesser_of c.net.network c.net.terms (time_of s))
  cost-mid =
      elim (cases_lt 0 c.fall) [
        | inl some ↦
            let fallen = descended.fallen some in
            cost-fallen c on some
            ∙ cost_of-same c.net.terms (knees_in c.net) (lesser_of c.net.network c.net.terms (fallen_times c on))
            (lesser_of c.net.network c.net.terms (time_of s))
            (λ a inside. let known : a < length c.net.network.arcs = omega (arith, inside, on.priced.terms_fit.one_each) in
            sym (
            lesser-alike c.net (time_of s) (fallen_times c on) a
            (time-mid fallen (from_of c.net.network.arcs a) (on.priced.range.from_in a known))
            (time-mid fallen (to_of c.net.network.arcs a) (on.priced.range.to_in a known))
            ))
        | inr none ↦
            let still : c.fall ≡ 0 = omega arith in
            cost-still c on still
            ∙ sym (ap (λ (v : Sheet). cost_of c.net.terms (knees_in c.net) (lesser_of c.net.network c.net.terms (time_of v))) (descended.still still))
      ]

  module _ (t : Sheet) (rise fall : ℕ) (searched : HasSearched c.net s t c.shortest rise fall) where
    -- the solver then
    abbrev pub after : Course
    after = record {
      net = c.net;
      board = t;
      longest = c.longest;
      shortest = c.shortest;
      cost = c.cost + c.slope * c.fall;
      slope = c.slope + rise;
      fall = fall;
      given = true;
    }

    between-after : IsBetweenLabellings c.net t
    between-after =
        elim (cases_lt c.shortest (length_at c.net s)) [
          | inl above ↦ (searched.above above).between
          | inr at ↦ subst (λ (v : Sheet). IsBetweenLabellings c.net v) (sym (searched.still at)) between-mid
        ]

    listed-after : AreDueLater c.net t
    listed-after =
        elim (cases_lt c.shortest (length_at c.net s)) [
          | inl above ↦ (searched.above above).listed
          | inr at ↦ subst (λ (v : Sheet). AreDueLater c.net v) (sym (searched.still at)) listed-mid
        ]

    pub upper-after : upper_of after ≡ lower_of c
    upper-after =
        elim (cases_lt c.shortest (length_at c.net s)) [
          | inl above ↦ (searched.above above).same ∙ upper-mid
          | inr at ↦ ap (λ (v : Sheet). length_at c.net v) (searched.still at) ∙ upper-mid
        ]

    slope-after : c.slope + rise ≡ slope_at c.net t
    slope-after =
        elim (cases_lt c.shortest (length_at c.net s)) [
          | inl above ↦ omega (arith, (searched.above above).rises.slope, slope-mid, on.slope)
          | inr at ↦ omega (arith, ap (λ (v : Sheet). slope_at c.net v) (searched.still at), slope-mid, on.slope, searched.flat at)
        ]

    home-after : t.home ≡ s.home
    home-after =
        elim (cases_lt c.shortest (length_at c.net s)) [
          | inl above ↦ ap (λ (v : Sheet). v.home) (searched.above above).rises.rest
          | inr at ↦ ap (λ (v : Sheet). v.home) (searched.still at)
        ]

    time-after : (e : ℕ) → e < c.net.network.events → time_of t e ≡ time_of s e
    time-after e inside =
        elim (cases_lt c.shortest (length_at c.net s)) [
          | inl above ↦ (searched.above above).rises.time e (omega (arith, inside, between-mid.search.fits.events))
          | inr at ↦ ap (λ (v : Sheet). time_of v e) (searched.still at)
        ]

    lesser-after : (a : ℕ) → a < length c.net.network.arcs
        → lesser_of c.net.network c.net.terms (time_of t) a ≡ lesser_of c.net.network c.net.terms (time_of s) a
    lesser-after a known =
        lesser-alike c.net (time_of t) (time_of s) a (time-after (from_of c.net.network.arcs a) (on.priced.range.from_in a known))
        (time-after (to_of c.net.network.arcs a) (on.priced.range.to_in a known))

    module _ (going : HasEnded c → ⊥) where
      -- at the all-crash length the curve has one length alone, and this is the first segment
      level-after : upper_of after ≤ c.shortest → IsLevel after
      level-after low =
          let at : length_at c.net s ≤ c.shortest = omega (arith, low, upper-after, upper-mid) in
          elim (cases_Bool c.given) [
            | inl given ↦ absurd (going (record { given = given; lowest = omega (arith, low, upper-after, lower-above c on) }))
            | inr none ↦
                let level = on.untouched none in
                let same : t ≡ c.board = searched.still at ∙ descended.still level.fall in
                record {
                  upper = ap (λ (v : Sheet). length_at c.net v) same ∙ level.upper;
                  slope = omega (arith, level.slope, searched.flat at);
                  fall = searched.none at;
                  empty = λ a. ap (λ (v : Sheet). flow_of v a) same ∙ level.empty a;
                }
          ]

      pub on_course-after : IsOnCourse after
      on_course-after = record {
        priced = on.priced;
        limits = on.limits;
        pieces = on.pieces;
        piece_limits = on.piece_limits;
        ordered = on.ordered;
        between = between-after;
        listed = listed-after;
        longest = on.longest;
        shortest = on.shortest;
        small = on.small;
        within = omega (arith, upper-after, on.within);
        cost =
            cost-mid
            ∙ cost_of-same c.net.terms (knees_in c.net) (lesser_of c.net.network c.net.terms (time_of s)) (lesser_of c.net.network c.net.terms (time_of t))
            (λ a inside. sym (lesser-after a (omega (arith, inside, on.priced.terms_fit.one_each))));
        slope = slope-after;
        untouched = λ none. absurd (no none);
        normal = λ none. absurd (no none);
        falls = λ given above. (searched.above (omega (arith, above, upper-after, upper-mid))).falls;
        level = λ given. level-after;
      }
        where
          no : true ≡ false → ⊥
          no is = cc

      -- the first segment has the normal durations
      normal-after : c.given ≡ false → (a : ℕ) → a < length c.net.network.arcs → lesser_of c.net.network c.net.terms (time_of t) a ≡ normal_of c.net.terms a
      normal-after none a known =
          lesser-after a known
          ∙ ap (λ (v : Sheet). lesser_of c.net.network c.net.terms (time_of v) a) (descended.still (on.untouched none).fall)
          ∙ on.normal none a known

      pub next-after : IsNext c after
      next-after = record {
        given = refl;
        whole = whole after on_course-after refl;
        first = λ none. omega (arith, upper-after, (on.untouched none).upper, (on.untouched none).fall);
        normal = normal-after;
        joined = λ given. upper-after;
        steeper = (let rises : c.slope ≤ c.slope + rise = omega arith in rises);
        long = λ above. omega (arith, fall-some after on_course-after refl above, fall-within after on_course-after);
        within = lower-above after on_course-after;
        small = small after on_course-after refl;
      }

      pub same-after : IsSameCurve c after
      same-after = record { net = refl; home = home-after ∙ home-mid; longest = refl; shortest = refl }

      pub further-after : IsFurther c after
      further-after = record {
        steeper = next-after.steeper;
        lower = let low : lower_of after ≤ upper_of after = omega arith in omega (arith, low, upper-after);
      }

      -- what it took
      looks-after : rise + fall ≡ ((after.slope - c.slope) + (lower_of c - lower_of after))
      looks-after =
          let steeper : (c.slope + rise) - c.slope ≡ rise = omega arith in
          omega (arith, steeper, upper-after, fall-within after on_course-after)

      -- the slope fits
      pub slope-fits : c.slope + rise < 2 ^ 64
      slope-fits = let slope : c.slope + rise < 10 ^ 13 = slope-small after on_course-after in omega (arith, slope)

      pub counted-after : (before used : ℕ) → used ≤ before + 4 * length c.net.network.arcs * (rise + fall) → used ≤ before + most_looks c after
      counted-after before used counted = omega (arith, counted, ap (λ n. 4 * length c.net.network.arcs * n) looks-after)
