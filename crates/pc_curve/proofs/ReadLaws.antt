-- What is read from a segment for a length is a cheapest schedule.
use Rattle.std.proofs.Common.{◌≡◌, ℕ, ◌+◌, ◌-◌, ◌<◌, ◌≤◌, ◌∙◌, Bool, true, false, List, length, slice_index, slice_set, inl, inr, sym, ap, subst, arith}
use Rattle.std.specs.Prelude.{min}
use Rattle.std.proofs.lemmas.Bool.{cases_lt, cond-true, cond-false}
use Rattle.std.proofs.lemmas.List.{get_or-set_same, get_or-set_other}
use Rattle.pc_model.specs.declared.Term.{Term}
use Rattle.pc_model.specs.Walk.{from_of, to_of}
use Rattle.pc_model.specs.Network.{Network, IsInRange}
use Rattle.pc_model.specs.Schedule.{normal_of, lesser_of, IsSchedule}
use Rattle.pc_model.specs.Cost.{IsPriced, cost_of}
use Rattle.pc_model.proofs.Costs.NormalCost.{cost_of-same}
use Rattle.pc_model.specs.Pieces.{ArePieces}
use Rattle.pc_laws.specs.Segment.{Segment, times_for, durations_for, cost_for, IsRight}
use Rattle.pc_crash.specs.Priced.{PricedNetwork, knees_in, ArePiecesWithinLimits}
use Rattle.pc_crash.specs.Terms.{AreWithinLimits}
use Rattle.pc_crash.proofs.CostLaws.{cost_of-most}
use Rattle.pc_flow.specs.Courses.{Course}
use Rattle.pc_flow.specs.inside.Courses.{present}
use Rattle.pc_curve.specs.Points.{curve_in}
use Rattle.pc_curve.specs.inside.Points.{IsThere, AreTimesRead, AreDurationsRead}
use Rattle.pc_curve.proofs.CurveLaws.{right-there}

-- a schedule of durations and times that are alike
pub schedule-alike : (net : Network) (terms : List Term) (limit : ℕ) (durations times others moments : ℕ → ℕ) → IsInRange net
    → ((a : ℕ) → a < length net.arcs → others a ≡ durations a) → ((e : ℕ) → e < net.events → moments e ≡ times e)
    → IsSchedule net terms limit durations times → IsSchedule net terms limit others moments
schedule-alike net terms limit durations times others moments range lasts stands is = record {
  enough = λ a known. omega (arith, is.enough a known, lasts a known);
  within = λ a known. omega (arith, is.within a known, lasts a known);
  starts = omega (arith, is.starts, stands net.start range.start_in);
  fits = λ a known. omega (
    arith,
    is.fits a known,
    lasts a known,
    stands (from_of net.arcs a) (range.from_in a known),
    stands (to_of net.arcs a) (range.to_in a known),
  );
  ends = omega (arith, is.ends, stands net.end range.end_in);
}

-- a reading costs no more than a project may
pub reading-small : (net : PricedNetwork) → IsPriced net.network net.terms (knees_in net) → AreWithinLimits net.terms → ArePieces net.terms net.pieces
    → ArePiecesWithinLimits net.pieces → (c : Course) → c.net ≡ net → (limit : ℕ) → IsThere c limit
    → cost_for (present c) limit ≤ 220000000000000000
reading-small net priced limits pieces piece_limits c same limit there =
    omega (
      arith,
      (right-there net priced c same limit there).costs,
      cost_of-most net priced.terms_fit limits pieces piece_limits (durations_for net.network net.terms (present c) limit),
    )

-- one time more is read
pub time-more : (seg : Segment) (limit e : ℕ) (times : List ℕ) (time : ℕ) → ((k : ℕ) → k < e → slice_index times k ≡ times_for seg limit k)
    → e < length times → time ≡ times_for seg limit e
    → (k : ℕ) → k < e + 1 → slice_index (slice_set times e time) k ≡ times_for seg limit k
time-more seg limit e times time read inside is k below =
    elim (cases_lt k e) [
      | inl before ↦ get_or-set_other times e k time 0 (omega (arith, before)) ∙ read k before
      | inr at ↦
          let same : k ≡ e = omega (arith, at, below) in
          subst (λ n. slice_index (slice_set times e time) n ≡ times_for seg limit n) (sym same) (get_or-set_same times e time 0 inside ∙ is)
    ]

module _ (net : PricedNetwork) (priced : IsPriced net.network net.terms (knees_in net)) (c : Course) (same : c.net ≡ net) (limit : ℕ) (there : IsThere c limit) where
  right : IsRight net.network net.terms (knees_in net) (present c) limit
  right = right-there net priced c same limit there

  -- a time that falls is not below the fall
  pub fall-within : (e : ℕ) → e < net.network.events → (moves : Bool) → moves ≡ (present c).moves e → moves ≡ true
      → (present c).upper - limit ≤ (present c).time e
  fall-within e inside moves is yes_moves =
      omega (arith, right.exact e inside, cond-true ((present c).moves e) ((present c).upper - limit) 0 (sym is ∙ yes_moves))

  -- the time of an event that moves, and of one that rests
  pub time-falls : (e : ℕ) (moves : Bool) → moves ≡ (present c).moves e → moves ≡ true
      → (present c).time e - ((present c).upper - limit) ≡ times_for (present c) limit e
  time-falls e moves is yes_moves =
      ap (λ n. (present c).time e - n) (sym (cond-true ((present c).moves e) ((present c).upper - limit) 0 (sym is ∙ yes_moves)))

  pub time-stays : (e : ℕ) (moves : Bool) → moves ≡ (present c).moves e → moves ≡ false → (present c).time e ≡ times_for (present c) limit e
  time-stays e moves is rests =
      let none : (present c).time e ≡ (present c).time e - 0 = omega arith in
      none ∙ ap (λ n. (present c).time e - n) (sym (cond-false ((present c).moves e) ((present c).upper - limit) 0 (sym is ∙ rests)))

  module _ (times : List ℕ) (read : AreTimesRead net (present c) limit times) where
    from : (a : ℕ) → a < length net.network.arcs
        → slice_index times (from_of net.network.arcs a) ≡ times_for (present c) limit (from_of net.network.arcs a)
    from a known = read (from_of net.network.arcs a) (priced.range.from_in a known)

    to : (a : ℕ) → a < length net.network.arcs
        → slice_index times (to_of net.network.arcs a) ≡ times_for (present c) limit (to_of net.network.arcs a)
    to a known = read (to_of net.network.arcs a) (priced.range.to_in a known)

    -- no activity ends before it begins
    pub read-fit : (a : ℕ) → a < length net.network.arcs
        → slice_index times (from_of net.network.arcs a) ≤ slice_index times (to_of net.network.arcs a)
    read-fit a known = omega (arith, right.schedule.fits a known, from a known, to a known)

    pub read-ends : slice_index times net.network.end ≡ limit
    read-ends = read net.network.end priced.range.end_in ∙ right.ends

    module _ (durations : List ℕ)
        (lasts : (a : ℕ) → a < length net.network.arcs → slice_index durations a ≡ lesser_of net.network net.terms (slice_index times) a) where
      pub read-durations : AreDurationsRead net (present c) limit durations
      read-durations a known =
          lasts a known
          ∙ ap (λ n. min (normal_of net.terms a) (n - slice_index times (from_of net.network.arcs a))) (to a known)
          ∙ ap (λ n. min (normal_of net.terms a) (times_for (present c) limit (to_of net.network.arcs a) - n)) (from a known)

      pub read-schedule : IsSchedule net.network net.terms limit (slice_index durations) (slice_index times)
      read-schedule =
          schedule-alike net.network net.terms limit (durations_for net.network net.terms (present c) limit) (times_for (present c) limit)
          (slice_index durations) (slice_index times) priced.range read-durations read right.schedule

      pub read-costs : cost_for (present c) limit ≡ cost_of net.terms (knees_in net) (slice_index durations)
      read-costs =
          sym right.costs
          ∙ sym (cost_of-same net.terms (knees_in net) (slice_index durations) (durations_for net.network net.terms (present c) limit)
          (λ a inside. read-durations a (omega (arith, inside, priced.terms_fit.one_each))))

  pub read-least : curve_in net limit (cost_for (present c) limit)
  read-least = right.least
