-- The least costs of a priced network are convex.
use Rattle.std.proofs.Common.{ℕ, zero, suc, ◌+◌, ◌<◌, ◌≤◌, inl, inr, arith}
use Rattle.std.proofs.lemmas.Bool.{cases_lt}
use Rattle.pc_model.specs.Cost.{IsPriced, cost_of}
use Rattle.pc_model.specs.Schedule.{HasSchedule, IsSchedule}
use Rattle.pc_model.proofs.Costs.LeastCost.{unique}
use Rattle.pc_model.proofs.Costs.Halfway.{convex}
use Rattle.pc_model.specs.Pieces.{ArePieces}
use Rattle.pc_crash.specs.Priced.{PricedNetwork, knees_in, ArePiecesWithinLimits}
use Rattle.pc_crash.specs.Terms.{AreWithinLimits}
use Rattle.pc_crash.proofs.CostLaws.{cost_of-most}
use Rattle.pc_curve.specs.Points.{curve_in}
use Rattle.pc_total.proofs.ConvexLaws.{IsConvex}

module _ (net : PricedNetwork) where
  -- what a schedule costs
  abbrev costs : (ℕ → ℕ) → ℕ
  costs durations = cost_of net.terms (knees_in net) durations

  module _ (limit : ℕ) (none : (cost : ℕ) × curve_in net limit cost → ⊥) where
    -- without a least cost no schedule costs anything
    no-schedule : (n : ℕ) (durations times : ℕ → ℕ) → IsSchedule net.network net.terms limit durations times → costs durations < n → ⊥
    no-schedule zero durations times schedule less = omega (arith, less)
    no-schedule (suc n) durations times schedule less =
        elim (cases_lt (costs durations) n) [
          | inl lesser ↦ no-schedule n durations times schedule lesser
          | inr no_lesser ↦ none (
            n,
            record {
              reached = (durations, times, schedule, omega (arith, less, no_lesser));
              least = λ others moments other. elim (cases_lt (costs others) n) [
                | inl under ↦ absurd (no-schedule n others moments other under)
                | inr no_under ↦ no_under
              ];
            },
          )
        ]

  -- a length with a schedule cannot be without a least cost
  least-exists : (limit : ℕ) → HasSchedule net.network net.terms limit → ((cost : ℕ) × curve_in net limit cost → ⊥) → ⊥
  least-exists limit has none =
      let (durations, times, schedule) = has in
      no-schedule limit none (costs durations + 1) durations times schedule (omega arith)

  longer-schedule : (limit longer : ℕ) → limit ≤ longer → HasSchedule net.network net.terms limit → HasSchedule net.network net.terms longer
  longer-schedule limit longer more has =
      let (durations, times, schedule) = has in (
        durations,
        times,
        record {
          enough = schedule.enough;
          within = schedule.within;
          starts = schedule.starts;
          fits = schedule.fits;
          ends = omega (arith, schedule.ends, more);
        },
      )

  -- no least cost is above what a project may cost
  pub least-small : IsPriced net.network net.terms (knees_in net) → AreWithinLimits net.terms → ArePieces net.terms net.pieces → ArePiecesWithinLimits net.pieces
      → (limit cost : ℕ) → curve_in net limit cost → cost ≤ 220000000000000000
  least-small priced limits pieces piece_limits limit cost least =
      let (durations, times, schedule, is) = least.reached in
      omega (arith, is, cost_of-most net priced.terms_fit limits pieces piece_limits durations)

  pub curve-convex : IsPriced net.network net.terms (knees_in net) → IsConvex (curve_in net)
  curve-convex priced = record {
    unique = unique net.network net.terms (knees_in net);
    convex = λ limit a b c. convex net.network net.terms (knees_in net) limit a b c priced.terms_fit priced.knees_fit;
    goes_on = λ limit a longer least more none.
        let (durations, times, schedule, is) = least.reached in
        least-exists longer (longer-schedule limit longer more (durations, times, schedule)) none;
  }
