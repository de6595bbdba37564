-- Costs stay within their limits.
use Rattle.std.proofs.Common.{◌≡◌, ℕ, zero, suc, ◌+◌, ◌-◌, ◌*◌, ◌^◌, ◌<◌, ◌≤◌, List, length, ◌==◌, refl, ◌∙◌, ap, inl, inr, arith}
use Rattle.std.proofs.Math.Nat.{mul-le-mul, mul-le-mul_left, mul_comm}
use Rattle.std.proofs.Math.ListN.{get_or-eq_default}
use Rattle.std.proofs.lemmas.Bool.{cases_lt}
use Rattle.std.proofs.lemmas.List.Elements.{All-filter, All-get_or}
use Rattle.pc_model.specs.declared.Knee.{Knee}
use Rattle.pc_model.specs.declared.PieceRow.{PieceRow}
use Rattle.pc_model.specs.declared.Term.{Term}
use Rattle.pc_model.specs.declared.limits.TheConstants.{MAX_DURATION, MAX_SLOPE}
use Rattle.pc_model.specs.Sums.{sum_to}
use Rattle.pc_model.specs.Network.{Network}
use Rattle.pc_model.specs.Cost.{activity_cost, cost_of, last_slope}
use Rattle.pc_model.specs.Pieces.{pieces_of, knees_of, slope_in, ArePieces}
use Rattle.pc_model.specs.inside.Pieces.{knee_at}
use Rattle.pc_model.specs.Schedule.{term_at, AreTerms}
use Rattle.pc_model.proofs.Sums.{sum_to-le, sum_to-most, sum_to-same, sum_to-times}
use Rattle.pc_model.proofs.Costs.PieceLaws.{knee-normal, last_slope-pieces, pieces_fit}
use Rattle.pc_crash.specs.inside.KneeLists.{AreKneesOf, AreSmallKnees}
use Rattle.pc_crash.specs.inside.CrashNets.{IsWholeNetwork}
use Rattle.pc_crash.specs.Priced.{PricedNetwork, knees_in, ArePiecesWithinLimits}
use Rattle.pc_crash.specs.Terms.{AreWithinLimits}

-- a knee within its limits and a unit below it
pub price-most : (at rise duration : ℕ) → at ≤ MAX_DURATION → rise ≤ MAX_SLOPE → rise * (at - duration) ≤ 10000000000000
price-most at rise duration low gentle = mul-le-mul {m₂ = 100000} gentle (omega arith)

-- the amount that some knees add to a cost leaves capacity for one more
pub price_to-room : (list : List Knee) (duration k : ℕ) → AreSmallKnees list → k < length list →
    sum_to k (λ j. (knee_at list j).rise * ((knee_at list j).at - duration)) + (knee_at list k).rise * ((knee_at list k).at - duration) < 2 ^ 64
price_to-room list duration k small inside =
    omega (
      arith,
      small.few,
      sum_to-most k 10000000000000 (λ j. (knee_at list j).rise * ((knee_at list j).at - duration))
          (λ j below. price-most (knee_at list j).at (knee_at list j).rise duration (small.low j (omega arith))
          (small.gentle j (omega arith))),
      price-most (knee_at list k).at (knee_at list k).rise duration (small.low k inside) (small.gentle k inside),
    )

module _ (net : Network) (terms : List Term) (pieces : List PieceRow) (fit : AreTerms net terms) (limits : AreWithinLimits terms)
    (right : ArePieces terms pieces) (small : ArePiecesWithinLimits pieces) (a : ℕ) (inside : a < length terms) where
  in_net : a < length net.arcs
  in_net = omega (arith, fit.one_each)

  abbrev own : List PieceRow
  own = pieces_of pieces a

  -- no unit of the activity costs more than the greatest slope
  pub slope_in-most : (k : ℕ) → slope_in (term_at terms a) own k ≤ MAX_SLOPE
  slope_in-most zero = limits.gentle a inside
  slope_in-most (suc k) =
      elim (cases_lt k (length own)) [
        | inl h ↦ All-get_or (λ (piece : PieceRow). piece.slope ≤ MAX_SLOPE) own k _ h (All-filter (λ piece. piece.activity == a) (λ (piece : PieceRow). piece.slope ≤ MAX_SLOPE) pieces small.gentle)
        | inr past ↦ omega (arith, ap (λ (piece : PieceRow). piece.slope) (get_or-eq_default own (record { activity = 0; units = 0; slope = 0 }) past))
      ]

  -- no knee rises by more
  rise-most : (k : ℕ) → (knees_of terms pieces).rise a k ≤ MAX_SLOPE
  rise-most zero = limits.gentle a inside
  rise-most (suc k) = let most : slope_in (term_at terms a) (pieces_of pieces a) (suc k) ≤ MAX_SLOPE = slope_in-most (suc k) in omega (arith, most)

  -- no knee is above the normal duration
  knee-most : (k : ℕ) → k < (knees_of terms pieces).count a → (knees_of terms pieces).knee a k ≤ MAX_DURATION
  knee-most k below = omega (arith, limits.short a inside, knee-normal net terms (knees_of terms pieces) (pieces_fit net terms pieces fit right) a k in_net below)

  -- the list of its knees is small
  pub AreSmallKnees-of : (list : List Knee) → AreKneesOf (knees_of terms pieces) a list → AreSmallKnees list
  AreSmallKnees-of list are = record {
    few = omega (arith, are.count, right.few a inside);
    low = λ k below. omega (arith, are.at k below, knee-most k (omega (arith, are.count)));
    gentle = λ k below. omega (arith, are.rise k below, rise-most k);
  }

  -- what the list adds to a cost is what the knees add
  pub price-of : (list : List Knee) (duration : ℕ) → AreKneesOf (knees_of terms pieces) a list →
      sum_to (length list) (λ k. (knee_at list k).rise * ((knee_at list k).at - duration))
      ≡ sum_to ((knees_of terms pieces).count a) (λ k. (knees_of terms pieces).rise a k * ((knees_of terms pieces).knee a k - duration))
  price-of list duration are =
      sum_to-same (length list) _ (λ k. (knees_of terms pieces).rise a k * ((knees_of terms pieces).knee a k - duration)) (λ k below. rw (are.at k below, are.rise k below) refl)
      ∙ ap (λ n. sum_to n (λ k. (knees_of terms pieces).rise a k * ((knees_of terms pieces).knee a k - duration))) are.count

  -- the activity costs at most its cost and all its units at the greatest slope
  pub activity_cost-most : (duration : ℕ) → activity_cost terms (knees_of terms pieces) a duration ≤ 11000000000000
  activity_cost-most duration =
      omega (
        arith,
        limits.cheap a inside,
        sum_to-le count (λ k. (knees_of terms pieces).rise a k * ((knees_of terms pieces).knee a k - duration)) (λ k. MAX_DURATION * (knees_of terms pieces).rise a k)
            (λ k below. omega (
              arith,
              mul-le-mul_left ((knees_of terms pieces).rise a k)
                  (let low : (knees_of terms pieces).knee a k - duration ≤ MAX_DURATION = omega (arith, knee-most k below) in low),
              mul_comm MAX_DURATION ((knees_of terms pieces).rise a k),
            )),
        sum_to-times count MAX_DURATION ((knees_of terms pieces).rise a),
        mul-le-mul {m₂ = 100000000} (let same : MAX_DURATION ≤ 100000 = omega arith in same) last,
      )
    where
      count : ℕ
      count = (knees_of terms pieces).count a

      last : last_slope (knees_of terms pieces) a ≤ MAX_SLOPE
      last = omega (arith, last_slope-pieces terms pieces a right inside, slope_in-most (length own))

-- the first k activities cost at most k times as much
pub costs-most : (net : PricedNetwork) → IsWholeNetwork net → (durations : ℕ → ℕ) (k : ℕ) → k ≤ length net.terms → sum_to k
    (λ a. activity_cost net.terms (knees_in net) a (durations a)) ≤ k * 11000000000000
costs-most net whole durations k within =
    sum_to-most k 11000000000000 (λ a. activity_cost net.terms (knees_in net) a (durations a))
    (λ a below. activity_cost-most net.network net.terms net.pieces whole.terms whole.limits whole.pieces whole.piece_limits a (omega arith) (durations a))

-- and a bound for all of them together
pub cost_of-most : (net : PricedNetwork) → AreTerms net.network net.terms → AreWithinLimits net.terms → ArePieces net.terms net.pieces
    → ArePiecesWithinLimits net.pieces → (durations : ℕ → ℕ) → cost_of net.terms (knees_in net) durations ≤ 220000000000000000
cost_of-most net fit limits right small durations =
    omega (
      arith,
      sum_to-most (length net.terms) 11000000000000 (λ a. activity_cost net.terms (knees_in net) a (durations a))
          (λ a inside. activity_cost-most net.network net.terms net.pieces fit limits right small a inside (durations a)),
      limits.few,
    )
