-- What an activity costs, one piece after another.
use Rattle.std.proofs.Common.{◌≡◌, ℕ, zero, suc, ◌+◌, ◌-◌, ◌*◌, ◌<◌, ◌≤◌, Bool, List, [], ◌∷◌, length, length-append, take, drop, refl, ap, sym, ◌∙◌, subst, inl, inr, arith, add-one, ◌==◌, eq-eqb}
use Rattle.std.proofs.Math.Nat.{mul-le-mul, mul-le-mul_left, mul_comm}
use Rattle.std.proofs.lemmas.Bool.{cases_lt, cond-true}
use Rattle.std.proofs.lemmas.List.{take-append-drop}
use Rattle.std.proofs.lemmas.List.Elements.{filter-append}
use Rattle.std.proofs.lemmas.List.Filters.{length-filter_more}
use Rattle.std.proofs.lemmas.List.Sums.{sum_by-drop_more, sum_by-take-drop}
use Rattle.pc_model.specs.declared.PieceRow.{PieceRow}
use Rattle.pc_model.specs.declared.Term.{Term}
use Rattle.pc_model.specs.declared.limits.TheConstants.{MAX_DURATION}
use Rattle.pc_model.specs.Network.{Network}
use Rattle.pc_model.specs.Pieces.{knee_in, pieces_of, rise_in, slope_in, units_of, ArePieces}
use Rattle.pc_model.specs.Schedule.{term_at, AreTerms}
use Rattle.pc_model.specs.Sums.{sum_to}
use Rattle.pc_model.proofs.Costs.PieceLaws.{rises-slope}
use Rattle.pc_model.proofs.Sums.{sum_to-le, sum_to-mono, sum_to-times}
use Rattle.pc_crash.specs.Priced.{piece_at, ArePiecesWithinLimits}
use Rattle.pc_crash.specs.Terms.{AreWithinLimits}
use Rattle.pc_crash.specs.inside.OwnPieces.{AreOwnPieces}
use Rattle.pc_crash.proofs.CostLaws.{slope_in-most}

-- what the k-th knee adds to the cost
abbrev pub added : Term → List PieceRow → ℕ → ℕ → ℕ
added term pieces duration k = rise_in term pieces k * (knee_in term pieces k - duration)

-- the cost with the knees of the first i pieces, the duration at the next knee, and the slope above it
pub record IsSummed (term : Term) (pieces : List PieceRow) (duration i cost knee slope : ℕ) : Type 0 where
  pub sum : cost ≡ term.cost + sum_to (i + 1) (added term pieces duration)
  pub next : knee ≡ term.crash + units_of (drop i pieces)
  pub above : slope ≡ slope_in term pieces i

module _ (term : Term) (pieces : List PieceRow) (own : AreOwnPieces term pieces) (duration : ℕ) where
  -- what is left of the pieces is no more than all of them
  left-most : (i : ℕ) → units_of (drop i pieces) ≤ units_of pieces
  left-most i = omega (arith, sum_by-take-drop (λ (piece : PieceRow). piece.units) pieces i)

  -- no knee is above the greatest duration
  knee-most : (k : ℕ) → knee_in term pieces k - duration ≤ MAX_DURATION
  knee-most zero = omega (arith, own.short)
  knee-most (suc k) = omega (arith, own.short, own.within, left-most k)

  -- all knees add at most all units at the greatest slope
  pub added-most : sum_to (length pieces + 1) (added term pieces duration) ≤ 10000000000000
  added-most =
      omega (
        arith,
        sum_to-le (length pieces + 1) (added term pieces duration) (λ k. MAX_DURATION * rise_in term pieces k)
            (λ k below. omega (arith, mul-le-mul_left (rise_in term pieces k) (knee-most k), mul_comm MAX_DURATION (rise_in term pieces k))),
        sum_to-times (length pieces + 1) MAX_DURATION (rise_in term pieces),
        mul-le-mul {m₂ = 100000000} (let same : MAX_DURATION ≤ 100000 = omega arith in same) last,
      )
    where
      last : sum_to (length pieces + 1) (rise_in term pieces) ≤ 100000000
      last =
          omega (arith, ap (λ n. sum_to n (rise_in term pieces)) (add-one (length pieces)), rises-slope term pieces own.rising (length pieces) (omega arith), own.gentle (length pieces))

  -- the normal duration alone is added
  pub IsSummed-start : (cost knee : ℕ) → cost ≡ term.cost + term.slope * (term.normal - duration) → knee ≡ term.crash + units_of pieces → IsSummed term pieces duration 0 cost knee term.slope
  IsSummed-start cost knee is next =
      let alone : sum_to (0 + 1) (added term pieces duration) ≡ 0 + term.slope * (term.normal - duration) = refl in
      record { sum = omega (arith, is, alone); next = next; above = refl }

  -- the normal duration adds no more than all knees may
  pub first-most : term.slope * (term.normal - duration) ≤ 10000000000000
  first-most = mul-le-mul {m₂ = 100000} (own.gentle 0) (omega (arith, own.short))

  -- all pieces are added
  pub IsSummed-end : (i cost knee slope : ℕ) → IsSummed term pieces duration i cost knee slope → i ≡ length pieces → cost ≡ term.cost + sum_to (length pieces + 1) (added term pieces duration)
  IsSummed-end i cost knee slope done all = subst (λ n. cost ≡ term.cost + sum_to (n + 1) (added term pieces duration)) all done.sum

  module _ (i cost knee slope : ℕ) (done : IsSummed term pieces duration i cost knee slope) (inside : i < length pieces) where
    -- the next piece costs more than those before, and its units are left
    pub next-rises : slope ≤ (piece_at pieces i).slope
    next-rises = omega (arith, done.above, own.rising i inside, ap (slope_in term pieces) (add-one i))

    pub next-left : (piece_at pieces i).units ≤ knee
    next-left = omega (arith, done.next, units)
      where
        units : units_of (drop i pieces) ≡ (piece_at pieces i).units + units_of (drop (i + 1) pieces)
        units = sum_by-drop_more (λ (piece : PieceRow). piece.units) pieces i (record { activity = 0; units = 0; slope = 0 }) inside

    -- what its knee adds
    pub next-added : ((piece_at pieces i).slope - slope) * (knee - duration) ≡ added term pieces duration (i + 1)
    next-added = (λ j. ((piece_at pieces i).slope - done.above j) * (done.next j - duration)) ∙ ap (added term pieces duration) (sym (add-one i))

    more : sum_to (i + 1 + 1) (added term pieces duration) ≡ sum_to (i + 1) (added term pieces duration) + added term pieces duration (i + 1)
    more = ap (λ n. sum_to n (added term pieces duration)) (add-one (i + 1))

    -- the sum stays within its bound
    pub next-most : cost + ((piece_at pieces i).slope - slope) * (knee - duration) ≤ term.cost + 10000000000000
    next-most = omega (arith, done.sum, next-added, more, sum_to-mono (i + 1 + 1) (length pieces + 1) (added term pieces duration) (omega arith), added-most)

    -- one piece more
    pub IsSummed-more : IsSummed term pieces duration (i + 1) (cost + ((piece_at pieces i).slope - slope) * (knee - duration)) (knee - (piece_at pieces i).units) (piece_at pieces i).slope
    IsSummed-more = record {
      sum = omega (arith, done.sum, next-added, more);
      next = omega (arith, done.next, sum_by-drop_more (λ (piece : PieceRow). piece.units) pieces i (record { activity = 0; units = 0; slope = 0 }) inside);
      above = ap (slope_in term pieces) (sym (add-one i));
    }

-- there is capacity for one more among the pieces of an activity that were found
pub own-room : (pieces : List PieceRow) (i a : ℕ) → i < length pieces → (piece_at pieces i).activity ≡ a → length (pieces_of (take i pieces) a) < length (pieces_of pieces a)
own-room pieces i a inside is =
    omega (
      arith,
      length-filter_more of_a pieces i (record { activity = 0; units = 0; slope = 0 }) inside,
      cond-true {A = ℕ} (of_a (piece_at pieces i)) 1 0 (eq-eqb _ _ is),
      ap (λ ps. length (pieces_of ps a)) (take-append-drop (i + 1) pieces),
      ap length (filter-append of_a (take (i + 1) pieces) (drop (i + 1) pieces)),
      length-append (pieces_of (take (i + 1) pieces) a) (pieces_of (drop (i + 1) pieces) a),
    )
  where
    of_a : PieceRow → Bool
    of_a piece = piece.activity == a

-- an empty list of pieces has no units
no_units : (pieces : List PieceRow) → length pieces ≤ 0 → units_of pieces ≡ 0
no_units [] none = refl
no_units (piece ∷ pieces) none = absurd (omega arith)

-- the pieces of an activity among those of all
pub own_pieces : (net : Network) (terms : List Term) (pieces : List PieceRow) → AreTerms net terms → AreWithinLimits terms → ArePieces terms pieces → ArePiecesWithinLimits pieces
    → (a : ℕ) → a < length terms → AreOwnPieces (term_at terms a) (pieces_of pieces a)
own_pieces net terms pieces fit limits right small a inside = record {
  few = right.few a inside;
  rising = λ k below. right.rising a k inside below;
  within = elim (cases_lt 0 (length (pieces_of pieces a))) [
    | inl some ↦ omega (arith, right.leaving a inside some)
    | inr none ↦ omega (arith, no_units (pieces_of pieces a) none, fit.ordered a inside)
  ];
  short = limits.short a inside;
  cheap = limits.cheap a inside;
  gentle = slope_in-most net terms pieces fit limits right small a inside;
}
