-- The knees of activities: those that pieces make, and the one knee of a cost with one slope.
use Rattle.std.proofs.Common.{◌≡◌, ℕ, ◌+◌, ◌-◌, ◌*◌, ◌<◌, ◌≤◌, if◌then◌else◌, nat_lt, zero, suc, List, [], length, drop, inl, inr, refl, ◌∙◌, add-one, arith, ap, sym, subst}
use Rattle.std.proofs.lemmas.Bool.{cases_lt, lt-ltb, le-ltb, cond-true, cond-false}
use Rattle.std.proofs.lemmas.List.Sums.{sum_by-drop_more}
use Rattle.std.proofs.Math.Nat.{mul-add}
use Rattle.pc_model.specs.declared.Term.{Term}
use Rattle.pc_model.specs.declared.PieceRow.{PieceRow}
use Rattle.pc_model.specs.Sums.{sum_to}
use Rattle.pc_model.specs.Network.{Network}
use Rattle.pc_model.specs.Schedule.{term_at, normal_of, base_cost_of, slope_of, AreTerms}
use Rattle.pc_model.specs.Cost.{Knees, AreKnees, one_knee, activity_cost, cost_of, last_slope}
use Rattle.pc_model.specs.Pieces.{pieces_of, units_of, slope_in, knee_in, rise_in, knees_of, ArePieces}
use Rattle.pc_model.proofs.Sums.{sum_to-add, sum_to-same, sum_to-zero}
use Rattle.pc_model.proofs.Schedules.Durations.{crash-normal}

-- no knee is above the normal duration
pub knee-normal : (net : Network) (terms : List Term) (knees : Knees) → AreKnees net terms knees → (a k : ℕ) → a < length net.arcs →
    k < knees.count a → knees.knee a k ≤ normal_of terms a
knee-normal net terms knees are a k inside below =
    omega (arith, are.first a inside, are.falling a 0 k inside (omega arith) below)

-- the normal durations cost what the terms say
pub normal_cost : (net : Network) (terms : List Term) (knees : Knees) → AreTerms net terms → AreKnees net terms knees →
    cost_of terms knees (normal_of terms) ≡ sum_to (length terms) (base_cost_of terms)
normal_cost net terms knees sized are =
    sum_to-same (length terms) (λ a. activity_cost terms knees a (normal_of terms a)) (base_cost_of terms)
    (λ a inside. omega (
      arith,
      sum_to-zero (knees.count a) (λ k. knees.rise a k * (knees.knee a k - normal_of terms a))
          (λ k below. nothing (knees.rise a k) (knees.knee a k - normal_of terms a)
          (omega (arith, knee-normal net terms knees are a k (subst (λ n. a < n) sized.one_each inside) below))),
    ))
  where
    nothing : (rise n : ℕ) → n ≡ 0 → rise * n ≡ 0
    nothing rise n none = omega (arith, ap (λ x. rise * x) none)

-- One slope

-- the one knee fits the terms
pub one_knee_fits : (net : Network) (terms : List Term) → AreTerms net terms → AreKnees net terms (one_knee terms)
one_knee_fits net terms are = record {
  some = λ a inside. omega arith;
  first = λ a inside. refl;
  first_rise = λ a inside. refl;
  falling = λ a j k inside order below. omega arith;
  above = λ a k inside below. crash-normal net terms are a inside;
}

-- each unit that a duration is below normal costs the slope
pub one_knee_cost : (terms : List Term) (a d : ℕ) → activity_cost terms (one_knee terms) a d ≡ base_cost_of terms a + slope_of terms a * (normal_of terms a - d)
one_knee_cost terms a d = omega arith

-- Pieces

-- fewer pieces have no more units
units_of-drop : (pieces : List PieceRow) (j k : ℕ) → j ≤ k → k ≤ length pieces → units_of (drop k pieces) ≤ units_of (drop j pieces)
units_of-drop pieces j zero order below = omega (arith, ap (λ i. units_of (drop i pieces)) (let same : j ≡ 0 = omega arith in same))
units_of-drop pieces j (suc k) order below =
    elim (cases_lt k j) [
      | inl h ↦ omega (arith, ap (λ i. units_of (drop i pieces)) (let same : j ≡ suc k = omega arith in same))
      | inr h ↦ omega (
        arith,
        units_of-drop pieces j k h (omega arith),
        sum_by-drop_more (λ (piece : PieceRow). piece.units) pieces k (record { activity = 0; units = 0; slope = 0 }) (omega arith),
        ap (λ i. units_of (drop i pieces)) (add-one k),
      )
    ]

-- the knees that they make do not rise
knee_in-falls : (term : Term) (pieces : List PieceRow) → (0 < length pieces → term.crash + units_of pieces < term.normal) →
    (j k : ℕ) → j ≤ k → k < length pieces + 1 → knee_in term pieces k ≤ knee_in term pieces j
knee_in-falls term pieces leaving zero zero order below = omega arith
knee_in-falls term pieces leaving (suc j) zero order below = absurd (omega arith)
knee_in-falls term pieces leaving zero (suc k) order below =
    omega (arith, leaving (omega arith), units_of-drop pieces 0 k (omega arith) (omega arith))
knee_in-falls term pieces leaving (suc j) (suc k) order below =
    omega (arith, units_of-drop pieces j k (omega arith) (omega arith))

-- and none is below crash
knee_in-above : (term : Term) (pieces : List PieceRow) → term.crash ≤ term.normal → (k : ℕ) → term.crash ≤ knee_in term pieces k
knee_in-above term pieces ordered zero = ordered
knee_in-above term pieces ordered (suc k) = omega arith

-- so they fit the terms
pub pieces_fit : (net : Network) (terms : List Term) (pieces : List PieceRow) → AreTerms net terms → ArePieces terms pieces →
    AreKnees net terms (knees_of terms pieces)
pieces_fit net terms pieces are right = record {
  some = λ a inside. omega arith;
  first = λ a inside. refl;
  first_rise = λ a inside. refl;
  falling = λ a j k inside order below. knee_in-falls (term_at terms a) (pieces_of pieces a) (right.leaving a (in_terms a inside)) j k order below;
  above = λ a k inside below. knee_in-above (term_at terms a) (pieces_of pieces a) (are.ordered a (in_terms a inside)) k;
}
  where
    in_terms : (a : ℕ) → a < length net.arcs → a < length terms
    in_terms a inside = subst (λ n. a < n) (sym are.one_each) inside

-- the rises of the first pieces add up to the slope of the last of them
pub rises-slope : (term : Term) (pieces : List PieceRow) → ((k : ℕ) → k < length pieces → slope_in term pieces k < slope_in term pieces (k + 1)) →
    (k : ℕ) → k ≤ length pieces → sum_to (suc k) (rise_in term pieces) ≡ slope_in term pieces k
rises-slope term pieces rising zero below = omega arith
rises-slope term pieces rising (suc k) below =
    omega (arith, rises-slope term pieces rising k (omega arith), rising k (omega arith), ap (slope_in term pieces) (add-one k))

-- without pieces each unit that a duration is below normal costs the slope
pub no_pieces_cost : (terms : List Term) (a d : ℕ) → activity_cost terms (knees_of terms []) a d ≡ base_cost_of terms a + slope_of terms a * (normal_of terms a - d)
no_pieces_cost terms a d = omega arith

-- the last slope of an activity is that of its last piece
pub last_slope-pieces : (terms : List Term) (pieces : List PieceRow) (a : ℕ) → ArePieces terms pieces → a < length terms →
    last_slope (knees_of terms pieces) a ≡ slope_in (term_at terms a) (pieces_of pieces a) (length (pieces_of pieces a))
last_slope-pieces terms pieces a right inside =
    ap (λ n. sum_to n (rise_in (term_at terms a) (pieces_of pieces a))) (add-one (length (pieces_of pieces a)))
    ∙ rises-slope (term_at terms a) (pieces_of pieces a) (λ k. right.rising a k inside) (length (pieces_of pieces a)) (omega arith)

-- What a unit costs

-- one unit less costs more by the rises of the knees above it
unit_cost : (terms : List Term) (knees : Knees) (a d : ℕ) →
    activity_cost terms knees a d ≡ activity_cost terms knees a (d + 1) + sum_to (knees.count a) (λ k. if nat_lt d (knees.knee a k) then knees.rise a k else 0)
unit_cost terms knees a d =
    omega (
      arith,
      sum_to-same (knees.count a) (λ k. knees.rise a k * (knees.knee a k - d))
          (λ k. knees.rise a k * (knees.knee a k - (d + 1)) + (if nat_lt d (knees.knee a k) then knees.rise a k else 0))
          (λ k below. at_knee (knees.rise a k) (knees.knee a k)),
      sum_to-add (knees.count a) (λ k. knees.rise a k * (knees.knee a k - (d + 1))) (λ k. if nat_lt d (knees.knee a k) then knees.rise a k else 0),
    )
  where
    at_knee : (rise knee : ℕ) → rise * (knee - d) ≡ rise * (knee - (d + 1)) + (if nat_lt d knee then rise else 0)
    at_knee rise knee =
        elim (cases_lt d knee) [
          | inl h ↦ let one_more : knee - d ≡ (knee - (d + 1)) + 1 = omega arith in
              omega (arith, ap (λ x. rise * x) one_more, mul-add rise (knee - (d + 1)) 1, cond-true (nat_lt d knee) rise 0 (lt-ltb d knee h))
          | inr h ↦ let same : knee - d ≡ knee - (d + 1) = omega arith in
              omega (arith, ap (λ x. rise * x) same, cond-false (nat_lt d knee) rise 0 (le-ltb d knee h))
        ]

-- a sum whose terms are those of another up to a place, and 0 from there on
sum_to-front : (n m : ℕ) (f g : ℕ → ℕ) → m ≤ n → ((k : ℕ) → k < m → f k ≡ g k) → ((k : ℕ) → m ≤ k → k < n → f k ≡ 0) → sum_to n f ≡ sum_to m g
sum_to-front zero m f g within same none = omega (arith, ap (λ i. sum_to i g) (let e : m ≡ 0 = omega arith in e))
sum_to-front (suc n) m f g within same none =
    elim (cases_lt n m) [
      | inl h ↦ omega (arith, sum_to-same (suc n) f g (λ k below. same k (omega arith)), ap (λ i. sum_to i g) (let e : m ≡ suc n = omega arith in e))
      | inr h ↦ omega (arith, sum_to-front n m f g h same (λ k above below. none k above (omega arith)), none n h (omega arith))
    ]

-- a unit of a duration within a piece costs the slope of this piece
pub piece_cost : (net : Network) (terms : List Term) (pieces : List PieceRow) (a d k : ℕ) → AreTerms net terms → ArePieces terms pieces →
    a < length net.arcs → k ≤ length (pieces_of pieces a) → d < (knees_of terms pieces).knee a k →
    (k < length (pieces_of pieces a) → (knees_of terms pieces).knee a (k + 1) ≤ d) →
    activity_cost terms (knees_of terms pieces) a d
    ≡ activity_cost terms (knees_of terms pieces) a (d + 1) + slope_in (term_at terms a) (pieces_of pieces a) k
piece_cost net terms pieces a d k sized right inside in_pieces below above =
    let knees : Knees = knees_of terms pieces in
    let fit = pieces_fit net terms pieces sized right in
    omega (
      arith,
      unit_cost terms knees a d,
      sum_to-front (knees.count a) (suc k) (λ j. if nat_lt d (knees.knee a j) then knees.rise a j else 0) (knees.rise a) (omega arith)
          (λ j first. cond-true (nat_lt d (knees.knee a j)) (knees.rise a j) 0
          (lt-ltb d (knees.knee a j) (omega (arith, fit.falling a j k inside (omega arith) (omega arith)))))
          (λ j past in_count. cond-false (nat_lt d (knees.knee a j)) (knees.rise a j) 0
          (le-ltb d (knees.knee a j) (omega (arith, above (omega arith), fit.falling a (k + 1) j inside (omega arith) in_count)))),
      rises-slope (term_at terms a) (pieces_of pieces a) (λ i. right.rising a i (subst (λ n. a < n) (sym sized.one_each) inside)) k in_pieces,
    )
