-- What the value of a flow is at most, and what it is at least: by what crosses a cut of the events.
use Rattle.std.proofs.Common.{◌≡◌, ◌≤◌, ◌<◌, ◌+◌, ◌*◌, ◌^◌, ◌⊎◌, inl, inr, ⊎_elim, ℕ, zero, suc, Bool, true, false, not, ◌&&◌, List, [], ◌∷◌, length, arith, refl, sym, ◌∙◌, subst}
use Rattle.std.specs.Prelude.{◌==◌, if◌then◌else◌, nat_lt, All}
use Rattle.std.proofs.lemmas.Bool.{lt-ltb, le-ltb, ltb-true, ltb-false, not-true, not_from_true, not_from_false, and_parts, and_from, and_left, and_right, cond-true, cond-false, cond_both}
use Rattle.std.proofs.lemmas.List.Elements.{All-filter}
use Rattle.pc_model.specs.declared.Term.{Term}
use Rattle.pc_model.specs.declared.PieceRow.{PieceRow}
use Rattle.pc_model.specs.Sums.{sum_to}
use Rattle.pc_model.specs.Greatest.{StandsBelow}
use Rattle.pc_model.specs.Walk.{from_of, to_of, IsWalk}
use Rattle.pc_model.specs.Network.{Network, IsInRange, IsSound, IsPartOrder, IsOrder}
use Rattle.pc_model.specs.Schedule.{term_at, crash_of, slope_of, AreTerms, IsSchedule, IsAllCrashLength}
use Rattle.pc_model.specs.Cost.{Knees, IsPriced, last_slope}
use Rattle.pc_model.specs.Pieces.{pieces_of, slope_in, knees_of, ArePieces}
use Rattle.pc_laws.specs.Flow.{whole_flow, outflow, IsConserved}
use Rattle.pc_laws.specs.Segment.{is_forward, is_backward}
use Rattle.pc_laws.specs.State.{State, IsOptimal}
use Rattle.pc_model.specs.declared.limits.TheConstants.{MAX_ACTIVITIES, MAX_SLOPE}
use Rattle.pc_model.proofs.Costs.PieceLaws.{last_slope-pieces}
use Rattle.pc_model.proofs.Sums.{sum_to-le, sum_to-zero, sum_to-bound}
use Rattle.pc_laws.proofs.Flows.Balance.{crossing}
use Rattle.pc_model.proofs.Schedules.Shortest.{all_crash_schedule}
use Rattle.pc_model.proofs.Walks.OrderLaws.{stands_or_not, stands_in_order, same_place}

-- a tight activity between times s and t carries at most its rises where it crosses a cut between the events that
-- another schedule has earlier and the others, since its gap must be above crash
cut_at : (c k s t crash d f g most : ℕ) → crash ≤ d → c + d ≤ k → f ≤ most → (s + crash < t → g ≡ 0)
    → (if not (nat_lt c s) && nat_lt k t then f + g else 0) ≤ most
cut_at c k s t crash d f g most enough fits within none =
    cond_both (not (nat_lt c s) && nat_lt k t) (f + g) 0 (λ x. x ≤ most)
    (λ crosses.
    let (late, early) = and_parts (not (nat_lt c s)) (nat_lt k t) crosses in
    omega (arith, within, none (omega (arith, ltb-false c s (not-true (nat_lt c s) late), ltb-true k t early))))
    (λ rests. omega arith)

-- while some schedule is shorter than the present length, the value is at most the sum of last slopes
pub value_at_most : (net : Network) (terms : List Term) (knees : Knees) (st : State) (limit : ℕ) (durations times : ℕ → ℕ) → IsPriced net terms knees
    → IsOptimal net terms knees st → IsSchedule net terms limit durations times → limit < st.limit
    → st.value ≤ sum_to (length net.arcs) (last_slope knees)
value_at_most net terms knees st limit durations times priced optimal schedule shorter =
    let along : ℕ → ℕ = whole_flow knees st.flow st.beside in
    let earlier : ℕ → Bool = λ e. nat_lt (times e) (st.time e) in
    omega (
      arith,
      crossing net along st.value priced.range priced.sound optimal.flow.conserved optimal.flow.leaves earlier
          (le-ltb (times net.start) (st.time net.start) (omega (arith, schedule.starts, optimal.tight.starts)))
          (lt-ltb (times net.end) (st.time net.end) (omega (arith, schedule.ends, optimal.ends))),
      sum_to-le (length net.arcs) (λ a. if is_forward net.arcs earlier a then along a else 0) (last_slope knees)
          (λ a l. cut_at (times (from_of net.arcs a)) (times (to_of net.arcs a)) (st.time (from_of net.arcs a)) (st.time (to_of net.arcs a))
          (crash_of terms a) (durations a) (sum_to (knees.count a) (st.flow a)) (st.beside a) (last_slope knees a) (schedule.enough a l) (schedule.fits a l)
          (sum_to-le (knees.count a) (st.flow a) (knees.rise a) (λ k below. optimal.flow.capacity a k l below))
          (optimal.tight.tight a l).slack.above_crash),
    )

-- so while the present length is above the all-crash length
pub value_above_crash : (net : Network) (terms : List Term) (knees : Knees) (order : List ℕ) (st : State) (shortest : ℕ) → IsPriced net terms knees
    → IsOrder net order → IsOptimal net terms knees st → IsAllCrashLength net terms shortest → shortest < st.limit
    → st.value ≤ sum_to (length net.arcs) (last_slope knees)
value_above_crash net terms knees order st shortest priced ordered optimal longest above =
    let (times, schedule) = all_crash_schedule net terms order shortest priced.range priced.sound priced.terms_fit ordered longest in
    value_at_most net terms knees st shortest (crash_of terms) times priced optimal schedule above

-- a test for: of two things the second is known
is_second : {P Q : Type 0} → P ⊎ Q → Bool
is_second (inl p) = false
is_second (inr q) = true

second_true : {P Q : Type 0} (known : P ⊎ Q) → (P → ⊥) → is_second known ≡ true
unfolding is_second
second_true (inl p) none = absurd (none p)
second_true (inr q) none = refl

second_false : {P Q : Type 0} (known : P ⊎ Q) → (Q → ⊥) → is_second known ≡ false
unfolding is_second
second_false (inl p) none = refl
second_false (inr q) none = absurd (none q)

-- a test for: the event is not among the first n of a list
abbrev beyond : List ℕ → ℕ → ℕ → Bool
beyond xs n e = is_second (stands_or_not xs n e)

beyond_true : (xs : List ℕ) (n e : ℕ) → (StandsBelow xs n e → ⊥) → beyond xs n e ≡ true
beyond_true xs n e none = second_true (stands_or_not xs n e) none

beyond_false : (xs : List ℕ) (n e : ℕ) → StandsBelow xs n e → beyond xs n e ≡ false
beyond_false xs n e (j, l, at) = second_false (stands_or_not xs n e) (λ none. none j l at)

module _ (net : Network) (order : List ℕ) (part : IsPartOrder net order) (n : ℕ) (within : n ≤ length order) where
  -- among the first n events of the order is each activity's beginning event whose ending event is
  begins_below : (a : ℕ) → a < length net.arcs → StandsBelow order n (to_of net.arcs a) → StandsBelow order n (from_of net.arcs a)
  begins_below a l (k, below, at) =
      let s = part.before k a (omega arith) l (sym at) in (s.0, omega (arith, s.1), s.2)

  -- and so is the beginning of each walk that ends among them
  walk_below : (walk : List ℕ) (e f : ℕ) → IsWalk net.arcs e walk f → StandsBelow order n f → StandsBelow order n e
  walk_below [] e f at s = subst (StandsBelow order n) (sym at) s
  walk_below (a ∷ walk) e f (l, at, rest) s =
      subst (StandsBelow order n) at (begins_below a l (walk_below walk (to_of net.arcs a) f rest s))

  -- no activity leads back among them
  none_back : (a : ℕ) → a < length net.arcs → is_backward net.arcs (beyond order n) a ≡ false
  none_back a l =
      ⊎_elim
      (λ stands. and_left (beyond order n (from_of net.arcs a)) _ (beyond_false order n (from_of net.arcs a) (begins_below a l stands)))
      (λ none. and_right _ (not (beyond order n (to_of net.arcs a)))
      (not_from_true _ (beyond_true order n (to_of net.arcs a) (λ (j, below, at). none j below at))))
      (stands_or_not order n (to_of net.arcs a))

-- no activity has more flow than the value
pub flow_at_most : (net : Network) (order : List ℕ) (along : ℕ → ℕ) (value : ℕ) → IsInRange net → IsSound net → IsOrder net order
    → IsConserved net along → outflow net along net.start ≡ value → (a : ℕ) → a < length net.arcs → along a ≤ value
flow_at_most net order along value range sound ordered through leaves a l =
    let (p, inside, at) = stands_in_order net order ordered (from_of net.arcs a) (range.from_in a l) in
    let part = ordered.part in
    let here : StandsBelow order (p + 1) (from_of net.arcs a) = (p, omega arith, at) in
    let there : StandsBelow order (p + 1) (to_of net.arcs a) → ⊥ = λ (k, below, is).
    (let (j, before, begins) = part.before k a (omega arith) l (sym is) in
    omega (arith, same_place net order part j p (omega arith) inside (begins ∙ sym at))) in
    let starts : StandsBelow order (p + 1) net.start =
    (let (walk, walked) = sound.reached (from_of net.arcs a) (range.from_in a l) in walk_below net order part (p + 1) (omega arith) walk net.start _ walked here) in
    let ends : StandsBelow order (p + 1) net.end → ⊥ = λ s.
    (let (walk, walked) = sound.reaches (to_of net.arcs a) (range.to_in a l) in there (walk_below net order part (p + 1) (omega arith) walk _ net.end walked s)) in
    let cut : ℕ → Bool = beyond order (p + 1) in
    omega (
      arith,
      crossing net along value range sound through leaves cut
          (beyond_false order (p + 1) net.start starts) (beyond_true order (p + 1) net.end ends),
      sum_to-bound (length net.arcs) (λ b. if is_forward net.arcs cut b then along b else 0) a l,
      cond-true (is_forward net.arcs cut a) (along a) 0
          (and_from _ _ (not_from_false _ (beyond_false order (p + 1) (from_of net.arcs a) here)) (beyond_true order (p + 1) (to_of net.arcs a) there)),
      sum_to-zero (length net.arcs) (λ b. if is_backward net.arcs cut b then along b else 0)
          (λ b k. cond-false (is_backward net.arcs cut b) (along b) 0 (none_back net order part (p + 1) (omega arith) b k)),
    )

-- Under the limits

-- the slope of each of an activity's pieces is within the limit
slope_in-small : (term : Term) (pieces : List PieceRow) → term.slope ≤ MAX_SLOPE → All (λ (piece : PieceRow). piece.slope ≤ MAX_SLOPE) pieces →
    (k : ℕ) → k ≤ length pieces → slope_in term pieces k ≤ MAX_SLOPE
slope_in-small term pieces first others zero inside = first
slope_in-small term pieces first others (suc k) inside = others k (record { activity = 0; units = 0; slope = 0 }) (omega arith)

-- so is each last slope
pub last_slope-small : (terms : List Term) (pieces : List PieceRow) (a : ℕ) → ArePieces terms pieces →
    ((b : ℕ) → b < length terms → slope_of terms b ≤ MAX_SLOPE) → All (λ (piece : PieceRow). piece.slope ≤ MAX_SLOPE) pieces →
    a < length terms → last_slope (knees_of terms pieces) a ≤ MAX_SLOPE
last_slope-small terms pieces a right firsts others inside =
    subst (λ n. n ≤ MAX_SLOPE) (sym (last_slope-pieces terms pieces a right inside))
    (slope_in-small (term_at terms a) (pieces_of pieces a) (firsts a inside)
    (All-filter (λ piece. piece.activity == a) (λ (piece : PieceRow). piece.slope ≤ MAX_SLOPE) pieces others) (length (pieces_of pieces a)) (omega arith))

-- and their sum is below 10^13
pub last_slopes-small : (net : Network) (terms : List Term) (pieces : List PieceRow) → AreTerms net terms → ArePieces terms pieces →
    ((b : ℕ) → b < length terms → slope_of terms b ≤ MAX_SLOPE) → All (λ (piece : PieceRow). piece.slope ≤ MAX_SLOPE) pieces →
    length net.arcs ≤ MAX_ACTIVITIES → sum_to (length net.arcs) (last_slope (knees_of terms pieces)) < 10 ^ 13
last_slopes-small net terms pieces sized right firsts others few =
    omega (arith, few, below (length net.arcs) (omega (arith, sized.one_each)))
  where
    below : (n : ℕ) → n ≤ length terms → sum_to n (last_slope (knees_of terms pieces)) ≤ n * MAX_SLOPE
    below zero inside = omega arith
    below (suc n) inside = omega (arith, below n (omega arith), last_slope-small terms pieces n right firsts others (omega arith))
