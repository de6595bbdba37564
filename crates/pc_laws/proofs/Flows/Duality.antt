-- Weak duality and complementary slackness.
use Rattle.std.proofs.Common.{◌≡◌, ℕ, pos, ◌≤ℤ◌, ◌+◌, ◌*◌, ◌<◌, ◌≤◌, List, length, refl, ap, arith}
use Rattle.std.proofs.lemmas.Int.{ints}
use Rattle.std.proofs.Math.Nat.{mul-add, mul-le-mul_right}
use Rattle.pc_model.specs.declared.Term.{Term}
use Rattle.pc_model.specs.Sums.{sum_to}
use Rattle.pc_model.specs.Walk.{from_of, to_of}
use Rattle.pc_model.specs.Network.{Network}
use Rattle.pc_model.specs.Schedule.{normal_of, crash_of, IsSchedule, lesser_of}
use Rattle.pc_model.specs.Cost.{Knees, activity_cost, cost_of, IsLeastCost, IsPriced}
use Rattle.pc_laws.specs.Flow.{whole_flow, IsFlow, promise_of, promise, bound_of}
use Rattle.pc_laws.specs.Tight.{AreTight}
use Rattle.pc_model.proofs.Sums.{sum_to-zero}
use Rattle.pc_model.proofs.Costs.PieceLaws.{knee-normal}
use Rattle.pc_laws.proofs.Flows.Balance.{asked_at_most, asked_exactly}
use Rattle.pc_laws.proofs.Flows.Activity.{knees_ask, knees_balance, crash_balances, flow_spans}

module _ (net : Network) (terms : List Term) (knees : Knees) (priced : IsPriced net terms knees)
    (f : ℕ → ℕ → ℕ) (g : ℕ → ℕ) (value : ℕ) (flows : IsFlow net knees f g value) where
  -- weak duality: no schedule for a length costs less than what a flow promises less the length times its value
  pub weak_duality : (limit : ℕ) (d T : ℕ → ℕ) → IsSchedule net terms limit d T →
      promise terms knees f g ≤ cost_of terms knees d + limit * value
  weak_duality limit d T s =
      omega (
        arith,
        ap (λ n. sum_to n (promise_of terms knees f g)) priced.terms_fit.one_each,
        ap (λ n. sum_to n (λ a. activity_cost terms knees a (d a))) priced.terms_fit.one_each,
        asked_at_most net (whole_flow knees f g) value priced.range priced.sound flows.conserved flows.leaves
            T d (promise_of terms knees f g) (λ a. activity_cost terms knees a (d a)) s.starts s.fits
            (λ a h. omega (
              arith,
              knees_ask (knees.count a) (knees.knee a) (knees.rise a) (f a) (d a) (λ k inside. flows.capacity a k h inside),
              mul-le-mul_right (g a) (s.enough a h),
              mul-add (d a) (sum_to (knees.count a) (f a)) (g a),
            )),
        mul-le-mul_right value s.ends,
      )

  pub weak_duality-bound : (limit : ℕ) (d T : ℕ → ℕ) → IsSchedule net terms limit d T →
      bound_of terms knees f g value limit ≤ℤ pos (cost_of terms knees d)
  weak_duality-bound limit d T s = omega (arith, ints, weak_duality limit d T s)

  -- complementary slackness: where the activities are tight, the lesser of normal and gap makes a schedule
  pub tight_schedule : (T : ℕ → ℕ) → AreTight net terms knees f g T → IsSchedule net terms (T net.end) (lesser_of net terms T) T
  tight_schedule T are_tight = record {
    enough = λ a h. let room = (are_tight.tight a h).room in omega (arith, priced.terms_fit.ordered a (omega arith), room);
    within = λ a h. omega arith;
    starts = are_tight.starts;
    fits = λ a h. let room = (are_tight.tight a h).room in omega (arith, room);
    ends = omega arith;
  }

  asks_exactly : (T : ℕ → ℕ) → AreTight net terms knees f g T → (a : ℕ) → a < length net.arcs →
      promise_of terms knees f g a ≡ activity_cost terms knees a (lesser_of net terms T a) + lesser_of net terms T a * (sum_to (knees.count a) (f a) + g a)
  asks_exactly T are_tight a h =
      let tight = are_tight.tight a h in
      let room = tight.room in
      let low : crash_of terms a ≤ normal_of terms a = priced.terms_fit.ordered a (omega arith) in
      omega (
        arith,
        knees_balance (knees.count a) (knees.knee a) (knees.rise a) (f a) (T (from_of net.arcs a)) (T (to_of net.arcs a)) (normal_of terms a) (lesser_of net terms T a)
            tight.slack.at_knees (λ k inside. knee-normal net terms knees priced.knees_fit a k h inside) (omega arith) refl,
        crash_balances (T (from_of net.arcs a)) (T (to_of net.arcs a)) (crash_of terms a) (normal_of terms a) (g a) (lesser_of net terms T a)
            tight.slack.above_crash room low refl,
        mul-add (lesser_of net terms T a) (sum_to (knees.count a) (f a)) (g a),
      )

  spans_exactly : (T : ℕ → ℕ) → AreTight net terms knees f g T → (a : ℕ) → a < length net.arcs →
      T (from_of net.arcs a) * (sum_to (knees.count a) (f a) + g a) + lesser_of net terms T a * (sum_to (knees.count a) (f a) + g a) ≡ T (to_of net.arcs a) * (sum_to (knees.count a) (f a) + g a)
  spans_exactly T are_tight a h =
      let tight = are_tight.tight a h in
      let room = tight.room in
      let low : crash_of terms a ≤ normal_of terms a = priced.terms_fit.ordered a (omega arith) in
      flow_spans (T (from_of net.arcs a)) (T (to_of net.arcs a)) (normal_of terms a) (sum_to (knees.count a) (f a) + g a) (lesser_of net terms T a)
      (λ above. omega (
        arith,
        sum_to-zero (knees.count a) (f a) (λ k inside. (tight.slack.at_knees k inside).above (omega (arith, knee-normal net terms knees priced.knees_fit a k h inside))),
        tight.slack.above_crash (omega arith),
      ))
      (omega arith) refl

  -- its cost and the end's time times the value are what the flow promises
  pub tight_promise : (T : ℕ → ℕ) → AreTight net terms knees f g T →
      promise terms knees f g ≡ cost_of terms knees (lesser_of net terms T) + T net.end * value
  tight_promise T are_tight =
      omega (
        arith,
        ap (λ n. sum_to n (promise_of terms knees f g)) priced.terms_fit.one_each,
        ap (λ n. sum_to n (λ a. activity_cost terms knees a (lesser_of net terms T a))) priced.terms_fit.one_each,
        asked_exactly net (whole_flow knees f g) value priced.range priced.sound flows.conserved flows.leaves
            T (lesser_of net terms T) (promise_of terms knees f g) (λ a. activity_cost terms knees a (lesser_of net terms T a)) are_tight.starts
            (spans_exactly T are_tight) (asks_exactly T are_tight),
      )

  -- and no schedule that ends as early costs less
  pub tight_least : (T : ℕ → ℕ) → AreTight net terms knees f g T → IsLeastCost net terms knees (T net.end) (cost_of terms knees (lesser_of net terms T))
  tight_least T are_tight = record {
    reached = (lesser_of net terms T, T, tight_schedule T are_tight, refl);
    least = λ d times s. omega (arith, weak_duality (T net.end) d times s, tight_promise T are_tight);
  }
