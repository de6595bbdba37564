-- Over different events at most two looks are at each activity.
use Rattle.std.proofs.Common.{◌≡◌, ◌≢◌, ℕ, zero, suc, ◌+◌, ◌-◌, ◌*◌, ◌<◌, ◌≤◌, List, [], ◌∷◌, length, refl, sym, ◌∙◌, ap, arith}
use Rattle.std.specs.Prelude.{slice_index, sum_by}
use Rattle.std.proofs.lemmas.List.Sums.{sum_by-cons}
use Rattle.pc_model.specs.Greatest.{places}
use Rattle.pc_model.specs.Sums.{sum_to}
use Rattle.pc_net.specs.Networks.{events_from, events_to}
use Rattle.pc_net.specs.Degrees.{AreDistinct, degrees}
use Rattle.pc_crash.specs.Priced.{PricedNetwork}
use Rattle.pc_flow.specs.inside.search.Growing.{degree}

-- f (n - 1), .., f 1, f 0
listed : (ℕ → ℕ) → ℕ → List ℕ
listed f zero = []
listed f (suc n) = f n ∷ listed f n

length-listed : (f : ℕ → ℕ) (n : ℕ) → length (listed f n) ≡ n
unfolding listed
length-listed f zero = refl
length-listed f (suc n) = ap (λ k. suc k) (length-listed f n)

at-listed : (f : ℕ → ℕ) (n j : ℕ) → j < n → slice_index (listed f n) j ≡ f (n - 1 - j)
unfolding listed
at-listed f zero j below = absurd (omega (arith, below))
at-listed f (suc n) zero below = ap f (let e : n ≡ suc n - 1 - 0 = omega arith in e)
at-listed f (suc n) (suc j) below = at-listed f n j (omega arith) ∙ ap f (let e : n - 1 - j ≡ suc n - 1 - suc j = omega arith in e)

sum_by-listed : (w f : ℕ → ℕ) (n : ℕ) → sum_by w (listed f n) ≡ sum_to n (λ k. w (f k))
unfolding listed
sum_by-listed w f zero = refl
sum_by-listed w f (suc n) = omega (arith, sum_by-cons w (f n) (listed f n), sum_by-listed w f n)

distinct-listed : (f : ℕ → ℕ) (n : ℕ) → ((j k : ℕ) → j < k → k < n → f j ≢ f k) → AreDistinct (listed f n)
distinct-listed f n once j k before below same =
    let inside : k < n = omega (arith, below, length-listed f n) in
    once (n - 1 - k) (n - 1 - j) (omega arith) (omega arith)
    (sym (at-listed f n k inside) ∙ sym same ∙ at-listed f n j (omega arith))

sum_to-both : (v w : ℕ → ℕ) (n : ℕ) → sum_to n (λ k. v k + w k) ≡ sum_to n v + sum_to n w
sum_to-both v w zero = refl
sum_to-both v w (suc n) = omega (arith, sum_to-both v w n)

pub degrees-few : (net : PricedNetwork) (f : ℕ → ℕ) (n : ℕ) → ((j k : ℕ) → j < k → k < n → f j ≢ f k)
    → ((events : List ℕ) → AreDistinct events → degrees (events_from net.network.arcs) events ≤ length net.network.arcs)
    → ((events : List ℕ) → AreDistinct events → degrees (events_to net.network.arcs) events ≤ length net.network.arcs)
    → sum_to n (λ k. degree net (f k)) ≤ 2 * length net.network.arcs
degrees-few net f n once begin end =
    omega (
      arith,
      sum_to-both (λ k. length (places (f k) 0 (events_from net.network.arcs))) (λ k. length (places (f k) 0 (events_to net.network.arcs))) n,
      sum_by-listed (λ e. length (places e 0 (events_from net.network.arcs))) f n,
      sum_by-listed (λ e. length (places e 0 (events_to net.network.arcs))) f n,
      begin (listed f n) (distinct-listed f n once),
      end (listed f n) (distinct-listed f n once),
    )
