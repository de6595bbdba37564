-- Sums over what passed last of all activities, when one of them is renewed.
use Rattle.std.proofs.Common.{◌≡◌, ℕ, ◌+◌, ◌*◌, ◌^◌, ◌<◌, ◌≤◌, zero, Bool, true, false, cond, List, length, inl, inr, refl, sym, ap, subst, ◌∙◌, arith}
use Rattle.std.specs.Prelude.{◌==◌, slice_index, if◌then◌else◌}
use Rattle.std.proofs.lemmas.Bool.{cases_eq, eq-eqb, ne_eqb}
use Rattle.pc_model.specs.Sums.{sum_to}
use Rattle.pc_model.proofs.Sums.{sum_to-zero, sum_to-bound, sum_to-change, sum_to-most}
use Rattle.pc_crash.specs.Priced.{PricedNetwork}
use Rattle.pc_crash.specs.declared.crash_net.TheConstants.{MAX_ACTIVITY_COST}
use Rattle.pc_check.specs.declared.fast.passed.Passed.{Passed}
use Rattle.pc_check.specs.inside.fast.Passed.{passed_flow, passed_cost, ArePassed, IsNothing}
use Rattle.pc_check.specs.inside.Safe.{AreSums, IsExchanged, IsRenewed}

-- ---- the flows

-- what flows along an activity that `event_of` puts at an event, and else 0
abbrev put_at : List Passed → (ℕ → ℕ) → ℕ → ℕ → ℕ
put_at rows event_of e a = if event_of a == e then passed_flow rows a else 0

pub sums_exchanged : (net : PricedNetwork) (rows more : List Passed) {flow cost : ℕ} (event_of : ℕ → ℕ) (a : ℕ) (old new : List ℕ) →
    a < length net.network.arcs → IsRenewed rows more a flow cost → IsExchanged old new (event_of a) (passed_flow rows a) flow
    → AreSums net rows event_of old → AreSums net more event_of new
sums_exchanged net rows more {flow} {cost} event_of a old new known renewed exchanged are = λ e lt.
    let m = length net.network.arcs in
    let change : sum_to m (put_at more event_of e) + put_at rows event_of e a ≡ sum_to m (put_at rows event_of e) + put_at more event_of e a =
    sum_to-change m (put_at more event_of e) (put_at rows event_of e) a known (λ b below other. ap (λ (row : Passed). if event_of b == e then row.flow else 0) (renewed.others b other)) in
    let was : slice_index old e ≡ sum_to m (put_at rows event_of e) = are e lt in
    elim (cases_eq e (event_of a)) [
      | inl here ↦
          let at : (event_of a == e) ≡ true = eq-eqb (event_of a) e (sym here) in
          let before : put_at rows event_of e a ≡ passed_flow rows a = ap (λ b. cond b (passed_flow rows a) 0) at in
          let now : put_at more event_of e a ≡ flow = ap (λ b. cond b (passed_flow more a) 0) at ∙ renewed.flow in
          let there : slice_index new e + passed_flow rows a ≡ slice_index old e + flow = subst (λ i. slice_index new i + passed_flow rows a ≡ slice_index old i + flow) (sym here) exchanged.there in
          omega (arith, change, before, now, there, was)
      | inr elsewhere ↦
          let off : (event_of a == e) ≡ false = ne_eqb (event_of a) e (λ q. elsewhere (sym q)) in
          let before : put_at rows event_of e a ≡ 0 = ap (λ b. cond b (passed_flow rows a) 0) off in
          let now : put_at more event_of e a ≡ 0 = ap (λ b. cond b (passed_flow more a) 0) off in
          omega (arith, change, before, now, exchanged.elsewhere e elsewhere, was)
    ]

-- the flow of an activity is in the sum of the event where it is put
pub is_in_sum : (net : PricedNetwork) (rows : List Passed) (event_of : ℕ → ℕ) (a : ℕ) (sums : List ℕ) → a < length net.network.arcs →
    event_of a < net.network.events → AreSums net rows event_of sums → passed_flow rows a ≤ slice_index sums (event_of a)
is_in_sum net rows event_of a sums known there are =
    let own : put_at rows event_of (event_of a) a ≡ passed_flow rows a = ap (λ b. cond b (passed_flow rows a) 0) (eq-eqb (event_of a) (event_of a) refl) in
    omega (arith, own, sum_to-bound (length net.network.arcs) (put_at rows event_of (event_of a)) a known, are (event_of a) there)

at_most : (b : Bool) (x most : ℕ) → x ≤ most → (if b then x else 0) ≤ most
at_most true x most h = h
at_most false x most h = omega arith

either_zero : (b : Bool) → cond b 0 zero ≡ zero
either_zero true = refl
either_zero false = refl

-- no sum is larger than all activities can make it
pub sum_small : {net : PricedNetwork} {rows : List Passed} (event_of : ℕ → ℕ) (sums : List ℕ) (e : ℕ) → ArePassed net rows →
    AreSums net rows event_of sums → e < net.network.events → slice_index sums e ≤ length net.network.arcs * 2 ^ 67
sum_small {net} {rows} event_of sums e passed are lt =
    omega (
      arith,
      are e lt,
      sum_to-most (length net.network.arcs) (2 ^ 67) (put_at rows event_of e)
          (λ a below. at_most (event_of a == e) (passed_flow rows a) (2 ^ 67) (omega (arith, (passed.each a below).small))),
    )

-- nothing flows where nothing has passed
pub no_sums : {net : PricedNetwork} {rows : List Passed} (event_of : ℕ → ℕ) (sums : List ℕ) → IsNothing net rows →
    ((e : ℕ) → e < net.network.events → slice_index sums e ≡ 0) → AreSums net rows event_of sums
no_sums {net} {rows} event_of sums nothing none = λ e lt.
    none e lt ∙ sym (sum_to-zero (length net.network.arcs) (put_at rows event_of e) (λ a below. ap (λ x. if event_of a == e then x else 0) (nothing.flow a below) ∙ either_zero (event_of a == e)))

-- ---- the cost

pub cost_exchanged : {rows more : List Passed} {flow cost : ℕ} (m a : ℕ) → a < m → IsRenewed rows more a flow cost → sum_to m (passed_cost more) + passed_cost rows a ≡ sum_to m
    (passed_cost rows) + cost
cost_exchanged {rows} {more} {flow} {cost} m a known renewed =
    omega (arith, sum_to-change m (passed_cost more) (passed_cost rows) a known (λ b below other. ap (λ (row : Passed). row.cost) (renewed.others b other)), renewed.cost)

pub cost_in_sum : (rows : List Passed) (m a : ℕ) → a < m → passed_cost rows a ≤ sum_to m (passed_cost rows)
cost_in_sum rows m a known = sum_to-bound m (passed_cost rows) a known

pub cost_small : {net : PricedNetwork} {rows : List Passed} → ArePassed net rows → sum_to (length net.network.arcs) (passed_cost rows) ≤ length net.network.arcs * MAX_ACTIVITY_COST
cost_small {net} {rows} passed = sum_to-most (length net.network.arcs) MAX_ACTIVITY_COST (passed_cost rows) (λ a below. (passed.each a below).cheap)

pub no_cost : {net : PricedNetwork} {rows : List Passed} → IsNothing net rows → 0 ≡ sum_to (length net.network.arcs) (passed_cost rows)
no_cost {net} {rows} nothing = sym (sum_to-zero (length net.network.arcs) (passed_cost rows) nothing.cost)
