-- Steps that pass are a walk.
use Rattle.std.proofs.Common.{◌≡◌, ℕ, ◌+◌, ◌<◌, Bool, true, false, cond, List, [], ◌∷◌, length, ◌⊎◌, inl, inr, Option, Some, None, refl, sym, ap, subst, ◌∙◌, arith}
use Rattle.std.proofs.lemmas.Bool.{eqb-true, and_parts}
use Rattle.std.proofs.lemmas.Option.{cond_some, none-some, same_Some}
use Rattle.std.proofs.Math.ListN.{get_or-map}
use Rattle.std.specs.Prelude.{◌==◌, bytes_eq, slice_index}
use Rattle.pc_model.specs.declared.Term.{Term}
use Rattle.pc_model.specs.Network.{Network}
use Rattle.pc_model.specs.Walk.{from_of, to_of, IsWalk, walk_sum, IsSumOfWalk}
use Rattle.pc_model.specs.Schedule.{normals, crashes}
use Rattle.pc_text.proofs.FieldLemmas.{bind_some}
use Rattle.pc_crash.specs.Priced.{PricedNetwork}
use Rattle.pc_check.specs.declared.walk.Reached.{Reached}
use Rattle.pc_check.specs.Walks.{length_in, index_of, further, stepped, walked, at_start, is_through}

by_test : (b : Bool) (here : ℕ) (later : Option ℕ) (a : ℕ) → cond b (Some here) later ≡ Some a → (here ≡ a) ⊎ (later ≡ Some a)
by_test true here later a e = inl (same_Some here a e)
by_test false here later a e = inr e

index_within : (code : List ℕ) (i a : ℕ) (codes : List (List ℕ)) → index_of code i codes ≡ Some a → a < i + length codes
index_within code i a [] h = absurd cc
index_within code i a (c ∷ cs) h = elim (by_test (bytes_eq c code) i (index_of code (i + 1) cs) a h) [
  | inl same ↦ omega arith
  | inr later ↦ omega (arith, index_within code (i + 1) a cs later)
]

-- the steps lead along activities
pub record Leads (net : Network) (lengths : List ℕ) (at behind : Reached) : Type 0 where
  pub walk : List ℕ
  pub is_walk : IsWalk net.arcs at.event walk behind.event
  pub adds : at.sum + walk_sum lengths walk ≡ behind.sum

nowhere : (net : PricedNetwork) (lengths : ℕ → ℕ) (codes : List (List ℕ)) → walked net lengths None codes ≡ None
nowhere net lengths [] = refl
nowhere net lengths (code ∷ codes) = nowhere net lengths codes

one_step : (net : PricedNetwork) (lengths : ℕ → ℕ) (list : List ℕ) (at middle : Reached) (code : List ℕ) →
    length net.activities ≡ length net.network.arcs → ((a : ℕ) → lengths a ≡ slice_index list a) →
    stepped net lengths (Some at) code ≡ Some middle
    → (a : ℕ) × (a < length net.network.arcs) × (from_of net.network.arcs a ≡ at.event) × (to_of net.network.arcs a ≡ middle.event) × (at.sum + slice_index list a ≡ middle.sum)
one_step net lengths list at middle code all same h =
    let named = bind_some (index_of code 0 net.activities) (λ a. further net.network lengths at a) middle h in
    let goes = cond_some (from_of net.network.arcs named.0 == at.event) (record { event = to_of net.network.arcs named.0; sum = at.sum + lengths named.0 }) middle (named.2) in (
      named.0,
      omega (arith, index_within code 0 named.0 net.activities (named.1)),
      eqb-true _ _ (goes.0),
      ap (λ (r : Reached). r.event) (goes.1),
      ap (λ x. at.sum + x) (sym (same named.0)) ∙ ap (λ (r : Reached). r.sum) (goes.1),
    )

behind_step : (net : PricedNetwork) (lengths : ℕ → ℕ) (codes : List (List ℕ)) (found : Option Reached) (behind : Reached) →
    walked net lengths found codes ≡ Some behind →
    (middle : Reached) × (found ≡ Some middle) × (walked net lengths (Some middle) codes ≡ Some behind)
behind_step net lengths codes None behind h = absurd (none-some behind (sym (nowhere net lengths codes) ∙ h))
behind_step net lengths codes (Some middle) behind h = (middle, refl, h)

pub leads : (net : PricedNetwork) (lengths : ℕ → ℕ) (list : List ℕ) (at behind : Reached) (codes : List (List ℕ)) →
    length net.activities ≡ length net.network.arcs → ((a : ℕ) → lengths a ≡ slice_index list a) →
    walked net lengths (Some at) codes ≡ Some behind → Leads net.network list at behind
leads net lengths list at behind [] all same h =
    let is : at ≡ behind = same_Some at behind h in
    record { walk = []; is_walk = ap (λ (r : Reached). r.event) is; adds = omega (arith, ap (λ (r : Reached). r.sum) is) }
leads net lengths list at behind (code ∷ codes) all same h =
    let middle = behind_step net lengths codes (stepped net lengths (Some at) code) behind h in
    let step = one_step net lengths list at (middle.0) code all same (middle.1) in
    let rest = leads net lengths list (middle.0) behind codes all same (middle.2) in
    record {
      walk = step.0 ∷ rest.walk;
      is_walk = (step.1, step.2, subst (λ f. IsWalk net.network.arcs f rest.walk behind.event) (sym (step.3)) rest.is_walk);
      adds = omega (arith, step.4, rest.adds);
    }

through : (net : PricedNetwork) (sum : ℕ) (found : Option Reached) → is_through net.network sum found ≡ true →
    (behind : Reached) × (found ≡ Some behind) × (behind.event ≡ net.network.end) × (behind.sum ≡ sum)
through net sum None h = absurd cc
through net sum (Some behind) h = let parts = and_parts _ _ h in (behind, refl, eqb-true _ _ (parts.0), eqb-true _ _ (parts.1))

sum_of_walk : (net : PricedNetwork) (lengths : ℕ → ℕ) (list : List ℕ) (codes : List (List ℕ)) (sum : ℕ) →
    length net.activities ≡ length net.network.arcs → ((a : ℕ) → lengths a ≡ slice_index list a) →
    is_through net.network sum (walked net lengths (at_start net.network) codes) ≡ true →
    IsSumOfWalk net.network.arcs list net.network.start net.network.end sum
sum_of_walk net lengths list codes sum all same h =
    let end = through net sum (walked net lengths (at_start net.network) codes) h in
    let led = leads net lengths list (record { event = net.network.start; sum = 0 }) (end.0) codes all same (end.1) in
    (led.walk, subst (λ e. IsWalk net.network.arcs net.network.start led.walk e) (end.2) led.is_walk, omega (arith, led.adds, end.3))

-- the normal walk
pub normal_walk : (net : PricedNetwork) (codes : List (List ℕ)) (sum : ℕ) → length net.activities ≡ length net.network.arcs →
    is_through net.network sum (walked net (length_in net false) (at_start net.network) codes) ≡ true →
    IsSumOfWalk net.network.arcs (normals net.terms) net.network.start net.network.end sum
normal_walk net codes sum all h =
    sum_of_walk net (length_in net false) (normals net.terms) codes sum all (λ a. sym (get_or-map (λ (t : Term). t.normal) net.terms a (record { normal = 0; crash = 0; cost = 0; slope = 0 }))) h

-- the crash walk
pub crash_walk : (net : PricedNetwork) (codes : List (List ℕ)) (sum : ℕ) → length net.activities ≡ length net.network.arcs →
    is_through net.network sum (walked net (length_in net true) (at_start net.network) codes) ≡ true →
    IsSumOfWalk net.network.arcs (crashes net.terms) net.network.start net.network.end sum
crash_walk net codes sum all h =
    sum_of_walk net (length_in net true) (crashes net.terms) codes sum all (λ a. sym (get_or-map (λ (t : Term). t.crash) net.terms a (record { normal = 0; crash = 0; cost = 0; slope = 0 }))) h
