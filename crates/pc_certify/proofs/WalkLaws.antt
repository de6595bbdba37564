-- The durations along which the walks of a certificate are longest.
use Rattle.std.proofs.Common.{◌≡◌, ℕ, Bool, true, false, suc, ◌+◌, ◌<◌, ◌≤◌, List, [], ◌∷◌, ◌++◌, length, take, map, get_or, sym, ap, ◌∙◌, arith}
use Rattle.std.proofs.Math.Seq.{take-suc}
use Rattle.std.proofs.lemmas.List.{get_or-map, length-map, take_all}
use Rattle.pc_model.specs.declared.Term.{Term}
use Rattle.pc_model.specs.Network.{Network}
use Rattle.pc_model.specs.Schedule.{normals, crashes, term_at, AreTerms}
use Rattle.pc_model.proofs.Schedules.Durations.{normals-at, crashes-at}
use Rattle.pc_times.specs.Times.{AreLengths}
use Rattle.pc_crash.specs.Priced.{PricedNetwork}
use Rattle.pc_crash.specs.Terms.{AreWithinLimits}
use Rattle.pc_check.specs.Walks.{length_in}
use Rattle.pc_certify.specs.inside.Walks.{durations_in}

-- one more of the numbers of the terms, each of which has one
number-more : (number : Term → ℕ) (terms : List Term) (a x : ℕ) (items later : List ℕ) → items ≡ take a (map number terms) →
    later ≡ items ++ x ∷ [] → a < length terms → x ≡ number (term_at terms a) → later ≡ take (a + 1) (map number terms)
number-more number terms a x items later was pushed within is =
    let next : suc a ≡ a + 1 = omega arith in
    let inside : a < length (map number terms) = omega (arith, within, length-map terms number) in
    let here : x ≡ get_or (map number terms) a 0 = is ∙ sym (get_or-map number terms a _ 0 within) in
    pushed ∙ ap (λ (l : List ℕ). l ++ x ∷ []) was ∙ ap (λ (n : ℕ). take a (map number terms) ++ n ∷ []) here ∙ sym (take-suc (map number terms) a 0 inside) ∙ ap (λ n. take n (map number terms)) next

-- all of them
number-whole : (number : Term → ℕ) (terms : List Term) (items : List ℕ) (a : ℕ) → items ≡ take a (map number terms) → length terms ≤ a → items ≡ map number terms
number-whole number terms items a is all = is ∙ take_all a (map number terms) (omega (arith, all, length-map terms number))

-- those of the activities in one of the walks
pub durations-more : (is_crash : Bool) (net : PricedNetwork) (a x : ℕ) (items later : List ℕ) → items ≡ take a (durations_in is_crash net.terms) →
    later ≡ items ++ x ∷ [] → a < length net.terms → x ≡ length_in net is_crash a → later ≡ take (a + 1) (durations_in is_crash net.terms)
durations-more true net = number-more (λ (t : Term). t.crash) net.terms
durations-more false net = number-more (λ (t : Term). t.normal) net.terms

pub durations-whole : (is_crash : Bool) (terms : List Term) (items : List ℕ) (a : ℕ) → items ≡ take a (durations_in is_crash terms) → length terms ≤ a → items ≡ durations_in is_crash terms
durations-whole true = number-whole (λ (t : Term). t.crash)
durations-whole false = number-whole (λ (t : Term). t.normal)

normals-each : (net : Network) (terms : List Term) → AreTerms net terms → length (normals terms) ≡ length net.arcs
normals-each net terms are = length-map terms (λ (t : Term). t.normal) ∙ are.one_each

crashes-each : (net : Network) (terms : List Term) → AreTerms net terms → length (crashes terms) ≡ length net.arcs
crashes-each net terms are = length-map terms (λ (t : Term). t.crash) ∙ are.one_each

-- none is above the greatest length
pub normals-lengths : (net : Network) (terms : List Term) → AreTerms net terms → AreWithinLimits terms → AreLengths net (normals terms)
normals-lengths net terms are limits = record {
  one_each = normals-each net terms are;
  small = λ a below. let known : a < length terms = omega (arith, below, are.one_each) in omega (arith, normals-at terms a known, limits.short a known);
}

pub crashes-lengths : (net : Network) (terms : List Term) → AreTerms net terms → AreWithinLimits terms → AreLengths net (crashes terms)
crashes-lengths net terms are limits = record {
  one_each = crashes-each net terms are;
  small = λ a below. let known : a < length terms = omega (arith, below, are.one_each) in omega (arith, crashes-at terms a known, are.ordered a known, limits.short a known);
}
