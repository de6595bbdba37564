-- A label sought for an event.
use Rattle.std.proofs.Common.{◌≡◌, ℕ, Bool, true, false, ◌+◌, ◌<◌, ◌⊎◌, length, sym, ◌∙◌, ap, subst, inl, inr, arith}
use Rattle.std.specs.Prelude.{◌↔◌, IsTrue}
use Rattle.std.proofs.lemmas.Bool.{cases_lt}
use Rattle.pc_model.specs.Walk.{from_of, to_of}
use Rattle.pc_crash.specs.Priced.{PricedNetwork}
use Rattle.pc_flow.specs.board.Sheets.{Sheet, rank_of}
use Rattle.pc_flow.specs.inside.board.Sheets.{lost_of}
use Rattle.pc_flow.specs.inside.search.Growing.{IsAt, IsAtLost, IsReached, GoesOn}
use Rattle.pc_flow.proofs.lemmas.search.GrowingLaws.{goes_on-joins, grows-labelled}
use Rattle.pc_flow.proofs.lemmas.search.WayLaws.{settled-both}

-- all at an event that had no label and has got one are settled: where the other end had a label, both have one
pub goes_on-labelled : (net : PricedNetwork) (these all : ℕ → Type 0) (s t : Sheet) (e : ℕ)
    → ((a : ℕ) → a < length net.network.arcs → all a → these a ⊎ IsAt net e a) → rank_of s e ≡ 0 → 0 < rank_of t e → GoesOn net these s t → GoesOn net all s t
goes_on-labelled net these all s t e split none labelled on = record {
  grows = on.grows;
  search = on.search;
  room = on.room;
  settled = λ a known this reached. elim (split a known this) [
    | inl early ↦ on.settled a known early reached
    | inr at ↦ settled-both net t a (both a at reached).0 (both a at reached).1
  ];
} where
  both : (a : ℕ) → IsAt net e a → IsReached net s a → (0 < rank_of t (from_of net.network.arcs a)) × (0 < rank_of t (to_of net.network.arcs a))
  both a (inl from) (inl reached) = absurd (omega (arith, ap (rank_of s) from, none, reached))
  both a (inl from) (inr reached) = (omega (arith, ap (rank_of t) from, labelled), grows-labelled s t on.grows (to_of net.network.arcs a) reached)
  both a (inr to) (inl reached) = (grows-labelled s t on.grows (from_of net.network.arcs a) reached, omega (arith, ap (rank_of t) to, labelled))
  both a (inr to) (inr reached) = absurd (omega (arith, ap (rank_of s) to, none, reached))

-- an event without a label that a visit reports as still without one
pub unlabelled-still : (found : Bool) (t : Sheet) (e : ℕ) → (IsTrue found ↔ (0 < rank_of t e)) → found ≡ false → rank_of t e ≡ 0
unlabelled-still found t e is not_found =
    elim (cases_lt 0 (rank_of t e)) [
      | inl some ↦ absurd (let yes : found ≡ true = is.1 some in cc)
      | inr none ↦ omega arith
    ]

-- an activity at one of the first i + 1 lost events is at one of the first i, or at the next
lost-split : (net : PricedNetwork) (s : Sheet) (i e : ℕ) → e ≡ lost_of s i
    → (a : ℕ) → a < length net.network.arcs → IsAtLost net s (i + 1) a → IsAtLost net s i a ⊎ IsAt net e a
lost-split net s i e same a known lost =
    elim (cases_lt lost.0 i) [
      | inl early ↦ inl (lost.0, early, lost.2)
      | inr late ↦
          let here : lost_of s lost.0 ≡ e = (let is : lost.0 ≡ i = omega (arith, lost.1) in ap (lost_of s) is ∙ sym same) in
          inr (subst (λ f. IsAt net f a) here lost.2)
    ]

-- a label is sought for one lost event more
pub lost-goes_on : (net : PricedNetwork) (s t u : Sheet) (i e : ℕ) → e ≡ lost_of s i → GoesOn net (IsAtLost net s i) s t → GoesOn net (IsAt net e) t u
    → GoesOn net (IsAtLost net s (i + 1)) s u
lost-goes_on net s t u i e same before next =
    goes_on-joins net (IsAtLost net s i) (IsAt net e) (IsAtLost net s (i + 1)) s t u (lost-split net s i e same) before next

-- one lost event more has a label already
pub lost-labelled : (net : PricedNetwork) (s t : Sheet) (i e : ℕ) → e ≡ lost_of s i → rank_of s (lost_of s i) ≡ 0 → 0 < rank_of t e
    → GoesOn net (IsAtLost net s i) s t → GoesOn net (IsAtLost net s (i + 1)) s t
lost-labelled net s t i e same none labelled on =
    goes_on-labelled net (IsAtLost net s i) (IsAtLost net s (i + 1)) s t e (lost-split net s i e same) (ap (rank_of s) same ∙ none) labelled on
