-- The first fault of the cards that a loop has passed.
use Rattle.std.proofs.Common.{◌≡◌, ℕ, ◌+◌, ◌<◌, ◌≤◌, List, [], length, get_or, take, map, ◌∷◌, ◌++◌, Option, Some, None, sym, ap, ◌∙◌, inl, inr, subst}
use Rattle.std.specs.List.{Any}
use Rattle.std.specs.Prelude.{All}
use Rattle.std.proofs.lemmas.List.{take_all, take_more, map_push}
use Rattle.std.proofs.lemmas.List.Elements.{All-get_or}
use Rattle.pc_faults.specs.First.{IsFirstFault}
use Rattle.pc_faults.specs.declared.fault.Fault.{Fault}
use Rattle.pc_faults.specs.inside.First.{IsFirstIn, earliest}
use Rattle.pc_project.proofs.AnyLaws.{Any-kept, Any-here, Any-before, Any-none}
use Rattle.pc_faults.proofs.FirstLaws.{earliest-first}

module _ {C : Type 0} (Has : C → Fault → Type 0) (cards : List C) where
  -- found is the first fault of the cards before place i
  abbrev pub IsFirstBefore : ℕ → Option Fault → Type 0
  IsFirstBefore i found = IsFirstIn (λ fault. Any (λ card. Has card fault) (take i cards)) found

  pub first_of_none : IsFirstBefore 0 None
  first_of_none = λ fault h. Any-none (λ card. Has card fault) h

  module _ (i : ℕ) (card : C) (found : Option Fault) (within : i < length cards) (is : card ≡ get_or cards i card) (h : IsFirstBefore i found) where
    -- a card with a first fault or with none
    pub first_step : (here : Option Fault) → IsFirstIn (Has card) here → IsFirstBefore (i + 1) (earliest found here)
    first_step here first =
        earliest-first (λ f. Any (λ c. Has c f) (take i cards)) (Has card) (λ f. Any (λ c. Has c f) (take (i + 1) cards))
        (λ f k. Any-kept (λ c. Has c f) cards i card within is k)
        (λ f k. Any-here (λ c. Has c f) cards i card within is k)
        (λ f k. Any-before (λ c. Has c f) cards i card within is k)
        found here h first

    -- the same, where the earlier of the two has a name
    pub first_more : (here next : Option Fault) → next ≡ earliest found here → IsFirstIn (Has card) here → IsFirstBefore (i + 1) next
    first_more here next is first = subst (IsFirstBefore (i + 1)) (sym is) (first_step here first)

    -- a card with a fault
    pub first_with : (fault : Fault) → IsFirstFault (Has card) fault → IsFirstBefore (i + 1) (earliest found (Some fault))
    first_with fault first = first_step (Some fault) first

    -- a card without
    pub first_without : ((fault : Fault) → Has card fault → ⊥) → IsFirstBefore (i + 1) found
    first_without none = by found h
      where
        by : (found : Option Fault) → IsFirstBefore i found → IsFirstBefore (i + 1) found
        by None k = λ fault any. elim (Any-before (λ c. Has c fault) cards i card within is any) [ inl before ↦ k fault before | inr here ↦ none fault here ]
        by (Some fault) k = record {
          holds = Any-kept (λ c. Has c fault) cards i card within is k.holds;
          least = λ other any. elim (Any-before (λ c. Has c other) cards i card within is any) [ inl before ↦ k.least other before | inr here ↦ absurd (none other here) ];
        }

  -- once all cards are passed
  pub first_of_all : (i : ℕ) (found : Option Fault) → length cards ≤ i → IsFirstBefore i found → IsFirstIn (λ fault. Any (λ card. Has card fault) cards) found
  first_of_all i found all h = subst (λ cs. IsFirstIn (λ fault. Any (λ card. Has card fault) cs) found) (take_all i cards all) h

-- what one more element gives
pub map_take_more : {X Y : Type 0} (f : X → Y) (xs : List X) (i : ℕ) (x : X) (y : Y) (ys : List Y) → i < length xs → x ≡ get_or xs i x →
    ys ≡ map f (take i xs) → y ≡ f x → ys ++ y ∷ [] ≡ map f (take (i + 1) xs)
map_take_more f xs i x y ys within is before here =
    sym (ap (map f) (take_more xs i x within)
    ∙ (map_push f (take i xs) (get_or xs i x)
    ∙ (ap (λ z. map f (take i xs) ++ z ∷ []) (ap f (sym is) ∙ sym here) ∙ ap (λ zs. zs ++ y ∷ []) (sym before))))

-- what holds of all cards holds of the one at a place
pub held_by_card : {X : Type 0} (P : X → Type 0) (xs : List X) (i : ℕ) (x : X) → i < length xs → x ≡ get_or xs i x → All P xs → P x
held_by_card P xs i x within is all = subst P (sym is) (All-get_or P xs i x within all)
