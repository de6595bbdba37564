-- The listing of places, one event further, and a chain followed for one more place.
use Rattle.std.proofs.Common.{◌≡◌, ℕ, ◌+◌, ◌-◌, ◌<◌, ◌≤◌, List, [], ◌∷◌, ◌++◌, length, slice_index, slice_range, drop}
use Rattle.std.proofs.Common.{take, refl, sym, ◌∙◌, ap, subst, ⊎_elim, arith, length-append, length-drop, append_assoc}
use Rattle.std.proofs.lemmas.Bool.{cases_eq}
use Rattle.std.proofs.lemmas.List.{get_or_append_left, get_or_push, length_push, drop-append-le, take-append-le, drop_at, take_all, append-nil}
use Rattle.pc_model.specs.declared.Arc.{Arc}
use Rattle.pc_model.specs.Greatest.{places}
use Rattle.pc_model.specs.inside.Greatest.{IsListed}
use Rattle.pc_model.specs.Walk.{arc_at}
use Rattle.pc_model.proofs.Walks.ListedLaws.{IsListed-places, IsListed-same}
use Rattle.pc_net.specs.inside.Chains.{first_or, places_from, AreChains}
use Rattle.pc_net.specs.declared.listing.Listing.{Listing}
use Rattle.pc_net.specs.declared.graph.Side.{Side}
use Rattle.pc_net.specs.inside.Sides.{event_of, events_of}
use Rattle.pc_net.specs.inside.Listings.{AreListed, IsListing, part_of}
use Rattle.pc_net.proofs.SideLaws.{events_of_at, length-events_of}
use Rattle.pc_net.proofs.ChainLaws.{IsFirstPlace, first_place}

-- no event is listed yet
pub AreListed-start : (xs : List ℕ) → AreListed xs 0 [] (0 ∷ [])
AreListed-start xs = record {
  starts_len = refl;
  last = refl;
  rises = λ x below. absurd (omega arith);
  within = λ x below. absurd (omega arith);
  part = λ x below. absurd (omega arith);
}

-- a part of a list is the same after more is appended
range-append : (items more : List ℕ) (a b : ℕ) → a ≤ b → b ≤ length items → slice_range (items ++ more) a b ≡ slice_range items a b
range-append items more a b order within =
    ap (take (b - a)) (drop-append-le a items more (omega arith)) ∙ take-append-le (b - a) (drop a items) more (omega (arith, length-drop a items))

-- what is appended to a list is its last part
range_last : (items more : List ℕ) → slice_range (items ++ more) (length items) (length (items ++ more)) ≡ more
range_last items more =
    ap (take (length (items ++ more) - length items)) (drop_at items more (length items) refl) ∙ take_all (length (items ++ more) - length items) more (omega (arith, length-append items more))

-- one more event is listed
pub AreListed-push : (xs : List ℕ) (x : ℕ) (items starts more : List ℕ) → AreListed xs x items starts → more ≡ places x 0 xs →
    AreListed xs (x + 1) (items ++ more) (starts ++ length (items ++ more) ∷ [])
AreListed-push xs x items starts more listed is = record {
  starts_len = length_push starts end ∙ ap (λ n. n + 1) listed.starts_len;
  last = new;
  rises = λ y below. ⊎_elim
      (λ same. omega (arith, ap (slice_index starts') same, ap (λ z. slice_index starts' (z + 1)) same, old x (omega arith), new, listed.last, length-append items more))
      (λ other. omega (arith, old y (omega arith), old (y + 1) (omega arith), listed.rises y (omega arith)))
      (cases_eq y x);
  within = λ y below. ⊎_elim
      (λ same. omega (arith, ap (λ z. slice_index starts' (z + 1)) same, new))
      (λ other. omega (arith, old (y + 1) (omega arith), listed.within y (omega arith), length-append items more))
      (cases_eq y x);
  part = λ y below. ⊎_elim
      (λ same. ap (λ z. slice_range (items ++ more) (slice_index starts' z) (slice_index starts' (z + 1))) same
      ∙ ap (λ a. slice_range (items ++ more) a (slice_index starts' (x + 1))) (old x (omega arith) ∙ listed.last)
      ∙ ap (slice_range (items ++ more) (length items)) new ∙ range_last items more ∙ is ∙ ap (λ z. places z 0 xs) (sym same))
      (λ other. ap (λ a. slice_range (items ++ more) a (slice_index starts' (y + 1))) (old y (omega arith))
      ∙ ap (slice_range (items ++ more) (slice_index starts y)) (old (y + 1) (omega arith))
      ∙ range-append items more _ _ (listed.rises y (omega arith)) (listed.within y (omega arith)) ∙ listed.part y (omega arith))
      (cases_eq y x);
}
  where
    end : ℕ
    end = length (items ++ more)

    starts' : List ℕ
    starts' = starts ++ end ∷ []

    old : (y : ℕ) → y ≤ x → slice_index starts' y ≡ slice_index starts y
    old y below = get_or_append_left starts (end ∷ []) 0 y (omega (arith, listed.starts_len))

    new : slice_index starts' (x + 1) ≡ end
    new = get_or_push starts end 0 (x + 1) listed.starts_len

-- a chain is followed up to a place: the places from some place on are still to come, this one first
pub record IsFollowed (xs : List ℕ) (x at : ℕ) (before items : List ℕ) : Type 0 where
  pub from : ℕ
  pub first : at ≡ first_or (length xs) (places_from xs x from)
  pub rest : items ++ places_from xs x from ≡ before ++ places x 0 xs

-- it begins at the event's first place
pub IsFollowed-start : (xs : List ℕ) (x at : ℕ) (before : List ℕ) → at ≡ first_or (length xs) (places_from xs x 0) → IsFollowed xs x at before before
IsFollowed-start xs x at before is = record { from = 0; first = is; rest = refl }

-- it continues at the next place of the same event
pub IsFollowed-step : (xs : List ℕ) (events x at next : ℕ) (heads nexts before items : List ℕ) → AreChains xs events 0 heads nexts →
    IsFollowed xs x at before items → at < length xs → next ≡ slice_index nexts at →
    IsFollowed xs x next before (items ++ at ∷ []) × (at < next)
IsFollowed-step xs events x at next heads nexts before items chains followed below is =
    let place : IsFirstPlace xs x followed.from at = subst (IsFirstPlace xs x followed.from) (sym followed.first) (first_place xs x followed.from) in
    let (stands, split) = place.here below in
    let is_first : next ≡ first_or (length xs) (places_from xs x (at + 1)) = is ∙ chains.next at (omega arith) below ∙ ap (λ y. first_or (length xs) (places_from xs y (at + 1))) stands in
    let whole : (items ++ at ∷ []) ++ places_from xs x (at + 1)
    ≡ before ++ places x 0 xs = append_assoc items (at ∷ []) (places_from xs x (at + 1)) ∙ ap (λ ys. items ++ ys) (sym split)
    ∙ followed.rest in
    (record { from = at + 1; first = is_first; rest = whole }, omega (arith, is_first, (first_place xs x (at + 1)).low (omega arith)))

-- at its end all places of the event are listed
pub IsFollowed-end : (xs : List ℕ) (x at : ℕ) (before items : List ℕ) → IsFollowed xs x at before items → length xs ≤ at → items ≡ before ++ places x 0 xs
IsFollowed-end xs x at before items followed past =
    let place : IsFirstPlace xs x followed.from at = subst (IsFirstPlace xs x followed.from) (sym followed.first) (first_place xs x followed.from) in
    sym (append-nil items) ∙ ap (λ ys. items ++ ys) (sym (place.none past)) ∙ followed.rest

-- this part has the activities at the event, each once and in card order
pub part_is_listed : (side : Side) (arcs : List Arc) (events : ℕ) (listing : Listing) (x : ℕ) →
    IsListing (events_of side arcs) events listing → x < events →
    IsListed (λ a. event_of side (arc_at arcs a) ≡ x) (length arcs) (part_of listing x)
part_is_listed side arcs events listing x listed below =
    let here : IsListed (λ a. slice_index (events_of side arcs) a ≡ x) (length arcs) (part_of listing x) =
    rw (listed.part x below, ← length-events_of side arcs) (IsListed-places x (events_of side arcs)) in
    IsListed-same _ _ (length arcs) _ here (λ a a_in is. sym (events_of_at side arcs a a_in) ∙ is) (λ a a_in is. events_of_at side arcs a a_in ∙ is)
