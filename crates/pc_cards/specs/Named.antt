-- Cards of one kind: how many, and which of them other cards name by their codes.
use Rattle.std.specs.Prelude.{ℕ, ◌+◌, Bool, true, false, List, [], ◌∷◌, nat_eq, Option, option_map, option_to_list}
use Rattle.std.specs.List.{list_any}
use Rattle.std.specs.Cmp.Lexicographic.{pointwise}

-- whether a code is among those
abbrev pub is_among : List ℕ → List (List ℕ) → Bool
is_among code codes = list_any (pointwise nat_eq code) codes

-- the cards of a kind: at most one if the kind is allowed once, else a list
abbrev pub HeldBy : Bool → Type 0 → Type 0
HeldBy true C = Option C
HeldBy false C = List C

-- the cards of a kind as a list, also if the kind is allowed once
abbrev pub listed_by : (once : Bool) (C : Type 0) → HeldBy once C → List C
listed_by true C held = option_to_list held
listed_by false C held = held

-- the cards in other records, one after the other: each by how it looks in another record
abbrev pub numbered_from : {C : Type 0} → (ℕ → C → C) → ℕ → List C → List C
numbered_from at_row row [] = []
numbered_from at_row row (card ∷ cards) = at_row row card ∷ numbered_from at_row (row + 1) cards

-- the same of the cards of a kind
abbrev pub numbered_by : (once : Bool) (C : Type 0) → (ℕ → C → C) → ℕ → HeldBy once C → HeldBy once C
numbered_by true C at_row row held = option_map (at_row row) held
numbered_by false C at_row row held = numbered_from at_row row held
