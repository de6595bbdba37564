-- Cards of one kind: how many, and which of them other cards name by their codes.
-- Here is what no clause of a top call and no law reaches.
use Rattle.std.specs.Prelude.{ℕ, Bool, true, false, List, [], ◌∷◌, ◌++◌, length, map, Option, Some, None, option_to_list}
use Rattle.pc_cards.specs.Named.{is_among, HeldBy}

-- whether one of the cards has the code
abbrev pub has_code : {C : Type 0} → (C → List ℕ) → List C → List ℕ → Bool
has_code code_of cards code = is_among code (map code_of cards)

-- how many cards there are of a kind that is allowed once
abbrev pub count_once : {C : Type 0} → Option C → ℕ
count_once card = length (option_to_list card)

-- none
abbrev pub none_by : (once : Bool) (C : Type 0) → HeldBy once C
none_by true C = None
none_by false C = []

-- with one more card if the test holds
abbrev pub more_if : (test once : Bool) (C : Type 0) → HeldBy once C → C → HeldBy once C
more_if false once C held card = held
more_if true true C held card = Some card
more_if true false C held card = held ++ card ∷ []
