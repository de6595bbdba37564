-- The faults of single cards: what they name is not there, or they are wrong by themselves (F13 to F19, F41).
use Rattle.std.specs.Prelude.{ℕ, List, [], ◌∷◌, IsSome, ⊤, ◌⊎◌}
use Rattle.std.specs.List.{Any}
use Rattle.pc_cards.specs.Entry.{Reference}
use Rattle.pc_cards.specs.declared.sort.Sort.{Sort}
use Rattle.pc_deck.specs.Deck.{Deck, list_of, named_among}
use Rattle.pc_deck.specs.Kinds.{CardOf, entry_of, kinds_of}
use Rattle.pc_deck.specs.Target.{IsUnknown, target_codes}
use Rattle.pc_faults.specs.declared.fault.Fault.{Fault}
use Rattle.pc_faults.specs.declared.kind.Kind.{Kind}

-- all that is named is there
abbrev pub AreKnownNames : Deck → List Reference → Type 0
AreKnownNames deck [] = ⊤
AreKnownNames deck (named ∷ more) = IsSome (named_among (target_codes deck named.target) named.code) × AreKnownNames deck more

-- the fault of a card at a record that names these: the first of them that is not there
abbrev pub HasUnknown : Deck → ℕ → List Reference → Fault → Type 0
HasUnknown deck row [] fault = ⊥
HasUnknown deck row (named ∷ more) fault =
    IsUnknown deck named.target row named.code fault ⊎ (IsSome (named_among (target_codes deck named.target) named.code) × HasUnknown deck row more fault)

-- the faults of a card of a kind in a deck of a sort: of what it names (F13 to F16, F41), and by itself (F17 to F19)
abbrev pub HasCardMisfit : Sort → Deck → (kind : Kind) → CardOf kind → Fault → Type 0
HasCardMisfit sort deck kind card fault = HasUnknown deck ((entry_of kind).row card) ((entry_of kind).names sort card) fault ⊎ (entry_of kind).flaws sort card fault

-- the faults of the cards of a deck of a sort
abbrev pub HasMisfit : Sort → Deck → Fault → Type 0
HasMisfit sort deck fault = Any (λ kind. Any (λ card. HasCardMisfit sort deck kind card fault) (list_of deck kind)) (kinds_of sort)

-- no card of the deck has a fault
abbrev pub HasNoMisfit : Sort → Deck → Type 0
HasNoMisfit sort deck = (fault : Fault) → HasMisfit sort deck fault → ⊥
