-- The faults of the cards of single kinds.
-- Here is what no clause of a top call and no law reaches.
use Rattle.std.specs.Prelude.{List}
use Rattle.std.specs.List.{Any}
use Rattle.pc_cards.specs.Entry.{Reference}
use Rattle.pc_cards.specs.declared.sort.Sort.{Sort}
use Rattle.pc_deck.specs.Deck.{Deck, list_of}
use Rattle.pc_deck.specs.Kinds.{CardOf, entry_of}
use Rattle.pc_deck.specs.Misfit.{HasCardMisfit}
use Rattle.pc_faults.specs.declared.fault.Fault.{Fault}
use Rattle.pc_faults.specs.declared.kind.Kind.{Kind}

-- what a card of a kind names in a deck of a sort
abbrev pub names_of : Sort → (kind : Kind) → CardOf kind → List Reference
names_of sort kind = (entry_of kind).names sort

-- the faults of the cards of a kind
abbrev pub HasFaultOf : Sort → Deck → Kind → Fault → Type 0
HasFaultOf sort deck kind fault = Any (λ card. HasCardMisfit sort deck kind card fault) (list_of deck kind)

-- the faults of the cards of some kinds
abbrev pub HasFaultAmong : Sort → Deck → List Kind → Fault → Type 0
HasFaultAmong sort deck kinds fault = Any (λ kind. HasFaultOf sort deck kind fault) kinds
