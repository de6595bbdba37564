-- The kinds of cards in decks of both sorts: the table of them, and what it says of a kind.
-- Here is what no clause of a top call and no law reaches.
use Rattle.std.specs.Prelude.{ℕ, Bool, true, false, List}
use Rattle.pc_faults.specs.declared.kind.Kind.{Kind}
use Rattle.pc_faults.specs.declared.kind.Kind.TheVariants.{Project, End}
use Rattle.pc_cards.specs.inside.Named.{none_by, more_if}
use Rattle.pc_deck.specs.declared.kinds.CardLists.{CardLists}
use Rattle.pc_deck.specs.Kinds.{CardOf, stands_once, lists_with, held_in, card_of, is_same}

-- whether the kind is that of the first card
abbrev pub is_project : Kind → Bool
is_project Project = true
is_project other = false

-- whether the kind is that of the last card
abbrev pub is_end : Kind → Bool
is_end End = true
is_end other = false

-- no cards
abbrev pub no_lists : CardLists
no_lists = lists_with (λ kind. none_by (stands_once kind) (CardOf kind))

-- the lists with one more card of a kind
abbrev pub lists_and : CardLists → Kind → ℕ → List (List ℕ) → CardLists
lists_and lists kind row fields =
    lists_with (λ other. more_if (is_same kind other) (stands_once other) (CardOf other) (held_in lists other) (card_of other row fields))
