-- The fault of one card, as it is found: the tests in the order of the faults' numbers.
-- Here is what no clause of a top call and no law reaches.
use Rattle.std.specs.Prelude.{ℕ, Bool, true, false, not, ◌&&◌, nat_lt, List, Option, Some, None, Result, Ok, Err}
use Rattle.std.specs.Option.{option_or}
use Rattle.std.specs.Bool.{then_some}
use Rattle.pc_model.specs.Codes.{text_at}
use Rattle.pc_faults.specs.Faults as fault
use Rattle.pc_faults.specs.declared.kind.Kind.{Kind}
use Rattle.pc_faults.specs.declared.fault.Fault.{Fault}
use Rattle.pc_cards.specs.inside.Findings.{fault_of_named}
use Rattle.pc_cards.specs.declared.place.CardPlace.{CardPlace}
use Rattle.pc_deck.specs.Kinds.{kind_of, stands_once, least_width_of, limit_of, slots_of, width_of}
use Rattle.pc_deck.specs.inside.Kinds.{is_project}
use Rattle.pc_deck.specs.Judged.{Seen}

-- the place of a card of a kind that comes after those that were seen
abbrev pub card_place_of : Seen → Kind → ℕ → CardPlace
card_place_of seen kind row = record { sort = seen.sort; kind = kind; row = row; limit = limit_of seen.sort seen.version kind; has_ended = seen.has_ended }

-- F3: the first card, and not PROJECT
abbrev pub not_project : Seen → Kind → ℕ → Option Fault
not_project seen kind row = then_some (seen.is_first && not (is_project kind)) (fault.first_not_project row)

-- F5: a second card of a kind that occurs once
abbrev pub second : CardPlace → ℕ → Option Fault
second place count = then_some (stands_once place.kind && nat_lt 0 count) (fault.second_card place.row place.kind)

-- F5 to F11, of a card of a kind
abbrev pub fault_at : CardPlace → ℕ → List (List ℕ) → List (List ℕ) → Option Fault
fault_at place count codes fields =
    option_or (second place count) (fault_of_named place codes count (least_width_of place.kind) (width_of place.kind) (slots_of place.sort place.kind) fields)

-- the fault of a card of a known kind
abbrev pub fault_of_kind : Seen → Kind → ℕ → List (List ℕ) → Option Fault
fault_of_kind seen kind row fields =
    option_or (not_project seen kind row) (fault_at (card_place_of seen kind row) (seen.count kind) (seen.codes kind) fields)

-- the kind, where no fault was found
abbrev pub unless : Kind → Option Fault → Result Kind Fault
unless kind None = Ok kind
unless kind (Some fault) = Err fault

-- the fault of a card of no kind that the sort has: F3 where it is the first, or else F4
abbrev pub no_kind : Bool → ℕ → Fault
no_kind true row = fault.first_not_project row
no_kind false row = fault.unknown_kind row

-- the kind of the card or its fault
abbrev pub judge_of : Seen → ℕ → List (List ℕ) → Option Kind → Result Kind Fault
judge_of seen row fields None = Err (no_kind seen.is_first row)
judge_of seen row fields (Some kind) = unless kind (fault_of_kind seen kind row fields)

-- the kind of the card that a record is in a deck of the sort, or its fault
abbrev pub judge : Seen → ℕ → List (List ℕ) → Result Kind Fault
judge seen row fields = judge_of seen row fields (kind_of seen.sort (text_at fields 0))
