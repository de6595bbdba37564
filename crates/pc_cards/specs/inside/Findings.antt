-- What is found of one card, of whatever kind: a test for each fault.
-- Here is what no clause of a top call and no law reaches.
use Rattle.std.specs.Prelude.{ℕ, not, ◌==◌, nat_lt, List, length, Option, Some, None}
use Rattle.std.specs.Option.{option_or}
use Rattle.std.specs.Bool.{then_some}
use Rattle.pc_model.specs.Codes.{text_at}
use Rattle.pc_faults.specs.Faults as fault
use Rattle.pc_faults.specs.declared.kind.Kind.{Kind}
use Rattle.pc_faults.specs.declared.fault.Fault.{Fault}
use Rattle.pc_cards.specs.Forms.{Slot, is_whole, first_misshapen, first_over_limit}
use Rattle.pc_cards.specs.Named.{is_among}
use Rattle.pc_cards.specs.declared.place.CardPlace.{CardPlace}
use Rattle.pc_cards.specs.Findings.{width_wanted}

-- the fault of a card after others of its kind, if only one is allowed
abbrev pub not_alone : CardPlace → ℕ → Option Fault
not_alone place count = then_some (nat_lt 0 count) (fault.second_card place.row place.kind)

-- F6: too few fields, or too many
abbrev pub wrong_field_count : CardPlace → ℕ → ℕ → List (List ℕ) → Option Fault
wrong_field_count place least most fields =
    then_some (not (is_whole least most fields)) (fault.wrong_fields place.row place.kind (length fields) (width_wanted least most fields))

-- F7: a field of a wrong shape, where one was found
abbrev pub misshapen_at : ℕ → Option Slot → Option Fault
misshapen_at row None = None
misshapen_at row (Some slot) = Some (fault.misshapen row slot.0)

-- F8: a field over its limit, where one was found
abbrev pub over_limit_at : ℕ → Option Slot → Option Fault
over_limit_at row None = None
over_limit_at row (Some slot) = Some (fault.over_limit row slot.0)

-- F7 and F8, of fields that must be these
abbrev pub flaw_of_fields : ℕ → List Slot → List (List ℕ) → Option Fault
flaw_of_fields row slots fields = option_or (misshapen_at row (first_misshapen slots fields)) (over_limit_at row (first_over_limit slots fields))

-- F9: the card's code, if an earlier card of its kind has it
abbrev pub repeated : ℕ → List (List ℕ) → List ℕ → Option Fault
repeated row codes code = then_some (is_among code codes) (fault.repeated_code row code)

-- F10: as many cards of the kind as there may be came before
abbrev pub one_too_many : Kind → ℕ → ℕ → Option ℕ → Option Fault
one_too_many kind row count None = None
one_too_many kind row count (Some limit) = then_some (count == limit) (fault.too_many row kind limit)

-- F10 and F11, of a card after `count` others of its kind
abbrev pub fault_of_place : CardPlace → ℕ → Option Fault
fault_of_place place count = option_or (one_too_many place.kind place.row count place.limit) (then_some place.has_ended (fault.behind_end place.row))

-- F6 to F8 and F10 and F11
abbrev pub fault_of_listed : CardPlace → ℕ → ℕ → ℕ → List Slot → List (List ℕ) → Option Fault
fault_of_listed place count least most slots fields =
    option_or (wrong_field_count place least most fields) (option_or (flaw_of_fields place.row slots fields) (fault_of_place place count))

-- F6 to F11
abbrev pub fault_of_named : CardPlace → List (List ℕ) → ℕ → ℕ → ℕ → List Slot → List (List ℕ) → Option Fault
fault_of_named place codes count least most slots fields =
    option_or (wrong_field_count place least most fields)
    (option_or (flaw_of_fields place.row slots fields) (option_or (repeated place.row codes (text_at fields 1)) (fault_of_place place count)))
