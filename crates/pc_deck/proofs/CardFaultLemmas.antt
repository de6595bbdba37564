-- The fault that is found of a card is one that it has, and of these the one with the least number.
use Rattle.std.proofs.Common.{◌≡◌, ◌≢◌, ℕ, ◌<◌, ◌≤◌, Bool, true, false, not, ◌&&◌, ◌==◌, nat_lt, List, Option, Some, None, Result, Ok, Err, inl, inr, ◌⊎◌, refl, sym, ap, ◌∙◌, subst, arith, length}
use Rattle.std.proofs.lemmas.Bool.Decides.{nat_tests}
use Rattle.std.proofs.lemmas.Bool.{and_parts, and_from}
use Rattle.std.specs.Option.{option_or}
use Rattle.std.specs.Bool.{then_some}
use Rattle.pc_model.specs.Codes.{text_at}
use Rattle.pc_faults.specs.Faults as faults
use Rattle.pc_faults.specs.declared.kind.Kind.{Kind}
use Rattle.pc_faults.specs.declared.kind.Kind.TheVariants.{Project}
use Rattle.pc_faults.specs.declared.fault.Fault.{Fault}
use Rattle.pc_deck.specs.Kinds.{kind_of, stands_once, least_width_of, limit_of, slots_of, width_of}
use Rattle.pc_deck.specs.inside.Kinds.{is_project}
use Rattle.pc_cards.specs.Forms.{Slot, first_misshapen, first_over_limit}
use Rattle.pc_cards.specs.Cards.{Numbered}
use Rattle.pc_cards.specs.Named.{is_among}
use Rattle.pc_cards.specs.Findings.{width_wanted}
use Rattle.pc_cards.specs.inside.Findings.{wrong_field_count, misshapen_at, over_limit_at, flaw_of_fields, repeated, one_too_many, fault_of_place}
use Rattle.pc_cards.proofs.FitLemmas.{neither, no_shape, not_not, not_so}
use Rattle.pc_deck.specs.Judged.{Seen}
use Rattle.pc_deck.specs.inside.Judged.{card_place_of, not_project, second, fault_of_kind, unless, no_kind, judge_of, judge}
use Rattle.pc_deck.specs.Refusal.{HasCardFault, is_whole_as}
use Rattle.pc_deck.specs.Refusal as has
use Rattle.pc_deck.proofs.KindLemmas.{Some-injective}

-- what was found, if anything, is of the record `row`, with a number up to n
abbrev Bounded : Option Fault → ℕ → ℕ → Type 0
Bounded None row n = Unit {0}
Bounded (Some fault) row n = (fault.row ≡ row) × (fault.number ≤ n)

-- something was found, and it is of the record `row`, with a number up to n
abbrev Caught : Option Fault → ℕ → ℕ → Type 0
Caught None row n = ⊥
Caught (Some fault) row n = (fault.row ≡ row) × (fault.number ≤ n)

-- what is found first was found, and what is found later too, if what comes before it is bounded
earlier : (first later : Option Fault) (row n : ℕ) → Caught first row n → Caught (option_or first later) row n
earlier None later row n h = absurd h
earlier (Some fault) later row n h = h

later_one : (first later : Option Fault) (row n : ℕ) → Bounded first row n → Caught later row n → Caught (option_or first later) row n
later_one None later row n b h = h
later_one (Some fault) later row n b h = b

bounded_both : (first later : Option Fault) (row n : ℕ) → Bounded first row n → Bounded later row n → Bounded (option_or first later) row n
bounded_both None later row n a b = b
bounded_both (Some fault) later row n a b = a

-- one test
bounded_test : (test : Bool) (fault : Fault) (row n : ℕ) → fault.row ≡ row → fault.number ≤ n → Bounded (then_some test fault) row n
bounded_test true fault row n same few = (same, few)
bounded_test false fault row n same few = tt

caught_test : (test : Bool) (fault : Fault) (row n : ℕ) → test ≡ true → fault.row ≡ row → fault.number ≤ n → Caught (then_some test fault) row n
caught_test true fault row n holds same few = (same, few)
caught_test false fault row n holds same few = absurd (let holds' = holds in cc)

bounded_shape : (row n : ℕ) (slot : Option Slot) → 7 ≤ n → Bounded (misshapen_at row slot) row n
bounded_shape row n None few = tt
bounded_shape row n (Some slot) few = (refl, few)

bounded_limit : (row n : ℕ) (slot : Option Slot) → 8 ≤ n → Bounded (over_limit_at row slot) row n
bounded_limit row n None few = tt
bounded_limit row n (Some slot) few = (refl, few)

caught_shape : (row n : ℕ) (found : Option Slot) (slot : Slot) → found ≡ Some slot → 7 ≤ n → Caught (misshapen_at row found) row n
caught_shape row n None slot is few = absurd (let is' = is in cc)
caught_shape row n (Some other) slot is few = (refl, few)

caught_limit : (row n : ℕ) (found : Option Slot) (slot : Slot) → found ≡ Some slot → 8 ≤ n → Caught (over_limit_at row found) row n
caught_limit row n None slot is few = absurd (let is' = is in cc)
caught_limit row n (Some other) slot is few = (refl, few)

none_some : {A : Type 0} (x : A) → ◌≡◌ {A = Option A} None (Some x) → ⊥
none_some x h = cc

flag : (test : Bool) → not test ≡ true → test ≡ false
flag true h = sym h
flag false h = refl

not_flag : (test : Bool) → test ≡ false → not test ≡ true
not_flag true h = sym h
not_flag false h = refl

other_kind : (kind : Kind) → kind ≢ Project → is_project kind ≡ false
other_kind Project h = absurd (h refl)
other_kind kind h = refl

project_only : (kind : Kind) → is_project kind ≡ false → kind ≢ Project
project_only kind is_not same = let is = ap is_project same in cc

above : (n : ℕ) → 0 < n → nat_lt 0 n ≡ true
above n h = grind (arith, nat_tests)

is_above : (n : ℕ) → nat_lt 0 n ≡ true → 0 < n
is_above n h = grind (arith, nat_tests)

equal : (n m : ℕ) → n ≡ m → (n == m) ≡ true
equal n m h = grind (arith, nat_tests)

is_equal : (n m : ℕ) → (n == m) ≡ true → n ≡ m
is_equal n m h = grind (arith, nat_tests)

-- the tests of one card, one by one
module _ (seen : Seen) (row : ℕ) (fields : List (List ℕ)) (kind : Kind) where
  -- F5
  abbrev twice : Option Fault
  twice = second (card_place_of seen kind row) (seen.count kind)

  -- F6
  abbrev widths : Option Fault
  widths = wrong_field_count (card_place_of seen kind row) (least_width_of kind) (width_of kind) fields

  -- F7 and F8
  abbrev flaws : Option Fault
  flaws = flaw_of_fields row (slots_of seen.sort kind) fields

  -- F9
  abbrev again : Option Fault
  again = repeated row (seen.codes kind) (text_at fields 1)

  -- F10
  abbrev full : Option Fault
  full = one_too_many kind row (seen.count kind) (limit_of seen.sort seen.version kind)

  -- F10 and F11
  abbrev behind : Option Fault
  behind = fault_of_place (card_place_of seen kind row) (seen.count kind)

  bounded_3 : (n : ℕ) → 3 ≤ n → Bounded (not_project seen kind row) row n
  bounded_3 n few = bounded_test _ (faults.first_not_project row) row n refl few

  bounded_5 : (n : ℕ) → 5 ≤ n → Bounded twice row n
  bounded_5 n few = bounded_test _ (faults.second_card row kind) row n refl few

  bounded_6 : (n : ℕ) → 6 ≤ n → Bounded widths row n
  bounded_6 n few = bounded_test _ (faults.wrong_fields row kind (length fields) (width_wanted (least_width_of kind) (width_of kind) fields)) row n refl few

  bounded_7 : (n : ℕ) → 7 ≤ n → Bounded (misshapen_at row (first_misshapen (slots_of seen.sort kind) fields)) row n
  bounded_7 n few = bounded_shape row n (first_misshapen (slots_of seen.sort kind) fields) few

  bounded_8 : (n : ℕ) → 8 ≤ n → Bounded flaws row n
  bounded_8 n few = bounded_both _ _ row n (bounded_7 n (omega (arith, few))) (bounded_limit row n (first_over_limit (slots_of seen.sort kind) fields) few)

  bounded_9 : (n : ℕ) → 9 ≤ n → Bounded again row n
  bounded_9 n few = bounded_test _ (faults.repeated_code row (text_at fields 1)) row n refl few

  bounded_10 : (n : ℕ) (limit : Option ℕ) → 10 ≤ n → Bounded (one_too_many kind row (seen.count kind) limit) row n
  bounded_10 n None few = tt
  bounded_10 n (Some limit) few = bounded_test _ (faults.too_many row kind limit) row n refl few

  -- a finding is reached where all before it are bounded
  at_widths : (n : ℕ) (rest : Option Fault) → 5 ≤ n → Caught (option_or widths rest) row n → Caught (option_or (not_project seen kind row) (option_or twice (option_or widths rest))) row n
  at_widths n rest few h = later_one _ _ row n (bounded_3 n (omega (arith, few))) (later_one _ _ row n (bounded_5 n few) h)

  at_flaws : (n : ℕ) → 6 ≤ n → Caught (option_or flaws (option_or again behind)) row n → Caught (fault_of_kind seen kind row fields) row n
  at_flaws n few h = at_widths n _ (omega (arith, few)) (later_one _ _ row n (bounded_6 n few) h)

  at_code : (n : ℕ) → 8 ≤ n → Caught (option_or again behind) row n → Caught (fault_of_kind seen kind row fields) row n
  at_code n few h = at_flaws n (omega (arith, few)) (later_one _ _ row n (bounded_8 n few) h)

  at_place : (n : ℕ) → 9 ≤ n → Caught behind row n → Caught (fault_of_kind seen kind row fields) row n
  at_place n few h = at_code n (omega (arith, few)) (later_one _ _ row n (bounded_9 n few) h)

  caught_10 : (found : Option ℕ) (limit : ℕ) → found ≡ Some limit → seen.count kind ≡ limit → Caught (one_too_many kind row (seen.count kind) found) row 10
  caught_10 None limit is full = absurd (none_some limit is)
  caught_10 (Some other) limit is full =
      let same : other ≡ limit = cc in
      caught_test _ (faults.too_many row kind other) row 10 (equal (seen.count kind) other (full ∙ sym same)) refl (omega arith)

-- the judgement is a fault that comes no later than one of this number
abbrev pub IsCaught : Result Kind Fault → ℕ → ℕ → Type 0
IsCaught (Ok kind) row n = ⊥
IsCaught (Err fault) row n = (fault.row ≡ row) × (fault.number ≤ n)

from_kind : (kind : Kind) (found : Option Fault) (row n : ℕ) → Caught found row n → IsCaught (unless kind found) row n
from_kind kind None row n h = absurd h
from_kind kind (Some fault) row n h = h

-- the same of the judgement of a card of a known kind
judged_as : (seen : Seen) (row : ℕ) (fields : List (List ℕ)) (kind : Kind) (n : ℕ) → kind_of seen.sort (text_at fields 0) ≡ Some kind →
    Caught (fault_of_kind seen kind row fields) row n → IsCaught (judge seen row fields) row n
judged_as seen row fields kind n is h =
    subst (λ (o : Option Kind). IsCaught (judge_of seen row fields o) row n) (sym is) (from_kind kind (fault_of_kind seen kind row fields) row n h)

-- a card of no kind
judged_unknown : (seen : Seen) (row : ℕ) (fields : List (List ℕ)) (n : ℕ) → (no_kind seen.is_first row).row ≡ row →
    (no_kind seen.is_first row).number ≤ n → kind_of seen.sort (text_at fields 0) ≡ None → IsCaught (judge seen row fields) row n
judged_unknown seen row fields n same few is =
    subst (λ (o : Option Kind). IsCaught (judge_of seen row fields o) row n) (sym is) (same, few)

row_of-no_kind : (first : Bool) (row : ℕ) → (no_kind first row).row ≡ row
row_of-no_kind true row = refl
row_of-no_kind false row = refl

up_to_4 : (first : Bool) (row : ℕ) → (no_kind first row).number ≤ 4
up_to_4 true row = omega arith
up_to_4 false row = omega arith

up_to_3 : (first : Bool) (row : ℕ) → first ≡ true → (no_kind first row).number ≤ 3
up_to_3 true row is = omega arith
up_to_3 false row is = absurd (let is' = is in cc)

-- the first card, of no kind or of another one
judged_first : (seen : Seen) (row : ℕ) (fields : List (List ℕ)) → seen.is_first ≡ true → kind_of seen.sort (text_at fields 0) ≢ Some Project → IsCaught (judge seen row fields) row 3
judged_first seen row fields first other = by_kind (kind_of seen.sort (text_at fields 0)) refl
  where
    by_kind : (found : Option Kind) → kind_of seen.sort (text_at fields 0) ≡ found → IsCaught (judge seen row fields) row 3
    by_kind None is = judged_unknown seen row fields 3 (row_of-no_kind seen.is_first row) (up_to_3 seen.is_first row first) is
    by_kind (Some kind) is =
        let not_it = other_kind kind (λ same. other (is ∙ ap Some same)) in
        judged_as seen row fields kind 3 is
        (earlier (not_project seen kind row) _ row 3
        (caught_test _ (faults.first_not_project row) row 3 (and_from _ _ first (not_flag (is_project kind) not_it)) refl (omega arith)))

-- where a card has a fault, one is found, and none comes later than that
judged_row : (seen : Seen) (card : Numbered) (found : Fault) → HasCardFault seen card found → (found.row ≡ card.0) × IsCaught (judge seen card.0 card.1) card.0 found.number
judged_row seen card found (has.not_project first other is) = (
  ap (λ (f : Fault). f.row) is,
  subst (IsCaught (judge seen card.0 card.1) card.0) (sym (ap (λ (f : Fault). f.number) is))
      (judged_first seen card.0 card.1 first other),
)
judged_row seen card found (has.unknown_kind none is) = (
  ap (λ (f : Fault). f.row) is,
  subst (IsCaught (judge seen card.0 card.1) card.0) (sym (ap (λ (f : Fault). f.number) is))
      (judged_unknown seen card.0 card.1 4 (row_of-no_kind seen.is_first card.0) (up_to_4 seen.is_first card.0) none),
)
judged_row seen card found (has.second_card kind named once some is) = (
  ap (λ (f : Fault). f.row) is,
  subst (IsCaught (judge seen card.0 card.1) card.0) (sym (ap (λ (f : Fault). f.number) is))
      (judged_as seen card.0 card.1 kind 5 named
      (later_one _ _ card.0 5 (bounded_3 seen card.0 card.1 kind 5 (omega arith))
      (earlier (twice seen card.0 card.1 kind) _ card.0 5
      (caught_test _ (faults.second_card card.0 kind) card.0 5 (and_from _ _ once (above (seen.count kind) some)) refl (omega arith))))),
)
judged_row seen card found (has.wrong_fields kind named part is) = (
  ap (λ (f : Fault). f.row) is,
  subst (IsCaught (judge seen card.0 card.1) card.0) (sym (ap (λ (f : Fault). f.number) is))
      (judged_as seen card.0 card.1 kind 6 named
      (at_widths seen card.0 card.1 kind 6 _ (omega arith)
      (earlier (widths seen card.0 card.1 kind) _ card.0 6
      (caught_test _ (faults.wrong_fields card.0 kind (length card.1) (width_wanted (least_width_of kind) (width_of kind) card.1)) card.0 6
      (not_flag (is_whole_as kind card.1) part) refl (omega arith))))),
)
judged_row seen card found (has.wrong_shape kind slot named whole at is) = (
  ap (λ (f : Fault). f.row) is,
  subst (IsCaught (judge seen card.0 card.1) card.0) (sym (ap (λ (f : Fault). f.number) is))
      (judged_as seen card.0 card.1 kind 7 named
      (at_flaws seen card.0 card.1 kind 7 (omega arith)
      (earlier (flaws seen card.0 card.1 kind) _ card.0 7
      (earlier _ _ card.0 7 (caught_shape card.0 7 (first_misshapen (slots_of seen.sort kind) card.1) slot at (omega arith)))))),
)
judged_row seen card found (has.over_limit kind slot named whole shapes at is) = (
  ap (λ (f : Fault). f.row) is,
  subst (IsCaught (judge seen card.0 card.1) card.0) (sym (ap (λ (f : Fault). f.number) is))
      (judged_as seen card.0 card.1 kind 8 named
      (at_flaws seen card.0 card.1 kind 8 (omega arith)
      (earlier (flaws seen card.0 card.1 kind) _ card.0 8
      (later_one _ _ card.0 8 (bounded_7 seen card.0 card.1 kind 8 (omega arith)) (caught_limit card.0 8 (first_over_limit (slots_of seen.sort kind) card.1) slot at (omega arith)))))),
)
judged_row seen card found (has.repeated_code kind named whole shapes among is) = (
  ap (λ (f : Fault). f.row) is,
  subst (IsCaught (judge seen card.0 card.1) card.0) (sym (ap (λ (f : Fault). f.number) is))
      (judged_as seen card.0 card.1 kind 9 named
      (at_code seen card.0 card.1 kind 9 (omega arith)
      (earlier (again seen card.0 card.1 kind) _ card.0 9
      (caught_test _ (faults.repeated_code card.0 (text_at card.1 1)) card.0 9 among refl (omega arith))))),
)
judged_row seen card found (has.one_too_many kind limit named few full is) = (
  ap (λ (f : Fault). f.row) is,
  subst (IsCaught (judge seen card.0 card.1) card.0) (sym (ap (λ (f : Fault). f.number) is))
      (judged_as seen card.0 card.1 kind 10 named
      (at_place seen card.0 card.1 kind 10 (omega arith)
      (earlier _ _ card.0 10 (caught_10 seen card.0 card.1 kind (limit_of seen.sort seen.version kind) limit few full)))),
)
judged_row seen card found (has.behind_end kind named ended is) = (
  ap (λ (f : Fault). f.row) is,
  subst (IsCaught (judge seen card.0 card.1) card.0) (sym (ap (λ (f : Fault). f.number) is))
      (judged_as seen card.0 card.1 kind 11 named
      (at_place seen card.0 card.1 kind 11 (omega arith)
      (later_one _ _ card.0 11 (bounded_10 seen card.0 card.1 kind 11 (limit_of seen.sort seen.version kind) (omega arith))
      (caught_test _ (faults.behind_end card.0) card.0 11 ended refl (omega arith))))),
)

-- a fault of a card is of its record
pub row_of-card : (seen : Seen) (card : Numbered) (fault : Fault) → HasCardFault seen card fault → fault.row ≡ card.0
row_of-card seen card fault h = (judged_row seen card fault h).0

-- a card that has a fault is not judged to have none
pub not_faultless : (seen : Seen) (card : Numbered) (fault : Fault) (kind : Kind) → judge seen card.0 card.1 ≡ Ok kind → HasCardFault seen card fault → ⊥
not_faultless seen card fault kind judged h = subst (λ (r : Result Kind Fault). IsCaught r card.0 fault.number) judged (judged_row seen card fault h).1

-- the fault that is found comes first
pub least_of-card : (seen : Seen) (card : Numbered) (found fault : Fault) → judge seen card.0 card.1 ≡ Err found →
    HasCardFault seen card fault → (found.row ≡ fault.row) × (found.number ≤ fault.number)
least_of-card seen card found fault judged h =
    let row = judged_row seen card fault h in
    let caught = subst (λ (r : Result Kind Fault). IsCaught r card.0 fault.number) judged row.1 in
    (caught.0 ∙ sym row.0, caught.1)

-- what was found, was found in one of two places
found_in : (first later : Option Fault) (fault : Fault) → option_or first later ≡ Some fault → (first ≡ Some fault) ⊎ ((first ≡ None) × (later ≡ Some fault))
found_in None later fault h = inr (refl, h)
found_in (Some found) later fault h = inl h

tested : {A : Type 0} (test : Bool) (found fault : A) → then_some test found ≡ Some fault → (test ≡ true) × (fault ≡ found)
tested true found fault h = (refl, sym (Some-injective found fault h))
tested false found fault h = absurd (none_some fault h)

at_shape : (row : ℕ) (slot : Option Slot) (found : Fault) → misshapen_at row slot ≡ Some found → (at : Slot) × ((slot ≡ Some at) × (found ≡ faults.misshapen row at.0))
at_shape row None found h = absurd (none_some found h)
at_shape row (Some slot) found h = (slot, (refl, sym (Some-injective _ found h)))

at_limit : (row : ℕ) (slot : Option Slot) (found : Fault) → over_limit_at row slot ≡ Some found → (at : Slot) × ((slot ≡ Some at) × (found ≡ faults.over_limit row at.0))
at_limit row None found h = absurd (none_some found h)
at_limit row (Some slot) found h = (slot, (refl, sym (Some-injective _ found h)))

some_limit : (kind : Kind) (row count : ℕ) (limit : Option ℕ) (found : Fault) → one_too_many kind row count limit ≡ Some found →
    (most : ℕ) × ((limit ≡ Some most) × ((count ≡ most) × (found ≡ faults.too_many row kind most)))
some_limit kind row count None found h = absurd (none_some found h)
some_limit kind row count (Some most) found h =
    let test = tested (count == most) _ found h in (most, (refl, (is_equal count most test.0, test.1)))

-- what is found of a card of a known kind is a fault of it
module _ (seen : Seen) (row : ℕ) (fields : List (List ℕ)) (kind : Kind) (named : kind_of seen.sort (text_at fields 0) ≡ Some kind) where
  in_flaws : (found : Fault) → is_whole_as kind fields ≡ true → flaws seen row fields kind ≡ Some found → HasCardFault seen (row, fields) found
  in_flaws found whole h =
      elim (found_in (misshapen_at row (first_misshapen (slots_of seen.sort kind) fields)) _ found h) [
        | inl here ↦ let slot = at_shape row (first_misshapen (slots_of seen.sort kind) fields) found here in has.wrong_shape kind slot.0 named whole slot.1.0 slot.1.1
        | inr last ↦
            let slot = at_limit row (first_over_limit (slots_of seen.sort kind) fields) found last.1 in
            has.over_limit kind slot.0 named whole (no_shape row (first_misshapen (slots_of seen.sort kind) fields) last.0) slot.1.0 slot.1.1
      ]

  in_place : (found : Fault) → behind seen row fields kind ≡ Some found → HasCardFault seen (row, fields) found
  in_place found h =
      elim (found_in (full seen row fields kind) _ found h) [
        | inl here ↦ let limit = some_limit kind row (seen.count kind) (limit_of seen.sort seen.version kind) found here in has.one_too_many kind limit.0 named limit.1.0 limit.1.1.0 limit.1.1.1
        | inr last ↦ let test = tested seen.has_ended _ found last.1 in has.behind_end kind named test.0 test.1
      ]

  in_whole : (found : Fault) → is_whole_as kind fields ≡ true →
      option_or (flaws seen row fields kind) (option_or (again seen row fields kind) (behind seen row fields kind)) ≡ Some found →
      HasCardFault seen (row, fields) found
  in_whole found whole h =
      elim (found_in (flaws seen row fields kind) _ found h) [
        | inl here ↦ in_flaws found whole here
        | inr on ↦
            let shapes = neither (misshapen_at row (first_misshapen (slots_of seen.sort kind) fields)) _ on.0 in
            elim (found_in (again seen row fields kind) _ found on.1) [
              | inl here ↦
                  let test = tested (is_among (text_at fields 1) (seen.codes kind)) _ found here in
                  has.repeated_code kind named whole (no_shape row (first_misshapen (slots_of seen.sort kind) fields) shapes.0) test.0 test.1
              | inr last ↦ in_place found last.1
            ]
      ]

  in_kind : (found : Fault) → fault_of_kind seen kind row fields ≡ Some found → HasCardFault seen (row, fields) found
  in_kind found h =
      elim (found_in (not_project seen kind row) _ found h) [
        | inl here ↦
            let test = tested (seen.is_first && not (is_project kind)) _ found here in
            let both = and_parts _ _ test.0 in
            has.not_project both.0 (λ project. project_only kind (flag (is_project kind) both.1) (Some-injective kind Project (sym named ∙ project))) test.1
        | inr on ↦ elim (found_in (twice seen row fields kind) _ found on.1) [
          | inl here ↦
              let test = tested (stands_once kind && nat_lt 0 (seen.count kind)) _ found here in
              let both = and_parts _ _ test.0 in
              has.second_card kind named both.0 (is_above (seen.count kind) both.1) test.1
          | inr later ↦ elim (found_in (widths seen row fields kind) _ found later.1) [
            | inl here ↦ let test = tested (not (is_whole_as kind fields)) _ found here in has.wrong_fields kind named (flag (is_whole_as kind fields) test.0) test.1
            | inr last ↦ in_whole found (not_not (is_whole_as kind fields) (not_so _ _ last.0)) last.1
          ]
        ]
      ]

unless-Err : (kind : Kind) (found : Option Fault) (told : Fault) → unless kind found ≡ Err told → found ≡ Some told
unless-Err kind None told h = absurd (let h' = h in cc)
unless-Err kind (Some other) told h = let same : other ≡ told = cc in ap Some same

Err-injective : (x y : Fault) → ◌≡◌ {A = Result Kind Fault} (Err x) (Err y) → x ≡ y
Err-injective x y h = cc

-- a fault that is found of a card is one that it has
pub found_of-card : (seen : Seen) (row : ℕ) (fields : List (List ℕ)) (found : Fault) → judge seen row fields ≡ Err found → HasCardFault seen (row, fields) found
found_of-card seen row fields found h = by_kind (kind_of seen.sort (text_at fields 0)) refl h
  where
    unknown : (first : Bool) → seen.is_first ≡ first → kind_of seen.sort (text_at fields 0) ≡ None → found ≡ no_kind seen.is_first row → HasCardFault seen (row, fields) found
    unknown true first none is = has.not_project first (λ project. none_some Project (sym none ∙ project)) (is ∙ ap (λ (b : Bool). no_kind b row) first)
    unknown false first none is = has.unknown_kind none (is ∙ ap (λ (b : Bool). no_kind b row) first)

    by_kind : (kind : Option Kind) → kind_of seen.sort (text_at fields 0) ≡ kind → judge_of seen row fields kind ≡ Err found → HasCardFault seen (row, fields) found
    by_kind None is h = unknown seen.is_first refl is (sym (Err-injective _ found h))
    by_kind (Some kind) is h = in_kind seen row fields kind is found (unless-Err kind (fault_of_kind seen kind row fields) found h)
