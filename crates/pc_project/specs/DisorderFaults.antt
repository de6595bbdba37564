-- The faults of statuses and of as-of (F30).
use Rattle.std.specs.Prelude.{◌≡◌, ℕ, ◌<◌, ◌<ℤ◌, ℤ, length, slice_index, Some}
use Rattle.pc_deck.specs.Deck.{Deck}
use Rattle.pc_deck.specs.declared.kinds.as_of.AsOfCard.{AsOfCard}
use Rattle.pc_faults.specs.Faults.{disorder}
use Rattle.pc_faults.specs.declared.fault.Fault.{Fault}
use Rattle.pc_faults.specs.declared.fault.StatusFault.{StatusFault}
use Rattle.pc_faults.specs.declared.fault.StatusFault.TheVariants.{Early}
use Rattle.pc_accounts.specs.status.Statuses.{IsReason}
use Rattle.pc_project.specs.Project.{as_of_day, statuses_in}
use Rattle.pc_project.specs.Records.{status_records}

-- the day that the figures of a deck are of
abbrev pub as_of_in : Deck → ℤ
as_of_in deck = as_of_day deck.project.start_day deck.as_of

-- the k-th STATUS card is in disorder, and the fault has its first reason
abbrev pub IsDisorderAt : Deck → ℕ → Fault → Type 0
IsDisorderAt deck k fault =
    (reason : StatusFault) × (IsReason deck.project.start_day (as_of_in deck) (statuses_in deck) k reason × (fault ≡ disorder (slice_index (status_records deck) k) reason))

-- the date of the ASOF card is before the start
abbrev pub IsEarlyAsOf : Deck → Fault → Type 0
IsEarlyAsOf deck fault =
    (card : AsOfCard) × ((deck.as_of ≡ Some card) × (card.day <ℤ deck.project.start_day) × (fault ≡ disorder card.row Early))

-- a STATUS card has one of the five reasons
abbrev pub HasStatusDisorder : Deck → Fault → Type 0
HasStatusDisorder deck fault = (k : ℕ) × (k < length deck.statuses) × IsDisorderAt deck k fault

-- F30
pub data HasDisorder (deck : Deck) (fault : Fault) : Type 0 where
  of_as_of : IsEarlyAsOf deck fault → HasDisorder deck fault
  of_status : HasStatusDisorder deck fault → HasDisorder deck fault

-- there is none
abbrev pub HasNoDisorder : Deck → Type 0
HasNoDisorder deck = (fault : Fault) → HasDisorder deck fault → ⊥
