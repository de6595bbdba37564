-- The fault of second amounts to go (F31).
use Rattle.std.specs.Prelude.{◌≡◌, ℕ, slice_index}
use Rattle.pc_model.specs.Codes.{text_at}
use Rattle.pc_accounts.specs.Amounts.{money_at}
use Rattle.pc_accounts.specs.Second.{IsRepeated}
use Rattle.pc_deck.specs.Deck.{Deck}
use Rattle.pc_faults.specs.Faults.{second_to_go}
use Rattle.pc_faults.specs.declared.fault.Fault.{Fault}
use Rattle.pc_model.specs.Greatest.{IsFirst}
use Rattle.pc_project.specs.Project.{togos_in}
use Rattle.pc_project.specs.Records.{togo_codes, togo_records}

-- the fault of the k-th TOGO card: its record, and its account and day
abbrev pub second_to_go_at : Deck → ℕ → Fault
second_to_go_at deck k =
    second_to_go (slice_index (togo_records deck) k) (text_at (togo_codes deck) k) (money_at (togos_in deck) k).day

-- that of the first one that has the account and the day of an earlier one
abbrev pub IsFirstSecondToGo : Deck → Fault → Type 0
IsFirstSecondToGo deck fault =
    (k : ℕ) × (IsFirst (IsRepeated (togos_in deck)) k × (fault ≡ second_to_go_at deck k))
