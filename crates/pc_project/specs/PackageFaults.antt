-- The faults of packages: what is on an item that is no leaf (F28), and budgets that differ from the costs of the work
-- (F29).
use Rattle.std.specs.Prelude.{◌≡◌, ℕ, List, slice_index}
use Rattle.std.specs.List.{Any}
use Rattle.pc_model.specs.Codes.{text_at}
use Rattle.pc_accounts.specs.Packages.{IsUneven, budgets_of, costs_of}
use Rattle.pc_deck.specs.Deck.{Deck, item_codes, number_among}
use Rattle.pc_faults.specs.Faults.{not_a_leaf, uneven}
use Rattle.pc_faults.specs.declared.fault.Fault.{Fault}
use Rattle.pc_model.specs.Greatest.{IsFirst}
use Rattle.pc_wbs.specs.Climb.{IsLeaf}
use Rattle.pc_project.specs.Project.{accounts_in, rows_of, work_in}
use Rattle.pc_project.specs.Records.{item_records}

-- the card at this record is on the item with this code, which has items below it
abbrev pub StandsOnBranch : Deck → ℕ → List ℕ → Fault → Type 0
StandsOnBranch deck row code fault =
    (IsLeaf (rows_of deck) (number_among (item_codes deck) code) → ⊥) × (fault ≡ not_a_leaf row code)

-- F28: an activity or an account is on such an item
pub data HasLeafFault (deck : Deck) (fault : Fault) : Type 0 where
  of_act : Any (λ act. StandsOnBranch deck act.row act.item fault) deck.acts → HasLeafFault deck fault
  of_account : Any (λ account. StandsOnBranch deck account.row account.item fault) deck.accounts → HasLeafFault deck fault

-- no activity and no account is
abbrev pub HasNoLeafFault : Deck → Type 0
HasNoLeafFault deck = (fault : Fault) → HasLeafFault deck fault → ⊥

-- the fault of an uneven item: its record, its code and its two sums
abbrev pub uneven_at : Deck → ℕ → Fault
uneven_at deck item =
    uneven (slice_index (item_records deck) item) (text_at (item_codes deck) item) (budgets_of (accounts_in deck) item) (costs_of (work_in deck) item)

-- F29: the first item whose accounts' budgets differ from what its activities cost
abbrev pub IsFirstUnevenFault : Deck → Fault → Type 0
IsFirstUnevenFault deck fault =
    (item : ℕ) × (IsFirst (IsUneven (accounts_in deck) (work_in deck)) item × (fault ≡ uneven_at deck item))
