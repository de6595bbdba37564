-- What cards name by a code, and the fault of a card that names what is not there (F13 to F16, F41).
use Rattle.std.specs.Prelude.{◌≡◌, ℕ, List, None}
use Rattle.pc_deck.specs.Deck.{Deck, account_codes, act_codes, event_codes, item_codes, named_among, resource_codes, task_codes}
use Rattle.pc_faults.specs.Faults.{unknown_name}
use Rattle.pc_faults.specs.declared.fault.Fault.{Fault}
use Rattle.pc_faults.specs.declared.target.Target.{Target}
use Rattle.pc_faults.specs.declared.target.Target.TheVariants.{Event, Item, Account, Activity, Task, Resource}

-- the codes of what cards name, in card order
abbrev pub target_codes : Deck → Target → List (List ℕ)
target_codes deck Event = event_codes deck
target_codes deck Item = item_codes deck
target_codes deck Account = account_codes deck
target_codes deck Activity = act_codes deck
target_codes deck Task = task_codes deck
target_codes deck Resource = resource_codes deck

-- the fault of a card, at a record, that names by a code what is not there
pub record IsUnknown (deck : Deck) (target : Target) (row : ℕ) (code : List ℕ) (fault : Fault) : Type 0 where
  pub missing : named_among (target_codes deck target) code ≡ None
  pub told : fault ≡ unknown_name target row code
