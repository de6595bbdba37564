-- A kind of cards: what it asks of its cards, what they say, and how they are written. Each kind's own file gives its
-- entry, over the lists in which a deck has its cards.
use Rattle.std.specs.Prelude.{ℕ, Bool, ◌==◌, List, [], Option, Some, None, if◌then◌else◌}
use Rattle.pc_faults.specs.declared.fault.Fault.{Fault}
use Rattle.pc_faults.specs.declared.target.Target.{Target}
use Rattle.pc_faults.specs.declared.target.Target.TheVariants.{Activity, Task}
use Rattle.pc_cards.specs.Forms.{Slot}
use Rattle.pc_cards.specs.Named.{HeldBy}
use Rattle.pc_cards.specs.declared.sort.Sort.{Sort}
use Rattle.pc_cards.specs.declared.sort.Sort.TheVariants.{Plan, Tasks}

-- one thing in decks of both sorts
abbrev pub in_both : {A : Type 0} → A → Sort → A
in_both same sort = same

-- one thing in a plan, and another in a deck of tasks
abbrev pub by_sort : {A : Type 0} → A → A → Sort → A
by_sort plan tasks Plan = plan
by_sort plan tasks Tasks = tasks

-- how many cards of a kind a deck may have: as many as there are, up to a number, or up to a number that is greater in
-- decks of version 2
pub data Limit : Type 0 where
  unlimited : Limit
  up_to : ℕ → Limit
  growing : ℕ → ℕ → Limit

-- how many cards a limit allows in a deck of a version, if it is a number
abbrev pub limit_at : ℕ → Limit → Option ℕ
limit_at version unlimited = None
limit_at version (up_to most) = Some most
limit_at version (growing small large) = Some (if version == 2 then large else small)

-- the limit of a kind that only plans have
abbrev pub in_plans : Limit → Sort → Limit
in_plans limit = by_sort limit (up_to 0)

-- the limit of a kind that only decks of tasks have
abbrev pub in_tasks : Limit → Sort → Limit
in_tasks limit = by_sort (up_to 0) limit

-- no code of its own
abbrev pub no_code : {C : Type 0} → C → List ℕ
no_code card = []

-- what a card names by a code: what it is, and the code
pub record Reference : Type 0 where
  pub target : Target
  pub code : List ℕ

-- what the work in a deck of a sort is: activities in a plan, tasks in a deck of tasks
abbrev pub work_target : Sort → Target
work_target Plan = Activity
work_target Tasks = Task

-- the faults of a kind that only plans have
abbrev pub flaws_in_plans : {C : Type 0} → (C → Fault → Type 0) → Sort → C → Fault → Type 0
flaws_in_plans flaws Plan card fault = flaws card fault
flaws_in_plans flaws Tasks card fault = ⊥

-- the faults of a kind that only decks of tasks have
abbrev pub flaws_in_tasks : {C : Type 0} → (C → Fault → Type 0) → Sort → C → Fault → Type 0
flaws_in_tasks flaws Plan card fault = ⊥
flaws_in_tasks flaws Tasks card fault = flaws card fault

-- a kind of cards
pub record Entry (Lists : Type 0) : Type 1 where
  -- a card as plain data
  pub Card : Type 0
  -- the card in a record, from the record's number and its fields
  pub spelled : ℕ → List (List ℕ) → Card
  -- what the fields must be in decks of a sort, after the kind itself
  pub slots : Sort → List Slot
  -- how many fields a card must have, the kind itself among them
  pub least : ℕ
  -- how many fields it may have
  pub most : ℕ
  -- whether a second card of the kind is a fault
  pub once : Bool
  -- the cards of the kind in a deck: at most one if the kind is allowed once, else a list
  pub held : Lists → HeldBy once Card
  -- how many cards of the kind a deck of a sort may have; none if the sort does not have the kind
  pub limit : Sort → Limit
  -- whether the cards have codes of their own, no two of them the same
  pub is_coded : Bool
  -- that code
  pub code : Card → List ℕ
  -- the record of a card
  pub row : Card → ℕ
  -- what a card names in a deck of a sort, in the order in which it is looked up
  pub names : Sort → Card → List Reference
  -- the faults that a card has by itself in a deck of a sort, whatever it names
  pub flaws : Sort → Card → Fault → Type 0

-- how the cards of a kind are written
pub record Written (Card : Type 0) : Type 0 where
  -- the fields of a card as they are written, after the kind itself, each in canonical form
  pub written : Card → List (List ℕ)
  -- the same card in another record
  pub at_row : ℕ → Card → Card
