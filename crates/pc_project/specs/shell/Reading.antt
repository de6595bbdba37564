-- The result of reading a deck from a source: its bytes, its project, or why there is none. Two relations vary with the sort of deck, so
-- that this is defined once: which project bytes make, and which faults they have.
use Rattle.std.specs.Prelude.{◌≡◌, ℕ, ◌≤◌, List, length}
use Rattle.pc_faults.specs.declared.fault.Fault.{Fault}
use Rattle.pc_deck.specs.Limits.{longest_deck}
use Rattle.pc_faults.specs.Faults.{too_long as fault_too_long}
use Rattle.pc_project.specs.Project.{Project}
use Rattle.pc_project.specs.shell.Sides.{Side, IsReadToEnd, OfBytes, TookMoreThan}
use Rattle.pc_project.specs.shell.Verdict.{IsFault}

-- ---- by what the bytes of a deck are

-- the deck was read to its end, and it makes this project
pub record HasProjectBy {X : Type 0} (Makes : List ℕ → Project → Type 0) (source : Side X) (project : Project) : Type 0 where
  pub read : IsReadToEnd source
  pub is : OfBytes source (λ bytes. Makes bytes project)

-- the deck is refused with the fault: more bytes were taken than a deck may have, and the fault is F1; or it was read to its
-- end, is not too long, and has the fault
pub data HasRefusalBy {X : Type 0} (Has : List ℕ → Fault → Type 0) (source : Side X) (fault : Fault) : Type 0 where
  too_long : fault ≡ fault_too_long → TookMoreThan longest_deck source → HasRefusalBy Has source fault
  faulty : IsReadToEnd source → OfBytes source (λ bytes. (length bytes ≤ longest_deck) × Has bytes fault) → HasRefusalBy Has source fault

-- ---- the same of plans

abbrev pub HasRefusal : {X : Type 0} → Side X → Fault → Type 0
HasRefusal source fault = HasRefusalBy IsFault source fault
