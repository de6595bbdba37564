-- Which decks are accepted, and with which fault each other deck is refused.
use Rattle.std.specs.Prelude.{◌≡◌, ℕ, ◌<◌, ◌≤◌, List, length}
use Rattle.pc_deck.specs.Limits.{longest_deck}
use Rattle.pc_faults.specs.declared.fault.Fault.{Fault}
use Rattle.pc_deck.specs.Deck.{Deck}
use Rattle.pc_deck.specs.Read.{IsDeckOf}
use Rattle.pc_deck.specs.Refusal.{IsCardRefusal}
use Rattle.pc_faults.specs.Faults.{too_long as fault_too_long}
use Rattle.pc_project.specs.Figures.{IsProjectOfDeck}
use Rattle.pc_project.specs.Project.{Project}
use Rattle.pc_project.specs.Makes.{MakesProject}
use Rattle.pc_project.specs.Refusal.{IsRefusedWith}

-- the bytes are the deck of these cards: each kind has what its cards spell, and they have no fault; and they make a project
pub record IsAccepted (bytes : List ℕ) (deck : Deck) : Type 0 where
  pub short : length bytes ≤ longest_deck
  pub cards : IsDeckOf bytes deck
  pub makes : MakesProject deck

-- the fault with which a deck is refused: it is too long (F1), its cards are refused (F2 to F12), or they were read and
-- make no project (F13 to F31, F33 to F36, F41)
pub data IsFault (bytes : List ℕ) (fault : Fault) : Type 0 where
  too_long : longest_deck < length bytes → fault ≡ fault_too_long → IsFault bytes fault
  card_refusal : length bytes ≤ longest_deck → IsCardRefusal bytes fault → IsFault bytes fault
  project_refusal : (deck : Deck) → length bytes ≤ longest_deck → IsDeckOf bytes deck → IsRefusedWith deck fault → IsFault bytes fault

-- the project is that of the deck, which is accepted
pub record IsProjectOf (bytes : List ℕ) (project : Project) : Type 0 where
  pub deck : Deck
  pub accepted : IsAccepted bytes deck
  pub is : IsProjectOfDeck deck project

-- the deck is accepted
abbrev pub AcceptedBy : List ℕ → Type 0
AcceptedBy bytes = (deck : Deck) × IsAccepted bytes deck

-- the deck has a fault
abbrev pub RefusedBy : List ℕ → Type 0
RefusedBy bytes = (fault : Fault) × IsFault bytes fault
