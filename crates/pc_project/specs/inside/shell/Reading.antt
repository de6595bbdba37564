-- The result of reading a deck from a source: its bytes, its project, or why there is none. Two relations vary with the sort of deck, so
-- that this is defined once: which project bytes make, and which faults they have.
-- Here is what no clause of a top call and no law reaches.
use Rattle.std.specs.Prelude.{ℕ, ◌≤◌, List, length, ⊤}
use Rattle.std.specs.Io.KnownBytes.{Consumes}
use Rattle.pc_edges.specs.declared.loading.LoadError.{LoadError}
use Rattle.pc_edges.specs.declared.loading.LoadError.TheVariants as load
use Rattle.pc_faults.specs.Faults.{too_long as fault_too_long}
use Rattle.pc_faults.specs.declared.fault.DeckError.{DeckError}
use Rattle.pc_faults.specs.declared.fault.DeckError.TheVariants as error
use Rattle.pc_faults.specs.declared.fault.Fault.{Fault}
use Rattle.pc_deck.specs.Limits.{longest_deck}
use Rattle.pc_faults.specs.inside.FaultText.{IsTold}
use Rattle.pc_project.specs.Project.{Project}
use Rattle.pc_project.specs.declared.shell.reading.NoProject.{NoProject}
use Rattle.pc_project.specs.declared.shell.reading.NoProject.TheVariants.{Refused, ReadFault, OutOfMemory}
use Rattle.pc_project.specs.shell.Sides.{Side, HadFault, IsReadToEnd, TookAtMost}
use Rattle.pc_project.specs.shell.Verdict.{IsFault, IsProjectOf}
use Rattle.pc_project.specs.shell.Reading.{HasProjectBy, HasRefusalBy}

-- the source was read to its end, and these are the bytes that it had left: no more than a deck may have
pub record IsWholeDeck {X : Type 0} (source : Side X) (bytes : List ℕ) : Type 0 where
  pub short : length bytes ≤ longest_deck
  pub all : Consumes (source.bytes source.old) (source.bytes source.new) bytes
  pub end : IsReadToEnd source

-- ---- by what the bytes of a deck are

-- why bytes that are a deck give no project: they have a fault; want of memory comes at any time
abbrev pub IsNoProjectBy : (List ℕ → Fault → Type 0) → List ℕ → NoProject → Type 0
IsNoProjectBy Has deck (Refused fault) = IsTold fault × Has deck fault
IsNoProjectBy Has deck ReadFault = ⊥
IsNoProjectBy Has deck OutOfMemory = ⊤

-- why there is no project: the deck is refused, or it could not be read, and no more of it was taken than a deck may have; want of memory
-- comes at any time
abbrev pub HasNoProjectBy : {X : Type 0} → (List ℕ → Fault → Type 0) → Side X → NoProject → Type 0
HasNoProjectBy Has source (Refused fault) = IsTold fault × HasRefusalBy Has source fault
HasNoProjectBy Has source ReadFault = HadFault source × TookAtMost longest_deck source
HasNoProjectBy Has source OutOfMemory = ⊤

-- why a deck was not read: none of its own faults, which are found only in a deck that was read
abbrev pub HasNoDeck : {X : Type 0} → Side X → NoProject → Type 0
HasNoDeck source why = HasNoProjectBy (λ bytes fault. ⊥) source why

-- why there is no project if the source was not read to its end
abbrev pub unread : LoadError → NoProject
unread load.ReadFault = ReadFault
unread load.TooLong = Refused fault_too_long
unread load.OutOfMemory = OutOfMemory

-- why there is no project if a deck that was read is refused
abbrev pub lacking : DeckError → NoProject
lacking (error.Fault fault) = Refused fault
lacking error.OutOfMemory = OutOfMemory

-- ---- the same of plans

abbrev pub HasProject : {X : Type 0} → Side X → Project → Type 0
HasProject source project = HasProjectBy IsProjectOf source project

abbrev pub IsNoProjectOf : List ℕ → NoProject → Type 0
IsNoProjectOf deck why = IsNoProjectBy IsFault deck why

abbrev pub HasNoProject : {X : Type 0} → Side X → NoProject → Type 0
HasNoProject source why = HasNoProjectBy IsFault source why
