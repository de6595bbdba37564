-- Which deck a form is about: that of the source, or one of its own, for which nothing is read; and its sort.
-- Here is what no clause of a top call and no law reaches.
use Rattle.std.specs.Prelude.{ℕ, List}
use Rattle.pc_deck.specs.Limits.{longest_deck}
use Rattle.pc_faults.specs.inside.FaultText.{IsTold}
use Rattle.pert_cli.specs.declared.forms.Form.{Form}
use Rattle.pc_project.specs.declared.shell.reading.NoProject.{NoProject}
use Rattle.pc_project.specs.declared.shell.reading.NoProject.TheVariants.{Refused, ReadFault, OutOfMemory}
use Rattle.pc_project.specs.shell.Sides.{Side, HadFault, IsUntouched, TookAtMost}
use Rattle.pert_cli.specs.FormDeck.{ReadsSource, IsOwnDeck, HasRefusalFor}

-- a form that has a deck of its own did not change the source
abbrev pub IsLeftBy : {X : Type 0} → Form → Side X → Type 0
IsLeftBy form source = (deck : List ℕ) → IsOwnDeck form deck → IsUntouched source

-- why a form has no project: its deck is refused, or the source that it reads could not be read, and no more of it was
-- taken than a deck may have; or memory ran out, which may happen at any time
abbrev pub HasNoProjectFor : {X : Type 0} → Form → Side X → NoProject → Type 0
HasNoProjectFor form source (Refused fault) = IsTold fault × HasRefusalFor form source fault
HasNoProjectFor form source ReadFault = ReadsSource form × HadFault source × TookAtMost longest_deck source
HasNoProjectFor form source OutOfMemory = IsLeftBy form source
