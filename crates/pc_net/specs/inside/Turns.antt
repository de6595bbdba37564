-- The turns of the search that finishes the events.
use Rattle.std.specs.Prelude.{ℕ, ◌<◌, List, All}
use Rattle.pc_net.specs.declared.components.Turn.{Turn}
use Rattle.pc_net.specs.declared.components.Turn.TheVariants.{Enter, Finish}

-- each is an event
abbrev pub AreEvents : ℕ → List ℕ → Type 0
AreEvents events listed = All (λ event. event < events) listed

-- the event that is entered or finished
abbrev pub event_of_turn : Turn → ℕ
event_of_turn (Enter event) = event
event_of_turn (Finish event) = event

-- each turn is one of an event
abbrev pub AreTurns : ℕ → List Turn → Type 0
AreTurns events stack = All (λ turn. event_of_turn turn < events) stack
