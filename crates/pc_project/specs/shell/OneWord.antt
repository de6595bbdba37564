-- What the top calls with one word, the name of a deck, share: how they end before they have the deck's project.
use Rattle.std.specs.Prelude.{◌≡◌, List, length, String}
use Rattle.std.specs.declared.alloc.Global.{Global}
use Rattle.pc_faults.specs.declared.fault.Fault.{Fault}
use Rattle.pc_faults.specs.FaultText.{fault_text}
use Rattle.pc_project.specs.shell.Reading.{HasRefusal}
use Rattle.pc_project.specs.shell.Sides.{Side, Took, TookFront}

-- there is one word, the deck's name
abbrev pub IsOneWord : List (String Global) → Type 0
IsOneWord words = length words ≡ 1

-- there is one word, the deck is refused, and the error output took the line of its fault
pub record IsDeckRefused {D E : Type 0} (words : List (String Global)) (deck : Side D) (err : Side E) : Type 0 where
  pub asked : IsOneWord words
  pub fault : Fault
  pub refusal : HasRefusal deck fault
  pub took : Took err (fault_text fault)

-- the same, but that a fault of the error output came when it had taken a front of the line
pub record IsRefusalCut {D E : Type 0} (words : List (String Global)) (deck : Side D) (err : Side E) : Type 0 where
  pub asked : IsOneWord words
  pub fault : Fault
  pub refusal : HasRefusal deck fault
  pub took : TookFront err (fault_text fault)
