-- What a line may request, and the text of each request.
use Rattle.std.specs.Prelude.{◌≡◌, ℕ, ◌^◌, ◌<◌, ◌≤◌, List, [], ◌++◌, length, decimal, codes}
use Rattle.pc_text.specs.Fields.{spaced, IsCode}
use Rattle.pc_whatif.specs.declared.edits.ask.Ask.{Ask}
use Rattle.pc_whatif.specs.declared.edits.ask.Ask.TheVariants as ask
use Rattle.pc_whatif.specs.declared.edits.ask.Change.{Change}
use Rattle.pc_whatif.specs.declared.edits.ask.Change.TheVariants.{Estimate, Normal, Crash, Slope}
use Rattle.pc_whatif.specs.declared.edits.ask.Trial.{Trial}
use Rattle.pc_whatif.specs.declared.edits.ask.TheConstants.{MAX_LINE}

-- a change of numbers of the activity with a code
abbrev pub change_text : List ℕ → Change → List ℕ
change_text act (Estimate new) =
    codes "ESTIMATE" ++ spaced act (spaced (decimal new.optimistic) (spaced (decimal new.likely) (spaced (decimal new.pessimistic) [])))
change_text act (Normal n) = codes "NORMAL" ++ spaced act (spaced (decimal n) [])
change_text act (Crash n) = codes "CRASH" ++ spaced act (spaced (decimal n) [])
change_text act (Slope n) = codes "SLOPE" ++ spaced act (spaced (decimal n) [])

-- a trial
abbrev pub trial_text : Trial → List ℕ
trial_text trial =
    codes "TRY" ++ spaced trial.act (spaced (decimal trial.normal) (spaced (decimal trial.crash) (spaced (decimal trial.slope) (spaced (decimal trial.length) []))))

-- the canonical text of a request, without the end of the line
abbrev pub ask_text : Ask → List ℕ
ask_text (ask.Edit edit) = change_text edit.act edit.change
ask_text ask.Undo = codes "UNDO"
ask_text ask.Times = codes "TIMES"
ask_text ask.Curve = codes "CURVE"
ask_text (ask.Try trial) = trial_text trial

-- a number of at most 13 digits, as a deck has them
abbrev pub HasAtMost13Digits : ℕ → Type 0
HasAtMost13Digits n = n < 10 ^ 13

-- the numbers of a change can be written
abbrev pub IsWritableChange : Change → Type 0
IsWritableChange (Estimate new) = HasAtMost13Digits new.optimistic × HasAtMost13Digits new.likely × HasAtMost13Digits new.pessimistic
IsWritableChange (Normal n) = HasAtMost13Digits n
IsWritableChange (Crash n) = HasAtMost13Digits n
IsWritableChange (Slope n) = HasAtMost13Digits n

-- a request can be written: its codes are codes, and its numbers have at most 13 digits
abbrev pub IsWritableAsk : Ask → Type 0
IsWritableAsk (ask.Edit edit) = IsCode edit.act × IsWritableChange edit.change
IsWritableAsk (ask.Try trial) = IsCode trial.act × HasAtMost13Digits trial.normal × HasAtMost13Digits trial.crash × HasAtMost13Digits trial.slope × HasAtMost13Digits trial.length
IsWritableAsk other = Unit {0}

-- the line makes this request: it is the text of the request, and not too long
pub record Asks (line : List ℕ) (a : Ask) : Type 0 where
  pub fits : IsWritableAsk a
  pub spelled : line ≡ ask_text a
  pub short : length line ≤ MAX_LINE
