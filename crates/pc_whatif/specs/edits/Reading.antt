-- The request in a line, read word by word.
use Rattle.std.specs.Prelude.{ℕ, nat_lt, List, length, take, drop, Option, Some, None, bytes_eq, codes, if◌then◌else◌}
use Rattle.pc_text.specs.Fields.{◌>>=◌, run_len, code_field, number_field, alone}
use Rattle.pc_text.specs.declared.number.TheConstants.{DECK_DIGITS}
use Rattle.pc_whatif.specs.declared.edits.ask.Ask.{Ask}
use Rattle.pc_whatif.specs.declared.edits.ask.Ask.TheVariants as ask
use Rattle.pc_whatif.specs.declared.edits.ask.Change.{Change}
use Rattle.pc_whatif.specs.declared.edits.ask.Change.TheVariants.{Estimate, Normal, Crash, Slope}
use Rattle.pc_whatif.specs.declared.edits.ask.TheConstants.{MAX_LINE}

-- an edit as an ask
abbrev pub edit_of : List ℕ → Change → Ask
edit_of act change = ask.Edit (record { act = act; change = change })

unfoldable pub estimate_ask : List ℕ → Option Ask
estimate_ask fields = do
  act ← code_field fields
  optimistic ← number_field DECK_DIGITS act.1
  likely ← number_field DECK_DIGITS optimistic.1
  pessimistic ← number_field DECK_DIGITS likely.1
  alone pessimistic.1 (edit_of act.0 (Estimate (record { optimistic = optimistic.0; likely = likely.0; pessimistic = pessimistic.0 })))

-- the activity and the one number that the fields are
unfoldable pub amount_of : List ℕ → Option (List ℕ × ℕ)
amount_of fields = do
  act ← code_field fields
  n ← number_field DECK_DIGITS act.1
  alone n.1 (act.0, n.0)

unfoldable pub normal_ask : List ℕ → Option Ask
normal_ask fields = do
  amount ← amount_of fields
  Some (edit_of amount.0 (Normal amount.1))

unfoldable pub crash_ask : List ℕ → Option Ask
crash_ask fields = do
  amount ← amount_of fields
  Some (edit_of amount.0 (Crash amount.1))

unfoldable pub slope_ask : List ℕ → Option Ask
slope_ask fields = do
  amount ← amount_of fields
  Some (edit_of amount.0 (Slope amount.1))

unfoldable pub try_ask : List ℕ → Option Ask
try_ask fields = do
  act ← code_field fields
  normal ← number_field DECK_DIGITS act.1
  crash ← number_field DECK_DIGITS normal.1
  slope ← number_field DECK_DIGITS crash.1
  length ← number_field DECK_DIGITS slope.1
  alone length.1 (ask.Try (record { act = act.0; normal = normal.0; crash = crash.0; slope = slope.0; length = length.0 }))

-- the ask with this first word and these fields
abbrev pub ask_with : List ℕ → List ℕ → Option Ask
ask_with word fields =
    if bytes_eq word (codes "TRY") then try_ask fields
    else if bytes_eq word (codes "ESTIMATE") then estimate_ask fields
    else if bytes_eq word (codes "NORMAL") then normal_ask fields
    else if bytes_eq word (codes "CRASH") then crash_ask fields
    else if bytes_eq word (codes "SLOPE") then slope_ask fields
    else if bytes_eq word (codes "UNDO") then alone fields ask.Undo
    else if bytes_eq word (codes "TIMES") then alone fields ask.Times
    else if bytes_eq word (codes "CURVE") then alone fields ask.Curve
    else None

-- the request in a line: its first word goes up to the first space
unfoldable pub ask_of : List ℕ → Option Ask
ask_of line = if nat_lt MAX_LINE (length line) then None else ask_with (take (run_len 32 line) line) (drop (run_len 32 line) line)
