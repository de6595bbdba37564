-- The line that bytes spell, read word by word.
use Rattle.std.specs.Prelude.{ℕ, zero, suc, ◌||◌, nat_lt, List, [], ◌∷◌, length, take, drop, Option, Some, None, bytes_eq, codes, if◌then◌else◌}
use Rattle.pc_text.specs.Fields.{◌>>=◌, run_len, code_field, number_field, alone}
use Rattle.pc_cert.specs.inside.Fields.{bit_field}
use Rattle.pc_cert.specs.declared.number.TheConstants.{MAX_DIGITS}
use Rattle.pc_cert.specs.declared.line.CertLine.{CertLine}
use Rattle.pc_cert.specs.declared.line.CertLine.TheVariants.{Head, Normal, Step, Crash, Segment, Event, Act, Close, End}

unfoldable pub head_from : List ℕ → Option CertLine
head_from fields = do
  version ← number_field MAX_DIGITS fields
  project ← code_field version.1
  events ← number_field MAX_DIGITS project.1
  activities ← number_field MAX_DIGITS events.1
  if nat_lt version.0 1 || nat_lt 2 version.0 then None else alone activities.1 (Head version.0 project.0 events.0 activities.0)

unfoldable pub step_from : List ℕ → Option CertLine
step_from fields = do
  code ← code_field fields
  alone code.1 (Step code.0)

unfoldable pub segment_from : List ℕ → Option CertLine
segment_from fields = do
  upper ← number_field MAX_DIGITS fields
  lower ← number_field MAX_DIGITS upper.1
  cost ← number_field MAX_DIGITS lower.1
  slope ← number_field MAX_DIGITS cost.1
  alone slope.1 (Segment upper.0 lower.0 cost.0 slope.0)

unfoldable pub event_from : List ℕ → Option CertLine
event_from fields = do
  code ← code_field fields
  time ← number_field MAX_DIGITS code.1
  moves ← bit_field time.1
  alone moves.1 (Event code.0 time.0 moves.0)

-- the numbers in the fields, if there are at most `room`
abbrev pub numbers_in : ℕ → List ℕ → Option (List ℕ)
numbers_in room [] = Some []
numbers_in zero (b ∷ bs) = None
numbers_in (suc room) (b ∷ bs) = do
  number ← number_field MAX_DIGITS (b ∷ bs)
  others ← numbers_in room number.1
  Some (number.0 ∷ others)

-- the flows that the fields are
unfoldable pub flows_of : List ℕ → Option (List ℕ)
flows_of fields = numbers_in 6 fields

unfoldable pub act_from : List ℕ → Option CertLine
act_from fields = do
  code ← code_field fields
  duration ← number_field MAX_DIGITS code.1
  flows ← flows_of duration.1
  if nat_lt (length flows) 2 then None else Some (Act code.0 duration.0 flows)

-- the line with this first word and these fields
abbrev pub line_with : List ℕ → List ℕ → Option CertLine
line_with word fields =
    if bytes_eq word (codes "ACT") then act_from fields
    else if bytes_eq word (codes "EVENT") then event_from fields
    else if bytes_eq word (codes "SEGMENT") then segment_from fields
    else if bytes_eq word (codes "CLOSE") then alone fields Close
    else if bytes_eq word (codes "STEP") then step_from fields
    else if bytes_eq word (codes "CERT") then head_from fields
    else if bytes_eq word (codes "NORMAL") then alone fields Normal
    else if bytes_eq word (codes "CRASH") then alone fields Crash
    else if bytes_eq word (codes "END") then alone fields End
    else None

-- the line that the bytes spell: its first word goes up to the first space
unfoldable pub line_of : List ℕ → Option CertLine
line_of bytes = line_with (take (run_len 32 bytes) bytes) (drop (run_len 32 bytes) bytes)
