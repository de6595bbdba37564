-- How the line of a fault grows, and how many bytes it may have.
use Rattle.std.specs.Prelude.{◌≡◌, ℕ, ◌≤◌, ◌+◌, ◌*◌, List, ◌++◌, length}
use Rattle.pc_text.specs.inside.Line.{Line}
use Rattle.pc_faults.specs.declared.fault.Detail.{Detail}
use Rattle.pc_faults.specs.declared.fault.Detail.TheVariants.{Plain, Kind, Fields, Field, Name, TooMany, Names, Level, Side, Sums, Status, ToGo, Length, Periods}

-- how many codes the detail lists
abbrev pub listed_in : Detail → ℕ
listed_in Plain = 0
listed_in (Kind kind) = 0
listed_in (Fields kind have want) = 0
listed_in (Field field) = 0
listed_in (Name code) = 0
listed_in (TooMany kind limit) = 0
listed_in (Names names) = length names
listed_in (Level name level) = 0
listed_in (Side name entered) = 0
listed_in (Sums name budgets costs) = 0
listed_in (Status reason) = 0
listed_in (ToGo account day) = 0
listed_in (Length asked crash normal) = 0
listed_in (Periods have) = 0

-- no fewer bytes than the words have: 17 for each code that is listed with the space before it, and 90 for all others
abbrev pub words_limit : Detail → ℕ
words_limit detail = 90 + 17 * listed_in detail

-- the line has the words after its old bytes, which are at most `limit` bytes more, and its capacity is the old one
pub record HasTold (limit : ℕ) (old new : Line) (words : List ℕ) : Type 0 where
  pub bytes : new.bytes ≡ old.bytes ++ words
  pub room : new.room ≡ old.room
  pub short : length new.bytes ≤ length old.bytes + limit
