-- The line that reports a fault.
use Rattle.std.specs.Prelude.{ℕ, Bool, true, false, ◌==◌, List, [], ◌∷◌, ◌++◌, codes, decimal, if◌then◌else◌}
use Rattle.pc_days.specs.Calendar.{text_of_day}
use Rattle.pc_faults.specs.Kinds.{word_of}
use Rattle.pc_faults.specs.declared.fault.StatusFault.{StatusFault}
use Rattle.pc_faults.specs.declared.fault.StatusFault.TheVariants as reason
use Rattle.pc_faults.specs.declared.fault.Detail.{Detail}
use Rattle.pc_faults.specs.declared.fault.Detail.TheVariants.{Plain, Kind, Fields, Field, Name, TooMany, Names, Level, Side, Sums, Status, ToGo, Length, Periods}
use Rattle.pc_faults.specs.declared.fault.Fault.{Fault}

-- the words of a fault before and after what it names
pub record Words : Type 0 where
  pub before : List ℕ
  pub after : List ℕ

-- words with nothing after them
abbrev pub before : List ℕ → Words
before words = record { before = words; after = [] }

-- words on both sides
abbrev pub around : List ℕ → List ℕ → Words
around words others = record { before = words; after = others }

-- the words of each fault, by its number; none for a fault whose words go by its detail alone
abbrev pub fault_words : ℕ → Words
fault_words number =
    if number == 1 then before (codes "more than 67108864 bytes")
    else if number == 2 then before (codes "not UTF-8")
    else if number == 3 then before (codes "first card is not PROJECT")
    else if number == 4 then before (codes "unknown kind")
    else if number == 7 then around (codes "field ") (codes " has a wrong shape")
    else if number == 8 then around (codes "field ") (codes " is over its limit")
    else if number == 9 then around (codes "code ") (codes " is repeated")
    else if number == 11 then before (codes "card after END")
    else if number == 12 then before (codes "no END")
    else if number == 13 then before (codes "unknown event ")
    else if number == 14 then before (codes "unknown item ")
    else if number == 15 then before (codes "unknown account ")
    else if number == 16 then before (codes "unknown activity ")
    else if number == 17 then before (codes "begins and ends at ")
    else if number == 18 then before (codes "estimates out of order")
    else if number == 19 then before (codes "crash above normal")
    else if number == 20 then before (codes "no top item")
    else if number == 21 then before (codes "second top item ")
    else if number == 22 then before (codes "items in a loop: ")
    else if number == 24 then around (codes "activity ") (codes " enters the start")
    else if number == 25 then around (codes "activity ") (codes " leaves the end")
    else if number == 27 then before (codes "activities in a cycle: ")
    else if number == 28 then around (codes "item ") (codes " is not a leaf")
    else if number == 33 then before (codes "more than 4 pieces of ")
    else if number == 34 then around (codes "slope of a piece of ") (codes " does not rise")
    else if number == 35 then around (codes "pieces of ") (codes " leave nothing to its first slope")
    else if number == 36 then before (codes "bonus above penalty")
    else if number == 37 then before (codes "top item has no child")
    else if number == 38 then before (codes "tasks in a cycle: ")
    else if number == 39 then before (codes "no task")
    else if number == 41 then before (codes "unknown resource ")
    else before []

-- the words before an event that is loose, by whether an activity enters it
abbrev pub side_words : Bool → List ℕ
side_words true = codes "no activity leaves "
side_words false = codes "no activity enters "

-- what is wrong with a STATUS or ASOF card
abbrev pub status_words : StatusFault → List ℕ
status_words reason.Second = codes "second status"
status_words reason.Early = codes "date before the start"
status_words reason.Late = codes "date after as-of"
status_words reason.NoStart = codes "finish without start"
status_words reason.FinishFirst = codes "finish before start"

-- each code after a space
abbrev pub spaced_codes : List (List ℕ) → List ℕ
spaced_codes [] = []
spaced_codes (code ∷ rest) = codes " " ++ code ++ spaced_codes rest

-- the codes, with a space between one and the next
abbrev pub joined : List (List ℕ) → List ℕ
joined [] = []
joined (code ∷ rest) = code ++ spaced_codes rest

-- what is wrong
abbrev pub words_of : ℕ → Detail → List ℕ
words_of number Plain = (fault_words number).before
words_of number (Kind kind) = codes "second " ++ word_of kind
words_of number (Fields kind have want) = decimal have ++ codes " fields, " ++ word_of kind ++ codes " has " ++ decimal want
words_of number (Field field) = (fault_words number).before ++ decimal field ++ (fault_words number).after
words_of number (Name code) = (fault_words number).before ++ code ++ (fault_words number).after
words_of number (TooMany kind limit) = codes "more than " ++ decimal limit ++ codes " " ++ word_of kind ++ codes " cards"
words_of number (Names names) = (fault_words number).before ++ joined names
words_of number (Level name level) = codes "item " ++ name ++ codes " at level " ++ decimal level
words_of number (Side name entered) = side_words entered ++ name
words_of number (Sums name budgets costs) = codes "item " ++ name ++ codes " has budgets " ++ decimal budgets ++ codes " and costs " ++ decimal costs
words_of number (Status reason) = status_words reason
words_of number (ToGo account day) = codes "second TOGO of " ++ account ++ codes " on " ++ text_of_day day
words_of number (Length asked crash normal) = codes "length " ++ decimal asked ++ codes " is outside " ++ decimal crash ++ codes " to " ++ decimal normal
words_of number (Periods have) = decimal have ++ codes " periods, more than 400"

-- `F<number> record <row>: <words>`, and a line feed (10)
abbrev pub fault_text : Fault → List ℕ
fault_text fault =
    codes "F" ++ decimal fault.number ++ codes " record " ++ decimal fault.row ++ codes ": " ++ words_of fault.number fault.detail ++ 10 ∷ []
