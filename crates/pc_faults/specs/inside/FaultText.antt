-- The line that reports a fault.
-- Here is what no clause of a top call and no law reaches.
use Rattle.std.specs.Prelude.{◌≡◌, ℕ, true, ◌==◌, List, [], ◌∷◌}
use Rattle.std.specs.List.{list_any}
use Rattle.pc_faults.specs.declared.fault.Detail.{Detail}
use Rattle.pc_faults.specs.declared.fault.Detail.TheVariants.{Plain, Kind, Fields, Field, Name, TooMany, Names, Level, Side, Sums, Status, ToGo, Length, Periods}
use Rattle.pc_faults.specs.declared.fault.Fault.{Fault}

-- the numbers of the faults that name nothing
abbrev pub plain_numbers : List ℕ
plain_numbers = 1 ∷ 2 ∷ 3 ∷ 4 ∷ 11 ∷ 12 ∷ 18 ∷ 19 ∷ 20 ∷ 36 ∷ 37 ∷ 39 ∷ []

-- the numbers of the faults that name a code alone
abbrev pub name_numbers : List ℕ
name_numbers = 9 ∷ 13 ∷ 14 ∷ 15 ∷ 16 ∷ 17 ∷ 21 ∷ 24 ∷ 25 ∷ 28 ∷ 33 ∷ 34 ∷ 35 ∷ 41 ∷ []

-- the numbers of the faults that name several codes
abbrev pub list_numbers : List ℕ
list_numbers = 22 ∷ 27 ∷ 38 ∷ []

-- the numbers of the faults that go with a detail
abbrev pub numbers_of : Detail → List ℕ
numbers_of Plain = plain_numbers
numbers_of (Kind kind) = 5 ∷ []
numbers_of (Fields kind have want) = 6 ∷ []
numbers_of (Field field) = 7 ∷ 8 ∷ []
numbers_of (Name code) = name_numbers
numbers_of (TooMany kind limit) = 10 ∷ []
numbers_of (Names names) = list_numbers
numbers_of (Level name level) = 23 ∷ []
numbers_of (Side name entered) = 26 ∷ []
numbers_of (Sums name budgets costs) = 29 ∷ []
numbers_of (Status reason) = 30 ∷ []
numbers_of (ToGo account day) = 31 ∷ []
numbers_of (Length asked crash normal) = 32 ∷ []
numbers_of (Periods have) = 40 ∷ []

-- the number is one of those
abbrev pub IsNumber : List ℕ → ℕ → Type 0
IsNumber numbers number = list_any (λ n. n == number) numbers ≡ true

-- the number and the detail of the fault go together
abbrev pub IsTold : Fault → Type 0
IsTold fault = IsNumber (numbers_of fault.detail) fault.number
