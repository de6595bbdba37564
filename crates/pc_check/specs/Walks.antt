-- The walks that the steps of a certificate name.
use Rattle.std.specs.Prelude.{ℕ, ◌+◌, ◌==◌, ◌&&◌, Bool, true, false, bytes_eq, List, [], ◌∷◌, Option, Some, None, if◌then◌else◌}
use Rattle.pc_model.specs.Network.{Network}
use Rattle.pc_model.specs.Walk.{from_of, to_of}
use Rattle.pc_model.specs.Schedule.{normal_of, crash_of}
use Rattle.pc_text.specs.Fields.{◌>>=◌}
use Rattle.pc_crash.specs.Priced.{PricedNetwork}
use Rattle.pc_check.specs.declared.walk.Reached.{Reached}

-- the length of an activity in the crash walk, which is its crash duration, and in the normal walk
abbrev pub length_in : PricedNetwork → Bool → ℕ → ℕ
length_in net true a = crash_of net.terms a
length_in net false a = normal_of net.terms a

-- the first index of a code among codes, counted from i
abbrev pub index_of : List ℕ → ℕ → List (List ℕ) → Option ℕ
index_of code i [] = None
index_of code i (c ∷ cs) = if bytes_eq c code then Some i else index_of code (i + 1) cs

-- one activity further, if it begins at the event that the walk has reached
abbrev pub further : Network → (ℕ → ℕ) → Reached → ℕ → Option Reached
further net lengths at a =
    if from_of net.arcs a == at.event then Some (record { event = to_of net.arcs a; sum = at.sum + lengths a }) else None

-- one step further, where an activity has this code and begins at the event that the walk has reached
abbrev pub stepped : PricedNetwork → (ℕ → ℕ) → Option Reached → List ℕ → Option Reached
stepped net lengths at code = at >>= (λ here. index_of code 0 net.activities >>= (λ a. further net.network lengths here a))

-- how far a walk comes with these steps, where they are one
abbrev pub walked : PricedNetwork → (ℕ → ℕ) → Option Reached → List (List ℕ) → Option Reached
walked net lengths at [] = at
walked net lengths at (code ∷ codes) = walked net lengths (stepped net lengths at code) codes

-- at the start of the network
abbrev pub at_start : Network → Option Reached
at_start net = Some (record { event = net.start; sum = 0 })

-- whether a walk leads to the end of the network with a sum
abbrev pub is_through : Network → ℕ → Option Reached → Bool
is_through net sum None = false
is_through net sum (Some at) = at.event == net.end && at.sum == sum
