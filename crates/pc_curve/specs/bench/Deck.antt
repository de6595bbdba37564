-- The text of the benchmark's deck: a project of one item with one account, whose budget is what the activities cost.
use Rattle.std.specs.Prelude.{ℕ, ◌+◌, List, [], ◌∷◌, ◌++◌, codes, decimal}
use Rattle.pc_edges.specs.Texts.{texts_to}
use Rattle.pc_model.specs.Sums.{sum_to}
use Rattle.pc_curve.specs.declared.bench.deck.BenchActivity.{BenchActivity}
use Rattle.pc_curve.specs.bench.Recipe.{bench_last_event, activity}

-- a card: its fields with commas between them, and the end of the line
abbrev pub card : List (List ℕ) → List ℕ
card [] = 10 ∷ []
card (field ∷ []) = field ++ 10 ∷ []
card (field ∷ next ∷ rest) = field ++ 44 ∷ card (next ∷ rest)

-- the codes of an event and of an activity
abbrev pub event_code : ℕ → List ℕ
event_code e = codes "E" ++ decimal e

abbrev pub activity_code : ℕ → List ℕ
activity_code i = codes "A" ++ decimal i

-- the card of the project, from event 0 to the last one, and that of its item
abbrev pub project_line : ℕ → List ℕ
project_line last =
    card (codes "PROJECT" ∷ codes "BENCH" ∷ codes "E0" ∷ event_code last ∷ codes "2024-01-01" ∷ codes "1" ∷ [] ∷ codes "Bench" ∷ [])

abbrev pub item_line : List ℕ
item_line = card (codes "WBS" ∷ codes "1" ∷ [] ∷ codes "Bench" ∷ [])

-- the card of an event
abbrev pub bench_event_line : ℕ → List ℕ
bench_event_line e = card (codes "EVENT" ∷ event_code e ∷ [] ∷ [])

-- the card of an activity: its three estimates are its normal duration
abbrev pub activity_line : ℕ → BenchActivity → List ℕ
activity_line i a =
    card (codes "ACT" ∷ activity_code i ∷ event_code a.from ∷ event_code a.to ∷ codes "1" ∷ decimal a.normal ∷ decimal a.normal ∷ decimal a.normal
    ∷ decimal a.normal ∷ decimal a.crash ∷ decimal a.cost ∷ decimal a.slope ∷ [] ∷ [])

-- what all activities cost
abbrev pub all_costs : ℕ → ℕ
all_costs n = sum_to n (λ k. (activity n (k + 1)).cost)

-- the card of an account with this budget, and the last card
abbrev pub account_line : ℕ → List ℕ
account_line budget = card (codes "ACCT" ∷ codes "X" ∷ codes "1" ∷ decimal budget ∷ [] ∷ [])

abbrev pub end_line : List ℕ
end_line = card (codes "END" ∷ [])

-- the parts of the deck: the events from 0 to the last one, the activities from 1, the account and the end
abbrev pub events_text : ℕ → List ℕ
events_text last = texts_to (last + 1) bench_event_line

abbrev pub activities_text : ℕ → List ℕ
activities_text n = texts_to n (λ k. activity_line (k + 1) (activity n (k + 1)))

abbrev pub end_text : ℕ → List ℕ
end_text costs = account_line costs ++ end_line

-- the deck of n activities
abbrev pub bench_deck_text : ℕ → List ℕ
bench_deck_text n = (((project_line (bench_last_event n) ++ item_line) ++ events_text (bench_last_event n)) ++ activities_text n) ++ end_text (all_costs n)
