-- The time-cost curve of a priced network.
use Rattle.std.specs.Prelude.{ℕ}
use Rattle.pc_model.specs.Cost.{IsLeastCost}
use Rattle.pc_crash.specs.Priced.{PricedNetwork, knees_in}

-- the least costs of a priced network's schedules, by their lengths
abbrev pub curve_in : PricedNetwork → ℕ → ℕ → Type 0
curve_in net = IsLeastCost net.network net.terms (knees_in net)
