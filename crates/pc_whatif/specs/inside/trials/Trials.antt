-- What a trial finds of the curve of a network.
use Rattle.std.specs.Prelude.{ℕ, ◌+◌, ◌*◌, ◌≤◌, length}
use Rattle.pc_cells.specs.Spans.{Cells}
use Rattle.pc_cells.specs.inside.Spans.{free_of}
use Rattle.pc_crash.specs.Priced.{PricedNetwork}
use Rattle.pc_flow.specs.search.Labelling.{slopes_in}
use Rattle.pc_whatif.specs.inside.trials.SessionRegion.{SessionRegion}

-- how many cells a trial works in
abbrev pub trial_cells : ℕ → ℕ → ℕ → ℕ
trial_cells events activities pieces = 8 * events + 6 * activities + 2 * pieces + 16

-- a trial of the network finds its cells free in the region
abbrev pub HasCells : PricedNetwork → Cells → Type 0
HasCells net region = trial_cells net.network.events (length net.network.arcs) (length net.pieces) ≤ free_of region

-- the same, in the region of a session
abbrev pub HasTrialCells : PricedNetwork → SessionRegion → Type 0
HasTrialCells net r = trial_cells net.network.events (length net.network.arcs) (length net.pieces) ≤ r.free

-- the most looks that a trial may take: four at each activity for each unit that the slope can rise and the length can
-- decrease
abbrev pub looks_over : PricedNetwork → ℕ → ℕ
looks_over net units = 4 * length net.network.arcs * (slopes_in net + units)
