-- The present length of a search, and the most that can flow.
use Rattle.std.specs.Prelude.{ℕ, length}
use Rattle.pc_model.specs.Sums.{sum_to}
use Rattle.pc_model.specs.Cost.{last_slope}
use Rattle.pc_crash.specs.Priced.{PricedNetwork, knees_in}
use Rattle.pc_flow.specs.board.Sheets.{Sheet, time_of}

-- the present length
abbrev pub length_at : PricedNetwork → Sheet → ℕ
length_at net s = time_of s net.network.end

-- the sum of the activities' last slopes, which no value of a flow passes above the all-crash length
abbrev pub slopes_in : PricedNetwork → ℕ
slopes_in net = sum_to (length net.network.arcs) (last_slope (knees_in net))
