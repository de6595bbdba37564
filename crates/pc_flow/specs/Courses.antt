-- A solver on its way down the curve.
use Rattle.std.specs.Prelude.{◌≡◌, ℕ, ◌+◌, ◌-◌, ◌*◌, ◌≤◌, Bool, length}
use Rattle.pc_crash.specs.Priced.{PricedNetwork}
use Rattle.pc_flow.specs.board.Sheets.{Sheet, flow_of}
use Rattle.pc_flow.specs.search.Labelling.{length_at, slopes_in}

-- a network and a board, the all-normal and the all-crash length, and the cost and slope of the present segment, how
-- far its lower end is below the upper one, and whether there is one
pub record Course : Type 0 where
  pub net : PricedNetwork
  pub board : Sheet
  pub longest : ℕ
  pub shortest : ℕ
  pub cost : ℕ
  pub slope : ℕ
  pub fall : ℕ
  pub given : Bool

-- the present length: the upper end of the present segment
abbrev pub upper_of : Course → ℕ
upper_of c = length_at c.net c.board

-- its lower end; before the first segment the all-normal length
abbrev pub lower_of : Course → ℕ
lower_of c = upper_of c - c.fall

-- nothing flows, and nothing has fallen from the all-normal length
pub record IsLevel (c : Course) : Type 0 where
  pub upper : upper_of c ≡ c.longest
  pub slope : c.slope ≡ 0
  pub fall : c.fall ≡ 0
  pub empty : (a : ℕ) → flow_of c.board a ≡ 0

-- What a next segment is

-- the same curve, and the same region before the board took its cells
pub record IsSameCurve (c d : Course) : Type 0 where
  pub net : d.net ≡ c.net
  pub home : d.board.home ≡ c.board.home
  pub longest : d.longest ≡ c.longest
  pub shortest : d.shortest ≡ c.shortest

-- from one solver to a later one on the curve the slope never falls, and the lower end never rises
pub record IsFurther (c d : Course) : Type 0 where
  pub steeper : c.slope ≤ d.slope
  pub lower : lower_of d ≤ lower_of c

-- the most looks on the way from one solver to a later one: four at each activity for each unit that the slope rose or
-- the lower end decreased
abbrev pub most_looks : Course → Course → ℕ
most_looks c d = 4 * length c.net.network.arcs * ((d.slope - c.slope) + (lower_of c - lower_of d))

-- how many the complete curve may take at most: the slope rises to no more than the sum of the last slopes
abbrev pub all_looks : Course → ℕ
all_looks c = 4 * length c.net.network.arcs * (slopes_in c.net + (c.longest - c.shortest))
