-- A solver on its way down the curve.
-- Here is what no clause of a top call and no law reaches.
use Rattle.std.specs.Prelude.{◌≡◌, ℕ, ◌^◌, ◌<◌, ◌≤◌, ◌==◌, ◌&&◌, Bool, true, false, nat_lt, List, length}
use Rattle.pc_model.specs.Schedule.{normal_of, lesser_of, IsAllNormalLength, IsAllCrashLength}
use Rattle.pc_model.specs.Network.{IsOrder}
use Rattle.pc_model.specs.Cost.{IsPriced, cost_of}
use Rattle.pc_model.specs.Pieces.{ArePieces}
use Rattle.pc_laws.specs.Segment.{Segment, IsSegment}
use Rattle.pc_laws.specs.State.{segment_of}
use Rattle.pc_laws.specs.Steps.{filled_state}
use Rattle.pc_crash.specs.Priced.{PricedNetwork, knees_in, ArePiecesWithinLimits}
use Rattle.pc_crash.specs.Terms.{AreWithinLimits}
use Rattle.pc_flow.specs.board.Sheets.{Sheet, time_of, rank_of, flow_of}
use Rattle.pc_flow.specs.inside.search.Growing.{AreDueLater}
use Rattle.pc_flow.specs.inside.search.Labelling.{slope_at, IsBetweenLabellings, MayFall}
use Rattle.pc_flow.specs.declared.early.TheConstants.{MAX_LENGTH}
use Rattle.pc_flow.specs.Courses.{Course, upper_of, lower_of, IsLevel}

-- the events that move are those without a label, where the segment has more than one length
abbrev pub moves_at : Sheet → ℕ → ℕ → Bool
moves_at s fall e = nat_lt 0 fall && (rank_of s e == 0)

-- the present segment, with the total flows distributed over the knees
abbrev pub present : Course → Segment
present c =
    segment_of c.net.network c.net.terms (knees_in c.net)
    (filled_state c.net.terms (knees_in c.net) (upper_of c) (time_of c.board) (flow_of c.board) (slope_at c.net c.board))
    (moves_at c.board c.fall) c.fall

-- the present segment is complete
abbrev pub IsOnCurve : Course → Type 0
IsOnCurve c = IsSegment c.net.network c.net.terms (knees_in c.net) (present c)

-- each activity has the time that its normal duration takes
abbrev pub AreAllNormal : Course → Type 0
AreAllNormal c = (a : ℕ) → a < length c.net.network.arcs → lesser_of c.net.network c.net.terms (time_of c.board) a ≡ normal_of c.net.terms a

-- What holds of every solver

-- its network is priced within the limits, and its events have an order; it is between two labellings, with the two
-- lengths, the cost and the slope as stated; before the first segment nothing flows; with a segment, the length is
-- above the all-crash length and some activity stops at the lower end, or the curve has only one length
pub record IsOnCourse (c : Course) : Type 0 where
  pub priced : IsPriced c.net.network c.net.terms (knees_in c.net)
  pub limits : AreWithinLimits c.net.terms
  pub pieces : ArePieces c.net.terms c.net.pieces
  pub piece_limits : ArePiecesWithinLimits c.net.pieces
  pub ordered : (order : List ℕ) × IsOrder c.net.network order
  pub between : IsBetweenLabellings c.net c.board
  pub listed : AreDueLater c.net c.board
  pub longest : IsAllNormalLength c.net.network c.net.terms c.longest
  pub shortest : IsAllCrashLength c.net.network c.net.terms c.shortest
  pub small : c.longest ≤ MAX_LENGTH
  pub within : upper_of c ≤ c.longest
  pub cost : c.cost ≡ cost_of c.net.terms (knees_in c.net) (lesser_of c.net.network c.net.terms (time_of c.board))
  pub slope : c.slope ≡ slope_at c.net c.board
  pub untouched : c.given ≡ false → IsLevel c
  pub normal : c.given ≡ false → AreAllNormal c
  pub falls : c.given ≡ true → c.shortest < upper_of c → MayFall c.net c.board c.fall
  pub level : c.given ≡ true → upper_of c ≤ c.shortest → IsLevel c

-- What a next segment is

-- a segment was given, and the curve ends with it
pub record HasEnded (c : Course) : Type 0 where
  pub given : c.given ≡ true
  pub lowest : lower_of c ≡ c.shortest

-- all numbers of a segment are below 10 ^ 18
pub record HasBoundedNumbers (net : PricedNetwork) (seg : Segment) : Type 0 where
  pub upper : seg.upper < 10 ^ 18
  pub lower : seg.lower < 10 ^ 18
  pub cost : seg.cost < 10 ^ 18
  pub slope : seg.slope < 10 ^ 18
  pub time : (e : ℕ) → e < net.network.events → seg.time e < 10 ^ 18
  pub duration : (a : ℕ) → a < length net.network.arcs → seg.duration a < 10 ^ 18
  pub flow : (a k : ℕ) → a < length net.network.arcs → k < (knees_in net).count a → seg.flow a k < 10 ^ 18
  pub beside : (a : ℕ) → a < length net.network.arcs → seg.beside a < 10 ^ 18

-- solver d has the segment that comes after that of solver c
pub record IsNext (c d : Course) : Type 0 where
  pub given : d.given ≡ true
  pub whole : IsOnCurve d
  pub first : c.given ≡ false → upper_of d ≡ c.longest
  pub normal : c.given ≡ false → (a : ℕ) → a < length c.net.network.arcs → (present d).duration a ≡ normal_of c.net.terms a
  pub joined : c.given ≡ true → upper_of d ≡ lower_of c
  pub steeper : c.slope ≤ d.slope
  pub long : c.shortest < upper_of d → lower_of d < upper_of d
  pub within : c.shortest ≤ lower_of d
  pub small : HasBoundedNumbers d.net (present d)
