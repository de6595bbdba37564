-- The least stop of the activities between the events that have a label and those that have none.
use Rattle.std.specs.Prelude.{◌≡◌, ℕ, ◌-◌, ◌^◌, ◌==◌, ◌⊎◌, Bool, Option, Some, None}
use Rattle.pc_laws.specs.Steps.{IsStairStuck, HasStop, HasNoStopBefore}
use Rattle.pc_crash.specs.Priced.{PricedNetwork, knees_in}
use Rattle.pc_flow.specs.board.Sheets.{Sheet, time_of, rank_of, flow_of}
use Rattle.pc_flow.specs.inside.board.Labelling.{HaveRoom}
use Rattle.pc_flow.specs.declared.search.way.Way.{Way}
use Rattle.pc_flow.specs.inside.search.Searches.{MayCross, StopsAfterFall, IsQuiet, IsSearch}
use Rattle.pc_flow.specs.inside.search.Growing.{AreDueLater}

-- labels may cross activity a, and it stops when the events without one have fallen by n
abbrev pub StopsAt : PricedNetwork → Sheet → ℕ → ℕ → Type 0
StopsAt net s a n = (way : Way) × MayCross net s way a × StopsAfterFall net s a way n

-- when it stops, if labels may cross it
abbrev pub IsStopOf : PricedNetwork → Sheet → ℕ → Option ℕ → Type 0
IsStopOf net s a (Some n) = StopsAt net s a n
IsStopOf net s a None = IsQuiet net s a

-- the events without a label are those that move
abbrev pub moving : Sheet → ℕ → Bool
moving s e = rank_of s e == 0

-- the list was gone through, and those left it that labels may not cross. The labels cannot grow, and `least`
-- is the least number of units after which an activity stops, or the greatest number that there is
pub record HasChosen (net : PricedNetwork) (s t : Sheet) (least : ℕ) : Type 0 where
  pub rest : t ≡ record s { waiting = t.waiting; slot = t.slot; due = t.due; len = t.len }
  pub search : IsSearch net t
  pub room : HaveRoom t
  pub listed : AreDueLater net t
  pub stuck : IsStairStuck net.network net.terms (knees_in net) (time_of t) (flow_of t) (moving t)
  pub before : HasNoStopBefore net.network net.terms (knees_in net) (time_of t) (flow_of t) (moving t) least
  pub stop : (least ≡ 2 ^ 64 - 1) ⊎ HasStop net.network net.terms (knees_in net) (time_of t) (flow_of t) (moving t) least
