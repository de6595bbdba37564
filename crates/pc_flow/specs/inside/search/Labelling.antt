-- What holds of a search between two labellings of the events: an augmentation, a fall, and a complete labelling
-- preserve it.
-- Here is what no clause of a top call and no law reaches.
use Rattle.std.specs.Prelude.{◌≡◌, ℕ, ◌+◌, ◌^◌, ◌<◌, ◌≤◌, ◌⊎◌, List}
use Rattle.pc_model.specs.Schedule.{IsAllCrashLength}
use Rattle.pc_laws.specs.Flow.{outflow}
use Rattle.pc_laws.specs.Steps.{IsStairOptimal, IsStairFall}
use Rattle.pc_crash.specs.Priced.{PricedNetwork, knees_in}
use Rattle.pc_flow.specs.board.Sheets.{Sheet, time_of, rank_of, flow_of}
use Rattle.pc_flow.specs.inside.board.Labelling.{HaveRoom}
use Rattle.pc_flow.specs.inside.board.Raising.{IsRaised}
use Rattle.pc_flow.specs.inside.search.Searches.{IsSearch}
use Rattle.pc_flow.specs.inside.search.Growing.{AreDueLater, AreSettled, relabelled}
use Rattle.pc_flow.specs.inside.search.Choosing.{moving}
use Rattle.pc_flow.specs.search.Labelling.{length_at, slopes_in}

-- the value of the flow: what a unit of length less costs
abbrev pub slope_at : PricedNetwork → Sheet → ℕ
slope_at net s = outflow net.network (flow_of s) net.network.start

-- times and flows are a state between two labellings, with this length and this value
abbrev pub IsStateWith : PricedNetwork → Sheet → ℕ → ℕ → Type 0
IsStateWith net s limit value = IsStairOptimal net.network net.terms (knees_in net) limit (time_of s) (flow_of s) value

-- the present length is above the all-crash length
abbrev pub IsAboveAllCrash : PricedNetwork → Sheet → Type 0
IsAboveAllCrash net s = (shortest : ℕ) × IsAllCrashLength net.network net.terms shortest × (shortest < length_at net s)

-- what holds between two labellings: each step has room, times and flows are a state, and the length at the beginning,
-- which is the present one with all falls added, fits a number
pub record IsBetweenLabellings (net : PricedNetwork) (s : Sheet) : Type 0 where
  pub search : IsSearch net s
  pub room : HaveRoom s
  pub state : IsStateWith net s (length_at net s) (slope_at net s)
  pub fits : length_at net s + s.fallen < 2 ^ 63

-- the labels cannot grow, and the events without one may fall by `by`: then the first activity stops
abbrev pub MayFall : PricedNetwork → Sheet → ℕ → Type 0
MayFall net s by = IsStairFall net.network net.terms (knees_in net) (time_of s) (flow_of s) (moving s) by

-- the flow was augmented by `by` along the steps that led to the end, as far as they had room when this was measured
pub record HasRaised (net : PricedNetwork) (s t : Sheet) (by : ℕ) : Type 0 where
  pub raised : (rooms : List ℕ) × IsRaised (record s { room = rooms }) t net.network.end by
  pub rest : t ≡ record s { room = t.room; flow = t.flow; up = t.up; down = t.down }
  pub some : 0 < by
  pub search : IsSearch net t
  pub settled : AreSettled net t
  pub slope : slope_at net t ≡ slope_at net s + by
  pub state : IsStateWith net t (length_at net t) (slope_at net t)
  pub bounded : slope_at net t ≤ slopes_in net

-- the events without a label have fallen by `by`
pub record HasFallen (net : PricedNetwork) (s t : Sheet) (by : ℕ) : Type 0 where
  pub rest : t ≡ record s { fallen = s.fallen + by }
  pub moved : (e : ℕ) → e < s.events → rank_of s e ≡ 0 → time_of t e + by ≡ time_of s e
  pub rested : (e : ℕ) → 0 < rank_of s e → time_of t e ≡ time_of s e
  pub shorter : length_at net t + by ≡ length_at net s
  pub between : IsBetweenLabellings net t
  pub listed : AreDueLater net t

-- board s relabelled as board t, and with its flows and their lengths
abbrev pub risen : Sheet → Sheet → Sheet
risen s t = record (relabelled s t) { flow = t.flow; up = t.up; down = t.down }

-- the flow was augmented by `rise` in all, and events were labelled again; times and falls are as they were
pub record Rises (net : PricedNetwork) (s t : Sheet) (rise : ℕ) : Type 0 where
  pub rest : t ≡ risen s t
  pub time : (e : ℕ) → e < s.events → time_of t e ≡ time_of s e
  pub slope : slope_at net t ≡ slope_at net s + rise

-- a labelling is under way above the all-crash length: the activities at scanned events are settled, and the end has a
-- label or all events with one were scanned
pub record IsUnderWay (net : PricedNetwork) (s : Sheet) : Type 0 where
  pub between : IsBetweenLabellings net s
  pub above : IsAboveAllCrash net s
  pub settled : AreSettled net s
  pub ended : (0 < rank_of s net.network.end) ⊎ (s.head ≡ s.count)

-- the flow was augmented by `rise` until no step with room led to the end; the events without a label, the end among
-- them, may fall by `fall` from there
pub record HasLabelled (net : PricedNetwork) (s t : Sheet) (rise fall : ℕ) : Type 0 where
  pub rises : Rises net s t rise
  pub same : length_at net t ≡ length_at net s
  pub between : IsBetweenLabellings net t
  pub listed : AreDueLater net t
  pub falls : MayFall net t fall
