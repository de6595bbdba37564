-- The draft with one step or row more, and the draft of a segment before its activities.
use Rattle.std.specs.Prelude.{ℕ, Bool, List, [], ◌∷◌, ◌++◌, if◌then◌else◌}
use Rattle.pc_laws.specs.Segment.{Segment}
use Rattle.pc_check.specs.Draft.{EventRow, ActRow, Part, Draft, event_at}

-- a segment that has just begun
abbrev pub begun_part : ℕ → ℕ → ℕ → ℕ → Part
begun_part upper lower cost slope = record { upper = upper; lower = lower; cost = cost; slope = slope; events = []; acts = [] }

-- one more step of the crash walk, or of the normal walk
abbrev pub with_step : Draft → List ℕ → Bool → Draft
with_step draft code is_crash =
    if is_crash then record draft { crash = draft.crash ++ code ∷ [] } else record draft { normal = draft.normal ++ code ∷ [] }

-- one more row
abbrev pub with_event : Part → EventRow → Part
with_event part row = record part { events = part.events ++ row ∷ [] }

abbrev pub with_act : Part → ActRow → Part
with_act part row = record part { acts = part.acts ++ row ∷ [] }

-- the segment that a part begins to be, without what its activities do
abbrev pub outline : Part → Segment
outline part = record {
  upper = part.upper;
  lower = part.lower;
  cost = part.cost;
  slope = part.slope;
  time = λ e. (event_at part.events e).time;
  moves = λ e. (event_at part.events e).moves;
  duration = λ a. 0;
  flow = λ a k. 0;
  beside = λ a. 0;
}
