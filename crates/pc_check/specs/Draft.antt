-- The contents of the lines of a certificate so far.
use Rattle.std.specs.Prelude.{ℕ, Bool, true, false, List, [], ◌∷◌, ◌++◌, fold, slice_index_or, if◌then◌else◌}
use Rattle.pc_cert.specs.declared.line.CertLine.{CertLine}
use Rattle.pc_cert.specs.declared.line.CertLine.TheVariants.{Head, Normal, Step, Crash, Segment, Event, Act, Close, End}

-- what an EVENT line says: the event's code, its time at the upper end, and whether it moves
pub record EventRow : Type 0 where
  pub code : List ℕ
  pub time : ℕ
  pub moves : Bool

-- what an ACT line says: the activity's code, its duration at the upper end, and its flows, one for each knee and the one
-- on its crash duration
pub record ActRow : Type 0 where
  pub code : List ℕ
  pub duration : ℕ
  pub flows : List ℕ

-- what the lines of a segment say: its ends, its cost and its slope, and a row for each event and activity
pub record Part : Type 0 where
  pub upper : ℕ
  pub lower : ℕ
  pub cost : ℕ
  pub slope : ℕ
  pub events : List EventRow
  pub acts : List ActRow

-- what the lines so far say: the steps of the two walks, and whether those of the crash walk have begun; the segments
-- that are complete; and the last one that has begun
pub record Draft : Type 0 where
  pub normal : List (List ℕ)
  pub crash : List (List ℕ)
  pub crash_walk_started : Bool
  pub segments : List Part
  pub part : Part

-- no line so far
abbrev pub empty_draft : Draft
empty_draft = record {
  normal = [];
  crash = [];
  crash_walk_started = false;
  segments = [];
  part = record { upper = 0; lower = 0; cost = 0; slope = 0; events = []; acts = [] };
}

-- what the lines and one more say: a step is one more of the walk that has begun, and a row one more of the segment that has begun
abbrev pub with_line : Draft → CertLine → Draft
with_line draft (Head version project events activities) = draft
with_line draft Normal = draft
with_line draft (Step code) =
    if draft.crash_walk_started then record draft { crash = draft.crash ++ code ∷ [] } else record draft { normal = draft.normal ++ code ∷ [] }
with_line draft Crash = record draft { crash_walk_started = true }
with_line draft (Segment upper lower cost slope) =
    record draft { part = record { upper = upper; lower = lower; cost = cost; slope = slope; events = []; acts = [] } }
with_line draft (Event code time moves) =
    record draft { part = record draft.part { events = draft.part.events ++ record { code = code; time = time; moves = moves } ∷ [] } }
with_line draft (Act code duration flows) =
    record draft { part = record draft.part { acts = draft.part.acts ++ record { code = code; duration = duration; flows = flows } ∷ [] } }
with_line draft Close = record draft { segments = draft.segments ++ draft.part ∷ [] }
with_line draft End = draft

-- what lines say, one after the other
abbrev pub draft_of : List CertLine → Draft
draft_of lines = fold with_line empty_draft lines

-- the row of event e; past their end one of an event without a code that rests at 0
abbrev pub event_at : List EventRow → ℕ → EventRow
event_at rows e = slice_index_or rows e (record { code = []; time = 0; moves = false })

-- the row of activity a; past their end one of zeros
abbrev pub act_at : List ActRow → ℕ → ActRow
act_at rows a = slice_index_or rows a (record { code = []; duration = 0; flows = [] })
