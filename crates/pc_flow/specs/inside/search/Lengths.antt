-- The lengths of arcs that a board keeps, renewed where the flow has changed.
use Rattle.std.specs.Prelude.{◌≡◌, ◌≢◌, ℕ, ◌<◌, ◌≤◌}
use Rattle.pc_crash.specs.Priced.{PricedNetwork}
use Rattle.pc_flow.specs.board.Sheets.{Sheet, flow_of}
use Rattle.pc_flow.specs.inside.board.Sheets.{step_of, against_of, room_of, up_of, down_of}
use Rattle.pc_flow.specs.inside.board.Labelling.{HasStep}
use Rattle.pc_flow.specs.inside.board.Raising.{event_back}
use Rattle.pc_flow.specs.inside.search.Searches.{next_at, last_at, HasLengths}

-- the lengths of activity a are stored as they are now
pub record RenewsAt (net : PricedNetwork) (s t : Sheet) (a : ℕ) : Type 0 where
  pub rest : t ≡ record s { up = t.up; down = t.down }
  pub up_off : (b : ℕ) → b ≢ a → up_of t b ≡ up_of s b
  pub down_off : (b : ℕ) → b ≢ a → down_of t b ≡ down_of s b
  pub at : HasLengths net t a

-- along the step of event e something flows, and the next unit and the last one run on arcs of one length. It was that of
-- the next unit before the flow changed, or that of the last one where the step goes against its activity
pub record IsLevelAt (net : PricedNetwork) (s : Sheet) (e : ℕ) : Type 0 where
  pub some : 0 < flow_of s (step_of s e)
  pub level : last_at net s (step_of s e) ≡ next_at net s (step_of s e)
  pub along : against_of s e ≡ 0 → up_of s (step_of s e) ≡ next_at net s (step_of s e)
  pub against : 0 < against_of s e → down_of s (step_of s e) ≡ next_at net s (step_of s e)

-- this holds at each step with room left of those that led to event e on board s; the lengths are those of board t
abbrev pub AreLevelBack : PricedNetwork → Sheet → Sheet → ℕ → Type 0
AreLevelBack net s t e =
    (j : ℕ) → ((i : ℕ) → i ≤ j → HasStep s (event_back s e i)) → 0 < room_of s (event_back s e j) → IsLevelAt net t (event_back s e j)

-- those of the activities of all steps that led to event e were, and what was right of others still is
pub record IsRenewedBack (net : PricedNetwork) (s t : Sheet) (e : ℕ) : Type 0 where
  pub rest : t ≡ record s { up = t.up; down = t.down }
  pub kept : (a : ℕ) → HasLengths net s a → HasLengths net t a
  pub renewed : (j : ℕ) → ((i : ℕ) → i ≤ j → HasStep s (event_back s e i)) → HasLengths net t (step_of s (event_back s e j))
