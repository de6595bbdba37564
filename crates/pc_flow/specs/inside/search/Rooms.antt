-- The rooms of steps, measured before the flow is raised.
use Rattle.std.specs.Prelude.{◌≡◌, ℕ, ◌<◌}
use Rattle.pc_crash.specs.Priced.{PricedNetwork}
use Rattle.pc_flow.specs.board.Sheets.{Sheet}
use Rattle.pc_flow.specs.inside.board.Sheets.{step_of, against_of, room_of}
use Rattle.pc_flow.specs.inside.board.Labelling.{HasStep}
use Rattle.pc_flow.specs.inside.search.Searches.{HasRoomAlong, HasRoomAgainst}

-- the step of event e has this room
pub record IsRoom (net : PricedNetwork) (s : Sheet) (e room : ℕ) : Type 0 where
  pub along : against_of s e ≡ 0 → HasRoomAlong net s (step_of s e) room
  pub against : 0 < against_of s e → HasRoomAgainst net s (step_of s e) room

-- only rooms have changed, and all are such that the steps have them
pub record IsMeasured (net : PricedNetwork) (s t : Sheet) : Type 0 where
  pub rest : t ≡ record s { room = t.room }
  pub rooms : (e : ℕ) → e < s.events → HasStep s e → IsRoom net s e (room_of t e)
