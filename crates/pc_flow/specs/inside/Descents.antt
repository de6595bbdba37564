-- The two parts of the way from one segment to the next.
use Rattle.std.specs.Prelude.{◌≡◌, ℕ, ◌<◌, ◌≤◌}
use Rattle.pc_crash.specs.Priced.{PricedNetwork}
use Rattle.pc_flow.specs.board.Sheets.{Sheet}
use Rattle.pc_flow.specs.search.Labelling.{length_at}
use Rattle.pc_flow.specs.inside.search.Labelling.{HasFallen, HasLabelled}

-- the events without a label have fallen, or there was nothing to fall
pub record HasDescended (net : PricedNetwork) (s t : Sheet) (fall : ℕ) : Type 0 where
  pub still : fall ≡ 0 → t ≡ s
  pub fallen : 0 < fall → HasFallen net s t fall

-- above the all-crash length the flow was raised and the next fall found; at it nothing is left to do
pub record HasSearched (net : PricedNetwork) (s t : Sheet) (shortest rise fall : ℕ) : Type 0 where
  pub above : shortest < length_at net s → HasLabelled net s t rise fall
  pub still : length_at net s ≤ shortest → t ≡ s
  pub flat : length_at net s ≤ shortest → rise ≡ 0
  pub none : length_at net s ≤ shortest → fall ≡ 0
