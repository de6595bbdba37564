-- A board before the first segment.
use Rattle.std.specs.Prelude.{◌≡◌, ◌≢◌, ℕ, ◌<◌, ◌≤◌, length}
use Rattle.pc_cells.specs.Spans.{Cells}
use Rattle.pc_model.specs.Network.{IsEarly}
use Rattle.pc_model.specs.Schedule.{normals}
use Rattle.pc_crash.specs.Priced.{PricedNetwork}
use Rattle.pc_flow.specs.board.Sheets.{Sheet, kept_time, rank_of}
use Rattle.pc_flow.specs.inside.board.Sheets.{queue_of, clear_sheet}
use Rattle.pc_flow.specs.inside.search.Searches.{HaveLengths}
use Rattle.pc_flow.specs.declared.early.TheConstants.{MAX_LENGTH}

-- only the start has a label, and each event has its time for normal durations; nothing flows and none waits, and
-- the lengths of the arcs are stored
pub record IsOpened (net : PricedNetwork) (home : Cells) (s : Sheet) : Type 0 where
  pub rest : s ≡ record (clear_sheet home net.network.events (length net.network.arcs)) {
    time = s.time;
    rank = s.rank;
    queue = s.queue;
    count = 1;
    up = s.up;
    down = s.down;
  }
  pub queue : queue_of s 0 ≡ net.network.start
  pub first : rank_of s net.network.start ≡ 1
  pub others : (e : ℕ) → e ≢ net.network.start → rank_of s e ≡ 0
  pub early : (e : ℕ) → e < net.network.events → IsEarly net.network (normals net.terms) e (kept_time s e)
  pub lengths : HaveLengths net s
  pub small : (e : ℕ) → e < net.network.events → kept_time s e ≤ MAX_LENGTH
