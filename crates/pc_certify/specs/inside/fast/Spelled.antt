-- The lines of a segment as they were written last.
use Rattle.std.specs.Prelude.{◌≡◌, ℕ, ◌<◌, false, List, [], ◌∷◌, ◌++◌, length, slice_index_or}
use Rattle.pc_model.specs.Codes.{text_at}
use Rattle.pc_laws.specs.Stair.{stair_of, knee_flow, crash_flow}
use Rattle.pc_crash.specs.Priced.{PricedNetwork, knees_in}
use Rattle.pc_cert.specs.declared.line.CertLine.TheVariants.{Event, Act}
use Rattle.pc_text.specs.Fields.{IsCode}
use Rattle.pc_cert.specs.Text.{text_of}
use Rattle.pc_cert.specs.Listed.{listed}
use Rattle.pc_certify.specs.declared.fast.last_lines.EventRow.{EventRow}
use Rattle.pc_certify.specs.declared.fast.last_lines.ActRow.{ActRow}

-- the text of the row is the line of the event with this code
pub record SpellsEvent (code : List ℕ) (row : EventRow) : Type 0 where
  pub code_is : IsCode code
  pub text : row.spelling ≡ text_of (Event code row.time row.moves ∷ [])

-- the flows along activity a when its total flow fills the knees in their order: at each of them, and on the crash
-- duration
abbrev pub filled_along : PricedNetwork → ℕ → ℕ → List ℕ
filled_along net a whole =
    let stair = stair_of net.terms (knees_in net) a in
    listed stair.count (knee_flow stair whole) ++ crash_flow stair whole ∷ []

-- the text of the row is the line of activity a: its duration, and the flows into which its total flow is distributed
pub record SpellsAct (net : PricedNetwork) (a : ℕ) (row : ActRow) : Type 0 where
  pub code_is : IsCode (text_at net.activities a)
  pub text : row.spelling ≡ text_of (Act (text_at net.activities a) row.duration (filled_along net a row.whole) ∷ [])

-- the row of event e, and that of activity a
abbrev pub event_row_at : List EventRow → ℕ → EventRow
event_row_at rows e = slice_index_or rows e (record { time = 0; moves = false; spelling = [] })

abbrev pub act_row_at : List ActRow → ℕ → ActRow
act_row_at rows a = slice_index_or rows a (record { duration = 0; whole = 0; spelling = [] })

-- each event has a row with the text of its line
pub record AreEventsSpelled (net : PricedNetwork) (rows : List EventRow) : Type 0 where
  pub one_each : length rows ≡ net.network.events
  pub each : (e : ℕ) → e < net.network.events → SpellsEvent (text_at net.events e) (event_row_at rows e)

-- so has each activity
pub record AreActsSpelled (net : PricedNetwork) (rows : List ActRow) : Type 0 where
  pub one_each : length rows ≡ length net.network.arcs
  pub each : (a : ℕ) → a < length net.network.arcs → SpellsAct net a (act_row_at rows a)
