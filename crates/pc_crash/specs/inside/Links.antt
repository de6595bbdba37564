-- The activities at an event as links: each with the event at its other end.
use Rattle.std.specs.Prelude.{◌≡◌, ℕ, ◌*◌, ◌<◌, ◌≤◌, List, length, map, slice_index_or, slice_range}
use Rattle.pc_model.specs.declared.Arc.{Arc}
use Rattle.pc_model.specs.declared.limits.TheConstants.{MAX_ACTIVITIES}
use Rattle.pc_model.specs.Greatest.{places}
use Rattle.pc_model.specs.Walk.{from_of, to_of}
use Rattle.pc_net.specs.Networks.{events_from, events_to}
use Rattle.pc_crash.specs.declared.link_table.Link.{Link}
use Rattle.pc_crash.specs.declared.link_table.LinkRow.{LinkRow}

-- the k-th link; past their end one of zeros
abbrev pub link_at : List Link → ℕ → Link
link_at links k = slice_index_or links k (record { activity = 0; other = 0 })

-- the activities of links
abbrev pub activities_of : List Link → List ℕ
activities_of links = map (λ link. link.activity) links

-- the link of an activity, if this is the event at the other end of each
abbrev pub link_of : (ℕ → ℕ) → ℕ → Link
link_of other a = record { activity = a; other = other a }

-- and of each of these activities
abbrev pub links_of : (ℕ → ℕ) → List ℕ → List Link
links_of other activities = map (link_of other) activities

-- where one event's links are; past the end of the rows there are none
abbrev pub link_row_at : List LinkRow → ℕ → LinkRow
link_row_at rows e = slice_index_or rows e (record { begun = 0; ended = 0; end = 0 })

-- the links of the activities that begin at the event of a row, and of those that end there
abbrev pub begun_part : List Link → LinkRow → List Link
begun_part links row = slice_range links row.begun row.ended

abbrev pub ended_part : List Link → LinkRow → List Link
ended_part links row = slice_range links row.ended row.end

-- both are parts of the list
pub record IsLinkRow (links : List Link) (row : LinkRow) : Type 0 where
  pub begun : row.begun ≤ row.ended
  pub ended : row.ended ≤ row.end
  pub within : row.end ≤ length links

-- they are those of event e
pub record IsLinkRowOf (arcs : List Arc) (links : List Link) (e : ℕ) (row : LinkRow) : Type 0 where
  pub is_row : IsLinkRow links row
  pub begins : begun_part links row ≡ links_of (to_of arcs) (places e 0 (events_from arcs))
  pub ends : ended_part links row ≡ links_of (from_of arcs) (places e 0 (events_to arcs))

-- a row for each of the first n events
pub record AreLinked (arcs : List Arc) (n : ℕ) (rows : List LinkRow) (links : List Link) : Type 0 where
  pub one_each : length rows ≡ n
  pub small : length links ≤ n * (2 * MAX_ACTIVITIES)
  pub each : (e : ℕ) → e < n → IsLinkRowOf arcs links e (link_row_at rows e)
