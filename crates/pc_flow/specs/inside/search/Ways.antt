-- The two ends of a step by its direction, and the links at an event.
use Rattle.std.specs.Prelude.{◌≡◌, ◌<◌, ℕ, Bool, true, false, List, length}
use Rattle.pc_model.specs.Walk.{from_of, to_of}
use Rattle.pc_crash.specs.Priced.{PricedNetwork}
use Rattle.pc_crash.specs.declared.link_table.Link.{Link}
use Rattle.pc_crash.specs.inside.Links.{link_at}
use Rattle.pc_flow.specs.board.Sheets.{Sheet, flow_of}
use Rattle.pc_flow.specs.declared.search.way.Way.{Way}
use Rattle.pc_flow.specs.declared.search.way.Way.TheVariants.{Along, Against}

-- the first of two numbers for a step along its activity, and the second for one against it
abbrev pub by_way : Way → ℕ → ℕ → ℕ
by_way Along first second = first
by_way Against first second = second

-- from which event and to which one a step of activity a goes
abbrev pub near_in : PricedNetwork → Way → ℕ → ℕ
near_in net way a = by_way way (from_of net.network.arcs a) (to_of net.network.arcs a)

abbrev pub far_in : PricedNetwork → Way → ℕ → ℕ
far_in net way a = by_way way (to_of net.network.arcs a) (from_of net.network.arcs a)

abbrev pub goes_against : Way → Bool
goes_against Along = false
goes_against Against = true

-- these links name activities at event e, and the events at their other ends
pub record AreLinks (net : PricedNetwork) (one other : ℕ → ℕ) (e : ℕ) (links : List Link) : Type 0 where
  pub known : (k : ℕ) → k < length links → (link_at links k).activity < length net.network.arcs
  pub here : (k : ℕ) → k < length links → one (link_at links k).activity ≡ e
  pub there : (k : ℕ) → k < length links → other (link_at links k).activity ≡ (link_at links k).other

-- a step against an activity reduces its flow
abbrev pub CanFlow : Sheet → Way → ℕ → Type 0
CanFlow s way a = way ≡ Against → 0 < flow_of s a
