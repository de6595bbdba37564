-- A network from its parts, and the events where its activities begin and end.
-- Here is what no clause of a top call and no law reaches.
use Rattle.std.specs.Prelude.{ℕ, List}
use Rattle.pc_model.specs.declared.Arc.{Arc}
use Rattle.pc_model.specs.Network.{Network}

-- the network with these parts
abbrev pub network : ℕ → ℕ → ℕ → List Arc → Network
network events start end arcs = record { events = events; start = start; end = end; arcs = arcs }
