-- A network from its parts, and the events where its activities begin and end.
use Rattle.std.specs.Prelude.{ℕ, List, map}
use Rattle.pc_model.specs.declared.Arc.{Arc}

-- the events where the activities begin, in card order
abbrev pub events_from : List Arc → List ℕ
events_from arcs = map (λ arc. arc.from) arcs

-- the events where they end
abbrev pub events_to : List Arc → List ℕ
events_to arcs = map (λ arc. arc.to) arcs
