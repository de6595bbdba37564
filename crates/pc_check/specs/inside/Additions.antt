-- What must hold so that a line can be added to the checker's state.
use Rattle.std.specs.Prelude.{◌+◌, ◌^◌, ◌<◌, length}
use Rattle.pc_model.specs.declared.limits.TheConstants.{MAX_DURATION}
use Rattle.pc_cert.specs.declared.line.CertLine.{CertLine}
use Rattle.pc_cert.specs.declared.line.CertLine.TheVariants.{Step, Event, Act, Close}
use Rattle.pc_crash.specs.Priced.{PricedNetwork}
use Rattle.pc_check.specs.declared.kept.Kept.{Kept}
use Rattle.pc_check.specs.inside.Walks.{sum_of_reached}

-- the line is that of an activity
abbrev pub IsAct : CertLine → Type 0
IsAct (Act code duration flows) = Unit {0}
IsAct other = ⊥

-- sums, lists and counts have capacity for one more
abbrev pub MayBeAdded : PricedNetwork → CertLine → Kept → Type 0
MayBeAdded net (Step code) kept = (sum_of_reached kept.normal + MAX_DURATION < 2 ^ 64) × (sum_of_reached kept.crash + MAX_DURATION < 2 ^ 64)
MayBeAdded net (Event code time moves) kept = (length kept.tally.times.items < net.network.events) × (length kept.tally.moves.items < net.network.events)
MayBeAdded net (Act code duration flows) kept = kept.tally.acts < length net.network.arcs
MayBeAdded net Close kept = kept.segments + 1 < 2 ^ 64
MayBeAdded net other kept = Unit {0}
