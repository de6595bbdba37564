use Rattle.pc_crash.specs.inside.Links.{AreLinked}
use Rattle.pc_crash.proofs.link_table.linked.Given as goal

abbrev pub invariant-loop-e : goal.invariant-loop-e
invariant-loop-e l = AreLinked l.net.arcs l.e l.rows.items l.links.items
