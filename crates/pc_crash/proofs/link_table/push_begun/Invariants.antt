use Rattle.std.proofs.Common.{◌≡◌, ◌++◌, take}
use Rattle.pc_model.specs.Walk.{to_of}
use Rattle.pc_crash.specs.inside.Links.{links_of}
use Rattle.pc_crash.proofs.link_table.push_begun.Given as goal

abbrev pub invariant-loop-a : goal.invariant-loop-a
invariant-loop-a l = l.links.items ≡ l.fn.links.items ++ links_of (to_of l.net.arcs) (take l.a-index l.a-items)
