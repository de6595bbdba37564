use Rattle.pc_wbs.specs.inside.Links.{AreFirstChildren, AreNextSiblings}
use Rattle.pc_wbs.proofs.order.links_of.Given as goal

abbrev pub invariant-loop-item : goal.invariant-loop-item
invariant-loop-item l =
    AreFirstChildren l.rows l.item l.firsts.items × AreNextSiblings l.rows l.item l.nexts.items
