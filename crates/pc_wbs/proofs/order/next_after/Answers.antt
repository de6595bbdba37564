use Rattle.std.proofs.Common.{arith, ◌≡◌, ◌<◌, length, Some, None, ◌∙◌}
use Rattle.pc_wbs.specs.inside.Links.{IsFirstChild, linked_row_at}
use Rattle.pc_wbs.proofs.BuildLaws.{link-read}
use Rattle.pc_wbs.proofs.OrderLaws.{IsSuccessor-child, IsSuccessor-beside}
use Rattle.pc_wbs.proofs.order.next_after.Goals as goal

pub returns-in-Some : goal.returns-in-Some
returns-in-Some c =
    let rows = c.args.rows.now in
    let firsts = c.args.links.now.firsts.items in
    let inside : c.args.item < length firsts = omega (arith, c.requires.item, c.requires.firsts.one_each) in
    let link : linked_row_at firsts c.args.item ≡ Some c.in-Some.child = link-read firsts c.args.item c.index.result.now inside c.index.ensures ∙ c.in-Some.is in
    let first : IsFirstChild rows c.args.item 0 (Some c.in-Some.child) = rw link at (c.requires.firsts.first c.args.item c.requires.item) in
    IsSuccessor-child rows c.args.item c.in-Some.child first

pub returns : goal.returns
returns c =
    let rows = c.args.rows.now in
    let firsts = c.args.links.now.firsts.items in
    let inside : c.args.item < length firsts = omega (arith, c.requires.item, c.requires.firsts.one_each) in
    let link : linked_row_at firsts c.args.item ≡ None = link-read firsts c.args.item c.index.result.now inside c.index.ensures ∙ c.in_default.is in
    let childless : IsFirstChild rows c.args.item 0 None = rw link at (c.requires.firsts.first c.args.item c.requires.item) in
    IsSuccessor-beside rows c.args.links.now.nexts.items c.args.item c.next_beside.result c.requires.in_range c.requires.item
    c.requires.nexts childless (rw c.deref.ensures.value at c.next_beside.ensures)
