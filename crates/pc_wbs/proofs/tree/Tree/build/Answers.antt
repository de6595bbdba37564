use Rattle.std.proofs.Common.{arith, ◌<◌, length}
use Rattle.pc_wbs.specs.Climb.{IsTree}
use Rattle.pc_wbs.specs.inside.Ends.{AreGreatest}
use Rattle.pc_wbs.proofs.BuildLaws.{IsTree-levels, IsDepth-greatest}
use Rattle.pc_wbs.proofs.tree.Tree.build.Goals as goal

pub preorder-requires-clause-tree : goal.preorder-requires-clause-tree
preorder-requires-clause-tree c =
    IsTree-levels c.args.rows.now c.in_ok-top.top c.in_ok-levels.levels.items c.in_ok-top.ensures.top c.in_ok-levels.ensures.levels

pub invariant_of-result : goal.invariant_of-result
invariant_of-result c =
    let rows = c.args.rows.now in
    let levels = c.in_ok-levels.levels.items in
    let copied = c.in_ok-from_slice.ensures.items in
    let tree : IsTree rows = IsTree-levels rows c.in_ok-top.top levels c.in_ok-top.ensures.top c.in_ok-levels.ensures.levels in
    let some : 0 < length rows = omega (arith, c.in_ok-top.ensures.top.is_top.0) in
    let greatest : AreGreatest levels (length levels) c.depth_of.result = rw c.deref.ensures.value at c.depth_of.ensures in
    record {
      count = rw copied c.requires.count;
      in_range = rw copied c.requires.in_range;
      sound = rw copied tree;
      levels = rw copied c.in_ok-levels.ensures.levels;
      depth = rw copied (IsDepth-greatest rows levels c.depth_of.result some c.in_ok-levels.ensures.levels greatest);
      firsts = rw copied c.in_ok-links.ensures.firsts;
      order = rw copied c.in_ok-order.ensures;
    }

pub returns-clause-tree : goal.returns-clause-tree
returns-clause-tree c =
    rw c.in_ok-from_slice.ensures.items (IsTree-levels c.args.rows.now c.in_ok-top.top c.in_ok-levels.levels.items c.in_ok-top.ensures.top c.in_ok-levels.ensures.levels)
