-- What holds of the parts of a tree.
use Rattle.std.specs.Prelude.{◌≤◌, length}
use Rattle.pc_model.specs.declared.limits.TheConstants.{MAX_ITEMS}
use Rattle.pc_wbs.specs.declared.tree.Tree.TheInside.{Inside}
use Rattle.pc_wbs.specs.Climb.{AreInRange, IsTree, IsDepth}
use Rattle.pc_wbs.specs.inside.Ends.{AreLevels}
use Rattle.pc_wbs.specs.inside.Links.{AreFirstChildren}
use Rattle.pc_wbs.specs.Preorder.{IsPreorder}

-- a tree's parts are what its rows say
pub record AreTreeParts (a : Inside) : Type 0 where
  pub count : length a.rows.items ≤ MAX_ITEMS
  pub in_range : AreInRange a.rows.items
  pub sound : IsTree a.rows.items
  pub levels : AreLevels a.rows.items (length a.rows.items) a.levels.items
  pub depth : IsDepth a.rows.items a.depth
  pub firsts : AreFirstChildren a.rows.items 0 a.firsts.items
  pub order : IsPreorder a.rows.items a.order.items
