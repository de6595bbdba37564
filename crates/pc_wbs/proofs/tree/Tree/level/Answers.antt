use Rattle.std.proofs.Common.{arith, ◌<◌, length}
use Rattle.std.specs.Prelude.{slice_index}
use Rattle.std.proofs.lemmas.List.{get_or_read}
use Rattle.pc_wbs.specs.Climb.{HasLevel}
use Rattle.pc_wbs.proofs.tree.Tree.level.Goals as goal

pub returns-clause-level : goal.returns-clause-level
returns-clause-level c =
    let rows = c.self.inside.rows.items in
    let levels = c.self.inside.levels.items in
    let inside : c.args.i < length rows = rw c.self.view_is c.requires in
    let within : c.args.i < length levels = omega (arith, c.self.invariant.levels.one_each) in
    let is = get_or_read levels c.args.i c.index.result.now within c.index.ensures 0 in
    let level : HasLevel c.args.self.now c.args.i (slice_index levels c.args.i) = rw c.self.view_is at (c.self.invariant.levels.level c.args.i inside) in
    rw is level
