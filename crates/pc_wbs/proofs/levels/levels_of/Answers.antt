use Rattle.std.proofs.Common.{arith, ◌<◌, length}
use Rattle.pc_model.specs.declared.limits.TheConstants.{MAX_LEVEL}
use Rattle.pc_wbs.proofs.BuildLaws.{AreLevels-more, IsFirst-too_deep, HasLevel-deep}
use Rattle.pc_wbs.proofs.levels.levels_of.Goals as goal

pub returns-in-None-clause-refusal : goal.returns-in-None-clause-refusal
returns-in-None-clause-refusal c =
    let rows = c.args.rows.now in
    let item = c.loop-item.item in
    let inside : item < length rows = omega arith in
    let deep = c.in-None.ensures.none in
    let level = c.level_of.ensures in
    let over = HasLevel-deep rows MAX_LEVEL item deep.0 c.level_of.result deep.1 level in
    (c.requires.top, c.in_ok-refuse_loop-in-None.ensures.none, IsFirst-too_deep rows item c.level_of.result c.loop-item.levels.items c.loop-item.invariant inside level over, level)

pub loop-item-preserved : goal.loop-item-preserved
loop-item-preserved c =
    let rows = c.args.rows.now in
    let found = c.in-Some.ensures in
    rw c.in_ok-push-in-Some.ensures.items (AreLevels-more rows c.loop-item.item c.in-Some.level c.loop-item.levels.items c.loop-item.invariant found.found found.within)
