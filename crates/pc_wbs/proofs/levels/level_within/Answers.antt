use Rattle.std.proofs.Common.{◌≡◌, Some, sym, ◌∙◌}
use Rattle.pc_wbs.specs.Climb.{parent_of}
use Rattle.pc_wbs.proofs.ClimbLaws.{climb-more}
use Rattle.pc_wbs.proofs.levels.level_within.Goals as goal

pub loop-climbed-preserved : goal.loop-climbed-preserved
loop-climbed-preserved c =
    let e : parent_of c.args.rows.now c.loop-climbed.at ≡ Some c.in-Some.parent = sym c.parent_of.ensures ∙ c.in-Some.is in (
      climb-more c.args.rows.now c.loop-climbed.climbed c.args.item c.loop-climbed.at c.loop-climbed.invariant.0 ∙ e,
      c.requires.in_range c.loop-climbed.at c.in-Some.parent c.loop-climbed.invariant.1 e,
    )
