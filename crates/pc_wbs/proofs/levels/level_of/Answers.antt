use Rattle.std.proofs.Common.{arith}
use Rattle.pc_wbs.proofs.ClimbLaws.{climb-range}
use Rattle.pc_wbs.proofs.LoopLaws.{IsOnLoop-end}
use Rattle.pc_wbs.proofs.levels.level_of.Goals as goal

pub unreachable-requires : goal.unreachable-requires
unreachable-requires c =
    let rows = c.args.rows.now in
    let deep = c.in-None.ensures.none in
    c.requires.no_loop deep.0 (
      climb-range rows _ c.args.item deep.0 c.requires.in_range c.requires.item deep.1,
      IsOnLoop-end rows _ c.args.item deep.0 c.requires.in_range c.requires.item (omega arith) deep.1,
    )
