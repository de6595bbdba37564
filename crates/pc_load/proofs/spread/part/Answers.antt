use Rattle.std.proofs.Common.{arith}
use Rattle.pc_load.proofs.ShareLaws.{share_grows, part_more}
use Rattle.pc_load.proofs.spread.part.Goals as goal

pub overflow_sub-result : goal.overflow_sub-result
overflow_sub-result c =
    let grows = share_grows c.args.s.now c.args.from c.args.to c.requires.order in
    omega (arith, c.share.ensures.share, c.share-2.ensures.share)

pub returns-clause-nothing_lost : goal.returns-clause-nothing_lost
returns-clause-nothing_lost c =
    let more = part_more c.args.s.now c.args.from c.args.to c.requires.order in
    omega (arith, c.share.ensures.share, c.share-2.ensures.share)
