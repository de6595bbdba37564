use Rattle.std.proofs.Common.{arith}
use Rattle.pc_flow.proofs.lemmas.search.LabelLaws.{rises-once, slope-once, under_way-once}
use Rattle.pc_flow.proofs.board.board.Board.raise_once.Goals as goal

pub look_again-requires-clause-settled : goal.look_again-requires-clause-settled
look_again-requires-clause-settled g c =
    c.augment-raised.ensures.raised.settled

pub grow-requires-clause-settled : goal.grow-requires-clause-settled
grow-requires-clause-settled g c =
    c.look_again.ensures.again.settled

pub returns : goal.returns
returns g c =
    let net = c.args.net.now in
    let s = c.args.self.now in
    let r = c.augment-raised.new.self in
    let t = c.look_again.new.self in
    let u = c.grow.new.self in
    let by = c.augment-raised.result.by in
    let raised = c.augment-raised.ensures.raised in
    let was = c.requires.under_way in
    record {
      counted = omega (arith, c.look_again.ensures.counted, c.grow.ensures.counted);
      some = raised.some;
      rises = rises-once net s r t u by was.between was.above raised c.look_again.ensures.again c.grow.ensures.grown;
      under_way = under_way-once net s r t u by was.between was.above raised c.look_again.ensures.again c.grow.ensures.grown;
      bounded = omega (arith, slope-once net s r t u by was.between was.above raised c.look_again.ensures.again c.grow.ensures.grown, raised.bounded);
    }
