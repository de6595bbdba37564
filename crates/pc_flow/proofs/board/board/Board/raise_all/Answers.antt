use Rattle.std.proofs.Common.{◌<◌, ◌*◌, ◌^◌, length, arith}
use Rattle.pc_flow.specs.search.Labelling.{slopes_in}
use Rattle.pc_flow.proofs.lemmas.search.StateLaws.{slopes-small}
use Rattle.pc_flow.proofs.lemmas.search.LabelLaws.{rises-joins, looks-more}
use Rattle.pc_flow.proofs.board.board.Board.raise_all.Goals as goal

pub overflow_add-rise : goal.overflow_add-rise
overflow_add-rise g c =
    let net = c.args.net.now in
    let small : slopes_in net < 10 ^ 13 =
    slopes-small net (record {
      priced = c.facts.ensures.priced;
      limits = c.facts.ensures.limits;
      pieces = c.facts.ensures.pieces;
      piece_limits = c.facts.ensures.piece_limits;
    }) c.requires.under_way.between.search.few in
    omega (arith, c.raise_once-rise.ensures.rises.slope, c.loop-self.invariant.rises.slope, c.raise_once-rise.ensures.bounded, small)

pub loop-self-preserved : goal.loop-self-preserved
loop-self-preserved g c =
    let net = c.args.net.now in
    let t = c.loop-self.self in
    let u = c.raise_once-rise.new.self in
    let by = c.raise_once-rise.result in
    let on = c.loop-self.invariant in
    record {
      counted = omega (
        arith,
        c.raise_once-rise.ensures.counted,
        on.counted,
        looks-more (4 * length net.network.arcs) c.loop-self.rise by c.raise_once-rise.ensures.some,
      );
      rises = rises-joins net c.args.self.now t u c.loop-self.rise by on.rises c.raise_once-rise.ensures.rises;
      under_way = c.raise_once-rise.ensures.under_way;
    }
