use Rattle.std.proofs.Common.{arith}
use Rattle.std.proofs.lemmas.Bool.{eqb-true}
use Rattle.pc_cert.proofs.FrontLaws.{fronts_are_same}
use Rattle.pc_cert.proofs.fast.front.begin_same.Goals as goal

pub returns : goal.returns
returns c = λ is.
    fronts_are_same c.args.bytes.now c.args.others.now c.args.count c.same_lanes.result c.low_bits-first.result
    (omega (arith, c.requires.bytes, c.requires.count))
    (omega (arith, c.requires.others, c.requires.count)) c.requires.count c.low_bits-first.ensures c.same_lanes.ensures
    (eqb-true _ _ is)
