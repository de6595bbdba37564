use Rattle.std.proofs.Common.{arith}
use Rattle.std.proofs.lemmas.Int.{ints}
use Rattle.pc_total.proofs.TotalLaws.{dear-small, earned-small}
use Rattle.pc_total.proofs.time.time_cost.Goals as goal

pub overflow_sub-result : goal.overflow_sub-result
overflow_sub-result c =
    let dear = dear-small c.args.terms.now c.requires.terms c.args.length c.requires.length in
    let earned = earned-small c.args.terms.now c.requires.terms c.args.length c.requires.length in
    rw (c.saturating_sub.ensures, c.saturating_sub-2.ensures) (omega (arith, ints, dear, earned))

pub returns : goal.returns
returns c =
    let dear = dear-small c.args.terms.now c.requires.terms c.args.length c.requires.length in
    let earned = earned-small c.args.terms.now c.requires.terms c.args.length c.requires.length in
    rw (c.saturating_sub.ensures, c.saturating_sub-2.ensures) (omega (arith, ints, dear, earned))
