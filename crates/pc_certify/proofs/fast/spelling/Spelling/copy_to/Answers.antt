use Rattle.std.proofs.Common.{◌+◌, ◌-◌, ◌≤◌, length, take, ap, sym, ◌∙◌, arith, length-take-le, take-take}
use Rattle.pc_certify.proofs.lemmas.fast.GatherLaws.{placed}
use Rattle.pc_certify.proofs.fast.spelling.Spelling.copy_to.Goals as goal

pub returns-then-self-le-SHORT : goal.returns-then-self-le-SHORT
returns-then-self-le-SHORT c =
    let n = c.self.inside.len in
    let cells = c.self.inside.cells in
    let short : n ≤ 32 = omega (arith, c.if-self-le-SHORT.true) in
    placed c.args.cells.now c.copy_from_slice.new.self c.args.self.now c.args.at (c.args.at + 32 - c.args.at) n (omega (arith, c.requires))
    (omega (arith, ap length c.copy_from_slice.ensures.after, length-take-le 32 cells (omega (arith, c.self.invariant.1))))
    (omega (arith, short))
    (ap (take n) c.copy_from_slice.ensures.after ∙ take-take n 32 cells short ∙ c.self.view_is)
    (ap length (sym c.self.view_is) ∙ length-take-le n cells (omega (arith, c.self.invariant.0, c.self.invariant.1)))
