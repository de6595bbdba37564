use Rattle.std.proofs.Common.{length, ap, arith}
use Rattle.pc_crash.proofs.InsideLaws.{rows-each, ends-within}
use Rattle.pc_crash.proofs.crash_net.CrashNet.fits.Goals as goal

pub index-row-requires : goal.index-row-requires
index-row-requires c = omega (arith, rows-each c.self.inside c.self.invariant, ap (λ n. length n.network.arcs) c.self.view_is)

pub bounds-times-row : goal.bounds-times-row
bounds-times-row c =
    let ends = ends-within c.self.inside c.args.self.now c.self.view_is c.self.invariant c.args.a c.requires.activity c.index-row.result.now c.index-row.ensures in
    omega (arith, c.requires.times)

pub bounds-times-row-2 : goal.bounds-times-row-2
bounds-times-row-2 c =
    let ends = ends-within c.self.inside c.args.self.now c.self.view_is c.self.invariant c.args.a c.requires.activity c.index-row.result.now c.index-row.ensures in
    omega (arith, c.requires.times)
