use Rattle.std.proofs.Common.{◌<◌, length, ap, arith}
use Rattle.pc_crash.proofs.InsideLaws.{rows-each, knees-read}
use Rattle.pc_crash.specs.inside.Laid.{price_row_at}
use Rattle.pc_crash.proofs.crash_net.CrashNet.knees.Goals as goal

pub returns : goal.returns
returns c =
    let s = c.self.inside in
    let inside : c.args.a < length s.layout.rows.items = omega (arith, rows-each s c.self.invariant, ap (λ n. length n.network.arcs) c.self.view_is) in
    rw (c.knees_of.ensures, ← c.self.view_is) (knees-read s c.args.a (price_row_at s.layout.rows.items c.args.a) (c.self.invariant.laid.each c.args.a inside))
