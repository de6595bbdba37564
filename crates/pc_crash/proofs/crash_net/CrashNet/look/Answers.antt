use Rattle.std.proofs.Common.{◌<◌, length, ap, arith}
use Rattle.pc_crash.proofs.InsideLaws.{rows-each, row-read, knees-read}
use Rattle.pc_crash.specs.inside.Laid.{price_row_at}
use Rattle.pc_crash.proofs.crash_net.CrashNet.look.Goals as goal

pub returns-clause-look : goal.returns-clause-look
returns-clause-look g c =
    let s = c.self.inside in
    let a = c.args.a in
    let known : a < length s.net.now.arcs = omega (arith, ap (λ n. length n.network.arcs) c.self.view_is) in
    let inside : a < length s.layout.rows.items = omega (arith, rows-each s c.self.invariant) in
    let row = row-read s a c.index-row.result.now c.self.invariant known c.index-row.ensures in
    rw (← c.self.view_is) (record {
      from = ap (λ arc. arc.from) row.arc;
      to = ap (λ arc. arc.to) row.arc;
      normal = ap (λ term. term.normal) row.term;
      crash = ap (λ term. term.crash) row.term;
      slope = ap (λ term. term.slope) row.term;
      knees = rw c.knees_of.ensures (knees-read s a (price_row_at s.layout.rows.items a) (c.self.invariant.laid.each a inside));
    })
