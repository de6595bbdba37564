use Rattle.std.proofs.Common.{◌<◌, length, ap, arith}
use Rattle.pc_crash.proofs.OwnPieceLaws.{own_pieces}
use Rattle.pc_project.proofs.project.Project.cost_at.Goals as goal

pub cost_of_one-requires-clause-own : goal.cost_of_one-requires-clause-own
cost_of_one-requires-clause-own c =
    let s = c.self.inside in
    let planned = c.self.invariant in
    let inside : c.args.a < length s.frame.net.arcs = omega (arith, ap (λ p. length p.network.arcs) c.self.view_is) in
    let known : c.args.a < length s.frame.terms.items = omega (arith, inside, planned.terms.one_each) in
    rw (c.deref.ensures.value, c.deref-2.ensures.value)
    (own_pieces s.frame.net s.frame.terms.items s.pieces.items planned.terms planned.limits planned.pieces planned.piece_limits c.args.a known)
