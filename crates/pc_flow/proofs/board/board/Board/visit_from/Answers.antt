use Rattle.std.proofs.Common.{◌≡◌, true, false, arith}
use Rattle.pc_flow.proofs.lemmas.search.VisitLaws.{visited-still, settled-quiet}
use Rattle.pc_flow.proofs.lemmas.search.WayLaws.{far-known, may-cross, quiet-both, quiet-dry}
use Rattle.pc_flow.proofs.board.board.Board.visit_from.Goals as goal
use Rattle.pc_flow.proofs.board.board.Board.visit_from.Goals.{else-rank-eq0-via-else-rank-eq0, else-rank-eq0-via-then-rank-eq0+else-can_flow}

pub rank-requires : goal.rank-requires
rank-requires g c =
    far-known c.args.net.now c.args.self.now c.args.a c.args.near c.args.far c.args.way c.requires.search.in_range c.requires.search.fits
    c.requires.known c.requires.far

pub cross-requires-clause-way : goal.cross-requires-clause-way
cross-requires-clause-way g c =
    may-cross c.args.net.now c.args.self.now c.args.a c.args.near c.args.far c.args.way c.requires.near c.requires.far c.requires.labelled
    (omega (arith, c.rank.ensures, c.if-rank-eq0.true)) (c.can_flow.ensures.0 c.if-can_flow.true)

pub returns-else-rank-eq0-clause-visited : goal.returns-else-rank-eq0-clause-visited
returns-else-rank-eq0-clause-visited g c =
    visited-still c.args.net.now c.args.self.now c.args.a c.requires.search c.requires.room
    (settled-quiet c.args.net.now c.args.self.now c.args.a (elim c.else-rank-eq0.branch [
      | else-rank-eq0-via-else-rank-eq0 w ↦
          quiet-both c.args.net.now c.args.self.now c.args.a c.args.near c.args.far c.args.way c.requires.near c.requires.far c.requires.labelled
          (omega (arith, c.rank.ensures, w.if-rank-eq0.false))
      | else-rank-eq0-via-then-rank-eq0+else-can_flow w ↦
          quiet-dry c.args.net.now c.args.self.now c.args.a c.args.near c.args.far c.args.way c.requires.far
          (omega (arith, c.rank.ensures, w.if-rank-eq0.true)) (λ flows.
          let yes : w.can_flow.result ≡ true = w.can_flow.ensures.1 flows in
          let no : w.can_flow.result ≡ false = w.if-can_flow.false in
          cc)
    ]))
