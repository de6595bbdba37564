use Rattle.std.proofs.Common.{◌≡◌, true, false, arith}
use Rattle.pc_flow.proofs.lemmas.search.VisitLaws.{visited-still, settled-quiet}
use Rattle.pc_flow.proofs.lemmas.search.WayLaws.{near-known, far-known, may-cross, quiet-neither, quiet-dry}
use Rattle.pc_flow.proofs.board.board.Board.visit_to.Goals as goal
use Rattle.pc_flow.proofs.board.board.Board.visit_to.Goals.{then-rank-eq0-via-then-rank-eq0, then-rank-eq0-via-else-rank-eq0+then-not-can_flow}

pub rank-requires : goal.rank-requires
rank-requires g c =
    near-known c.args.net.now c.args.self.now c.args.a c.args.near c.args.far c.args.way c.requires.search.in_range c.requires.search.fits
    c.requires.known c.requires.near

pub returns-then-rank-eq0-clause-visited : goal.returns-then-rank-eq0-clause-visited
returns-then-rank-eq0-clause-visited g c =
    visited-still c.args.net.now c.args.self.now c.args.a c.requires.search c.requires.room
    (settled-quiet c.args.net.now c.args.self.now c.args.a (elim c.then-rank-eq0.branch [
      | then-rank-eq0-via-then-rank-eq0 w ↦
          quiet-neither c.args.net.now c.args.self.now c.args.a c.args.near c.args.far c.args.way c.requires.near c.requires.far
          (omega (arith, c.rank.ensures, w.if-rank-eq0.true)) c.requires.unlabelled
      | then-rank-eq0-via-else-rank-eq0+then-not-can_flow w ↦
          quiet-dry c.args.net.now c.args.self.now c.args.a c.args.near c.args.far c.args.way c.requires.far c.requires.unlabelled (λ flows.
          let yes : w.can_flow.result ≡ true = w.can_flow.ensures.1 flows in
          let no : w.can_flow.result ≡ false = w.if-not-can_flow.true in
          cc)
    ]))

pub cross-requires-clause-way : goal.cross-requires-clause-way
cross-requires-clause-way g c =
    may-cross c.args.net.now c.args.self.now c.args.a c.args.near c.args.far c.args.way c.requires.near c.requires.far
    (omega (arith, c.rank.ensures, c.if-rank-eq0.false)) c.requires.unlabelled (c.can_flow.ensures.0 c.if-not-can_flow.false)

pub rank-requires-2 : goal.rank-requires-2
rank-requires-2 g c =
    far-known c.args.net.now c.cross.new.self c.args.a c.args.near c.args.far c.args.way c.cross.ensures.search.in_range c.cross.ensures.search.fits
    c.requires.known c.requires.far
