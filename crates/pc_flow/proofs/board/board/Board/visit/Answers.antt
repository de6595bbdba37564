use Rattle.pc_flow.specs.inside.search.Searches.{IsQuiet}
use Rattle.pc_flow.proofs.lemmas.search.VisitLaws.{visited-still, settled-quiet}
use Rattle.pc_flow.proofs.lemmas.search.WayLaws.{near-looked, far-looked}
use Rattle.pc_flow.proofs.board.board.Board.visit.Goals as goal

pub returns-in-None-clause-visited : goal.returns-in-None-clause-visited
returns-in-None-clause-visited g c =
    let quiet : IsQuiet c.args.net.now c.args.self.now c.args.a = c.in-None.ensures in
    visited-still c.args.net.now c.args.self.now c.args.a c.requires.search c.requires.room
    (settled-quiet c.args.net.now c.args.self.now c.args.a quiet)

pub cross-requires-clause-near : goal.cross-requires-clause-near
cross-requires-clause-near g c =
    near-looked c.args.net.now c.in-Some.way c.args.a c.look-look.result.from c.look-look.result.to c.ends-near.result.0
    c.look-look.ensures.look.from c.look-look.ensures.look.to c.ends-near.ensures.near

pub cross-requires-clause-far : goal.cross-requires-clause-far
cross-requires-clause-far g c =
    far-looked c.args.net.now c.in-Some.way c.args.a c.look-look.result.from c.look-look.result.to c.ends-near.result.1
    c.look-look.ensures.look.from c.look-look.ensures.look.to c.ends-near.ensures.far
