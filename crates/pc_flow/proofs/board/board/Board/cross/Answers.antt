use Rattle.std.proofs.Common.{◌≡◌, subst, arith}
use Rattle.pc_flow.specs.inside.board.Moves.{EntersAt}
use Rattle.pc_flow.specs.inside.search.Searches.{StopsAfterFall}
use Rattle.pc_flow.proofs.lemmas.search.VisitLaws.{waiting-room}
use Rattle.pc_flow.proofs.lemmas.search.WayLaws.{far-known, far-none}
use Rattle.pc_flow.proofs.lemmas.search.CrossLaws.{stops-later, crossed-waits, far-room, crossed}
use Rattle.pc_flow.proofs.board.board.Board.cross.Goals as goal

pub wait-requires-clause-room : goal.wait-requires-clause-room
wait-requires-clause-room c =
    λ none. waiting-room c.args.self.now c.args.a c.requires.search.waiting (omega (arith, c.requires.known, c.requires.search.fits.activities)) none

pub wait-requires-clause-few : goal.wait-requires-clause-few
wait-requires-clause-few c = omega (arith, c.requires.search.waiting.few, c.requires.search.fits.activities, c.requires.search.few)

pub returns-then-after-gt0 : goal.returns-then-after-gt0
returns-then-after-gt0 c =
    crossed-waits c.args.net.now c.args.self.now c.args.a c.requires.search c.requires.known c.requires.room c.wait.new.self
    (stops-later c.args.net.now c.args.self.now c.args.a c.requires.search c.requires.known c.requires.room
    c.args.way c.stop-after.result c.requires.way c.stop-after.ensures c.if-after-gt0.true)
    c.wait.ensures.stays c.wait.ensures.waits

pub enter-requires-clause-known : goal.enter-requires-clause-known
enter-requires-clause-known c =
    far-known c.args.net.now c.args.self.now c.args.a c.args.near c.args.far c.args.way c.requires.search.in_range c.requires.search.fits c.requires.known
    c.requires.far

pub enter-requires-clause-room : goal.enter-requires-clause-room
enter-requires-clause-room c =
    far-room c.args.net.now c.args.self.now c.args.a c.requires.search c.requires.known c.requires.room c.args.near c.args.far c.args.way c.requires.far
    c.requires.way

pub enter-requires-clause-deep : goal.enter-requires-clause-deep
enter-requires-clause-deep c =
    c.requires.search.times.deep c.args.far
    (far-known c.args.net.now c.args.self.now c.args.a c.args.near c.args.far c.args.way c.requires.search.in_range c.requires.search.fits c.requires.known
    c.requires.far)
    (far-none c.args.net.now c.args.self.now c.args.a c.args.near c.args.far c.args.way c.requires.far c.requires.way)

pub returns : goal.returns
returns c =
    let now : c.stop-after.result ≡ 0 = omega (arith, c.if-after-gt0.false) in
    crossed c.args.net.now c.args.self.now c.args.a c.requires.search c.requires.known c.requires.room c.args.near c.args.far c.args.way c.enter.new.self
    c.requires.near c.requires.far c.requires.way (subst (λ n. StopsAfterFall c.args.net.now c.args.self.now c.args.a c.args.way n) now c.stop-after.ensures)
    (subst (λ b. EntersAt c.args.self.now c.enter.new.self c.args.far c.args.a b c.args.near 1) c.is_against.ensures c.enter.ensures)
