use Rattle.std.proofs.Common.{◌≡◌, ◌<◌, ◌+◌, length, subst, arith}
use Rattle.pc_flow.specs.inside.search.Searches.{IsQuiet}
use Rattle.pc_flow.specs.inside.search.Choosing.{StopsAt, IsStopOf}
use Rattle.pc_flow.proofs.lemmas.search.ChoosingLaws.{IsChoosing, choosing-begins, choosing-keeps, choosing-goes, stops-relisted, quiet-relisted, priced-relisted}
use Rattle.pc_flow.proofs.lemmas.search.StandLaws.{choosing-ends}
use Rattle.pc_flow.proofs.board.board.Board.choose.Goals as goal
use Rattle.pc_flow.proofs.board.board.Board.choose.Goals.{in-Some, in-None}

pub loop-i-init : goal.loop-i-init
loop-i-init g c = record { counted = omega arith; choosing = choosing-begins c.args.net.now c.args.self.now }

pub stop_of-requires-clause-board : goal.stop_of-requires-clause-board
stop_of-requires-clause-board g c =
    priced-relisted c.args.net.now c.args.self.now c.loop-i.self c.loop-i.invariant.choosing.rest c.requires.search

pub loop-i-preserved : goal.loop-i-preserved
loop-i-preserved g c =
    let net = c.args.net.now in
    let s = c.args.self.now in
    let t = c.loop-i.self in
    let a = c.waiting-a.result in
    let on = c.loop-i.invariant in
    let within : c.loop-i.i < s.len = omega (arith, c.loop-i-test.true, c.len-i-end.ensures) in
    let stop : IsStopOf net t a c.stop_of.result = c.stop_of.ensures.stop in
    let counted : c.stop_of.new.steps ≡ c.args.steps.now + (c.loop-i.i + 1) = omega (arith, c.stop_of.ensures.counted, on.counted) in
    elim c.match-stop_of.branch [
      | in-Some w ↦
          let stops : StopsAt net t a w.in-Some.after = subst (λ r. IsStopOf net t a r) w.in-Some.is stop in
          let known : a < length net.network.arcs =
          omega (arith, c.waiting-a.ensures, on.choosing.later c.loop-i.i (omega arith), c.requires.search.waiting.range c.loop-i.i within, c.requires.search.fits.activities) in
          rw (w.self-is, w.kept-is, w.least-is, w.min-least.ensures) (record {
            counted = counted;
            choosing = choosing-keeps net s t w.wait_at.new.self c.loop-i.i c.loop-i.kept c.loop-i.least a c.requires.search.waiting within on.choosing
                c.waiting-a.ensures w.in-Some.after (stops-relisted net s t on.choosing.rest a w.in-Some.after stops) w.wait_at.ensures known;
          })
      | in-None w ↦
          let quiet : IsQuiet net t a = subst (λ r. IsStopOf net t a r) w.in-None.is stop in
          rw (w.self-is, w.kept-is, w.least-is) (record {
            counted = counted;
            choosing = choosing-goes net s t w.go.new.self c.loop-i.i c.loop-i.kept c.loop-i.least a c.requires.search.waiting within on.choosing
                c.waiting-a.ensures (quiet-relisted net s t on.choosing.rest a quiet) w.go.ensures;
          })
    ]

pub returns-clause-chosen : goal.returns-clause-chosen
returns-clause-chosen g c =
    let net = c.args.net.now in
    let s = c.args.self.now in
    let all : c.loop-i.i ≡ s.len = omega (arith, c.loop-i-test.false, c.loop-i.auto.i-end, c.len-i-end.ensures) in
    choosing-ends net s c.loop-i.self c.loop-i.kept c.loop-i.least c.requires.search c.requires.room c.requires.settled c.requires.scanned
    c.requires.stuck
    (subst (λ n. IsChoosing net s c.loop-i.self n c.loop-i.kept c.loop-i.least) all c.loop-i.invariant.choosing)
    c.cut.new.self c.cut.ensures
