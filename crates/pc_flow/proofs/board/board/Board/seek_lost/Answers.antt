use Rattle.std.proofs.Common.{◌≡◌, ◌+◌, suc, ◌∙◌, ap, arith}
use Rattle.pc_model.specs.Sums.{sum_to}
use Rattle.pc_flow.specs.board.Sheets.{Sheet}
use Rattle.pc_flow.specs.inside.board.Sheets.{lost_of}
use Rattle.pc_flow.specs.inside.search.Growing.{degree, IsAtLost}
use Rattle.pc_flow.proofs.lemmas.search.GrowingLaws.{goes_on-begins}
use Rattle.pc_flow.proofs.lemmas.search.SeekLaws.{lost-goes_on, lost-labelled}
use Rattle.pc_flow.proofs.board.board.Board.seek_lost.Goals as goal
use Rattle.pc_flow.proofs.board.board.Board.seek_lost.Goals.{then-rank-eq0, else-rank-eq0}

pub loop-i-init : goal.loop-i-init
loop-i-init g c = record {
  counted = omega arith;
  goes_on = goes_on-begins c.args.net.now (IsAtLost c.args.net.now c.args.self.now 0) c.args.self.now c.requires.search
      c.requires.room (λ a lost. omega (arith, lost.1));
}

pub loop-i-preserved : goal.loop-i-preserved
loop-i-preserved g c =
    let net = c.args.net.now in
    let s = c.args.self.now in
    let t = c.loop-i.self in
    let e = c.lost-e.result in
    let on = c.loop-i.invariant in
    let same : e ≡ lost_of s c.loop-i.i = c.lost-e.ensures ∙ ap (λ (v : Sheet). lost_of v c.loop-i.i) on.goes_on.grows.rest in
    let one : c.loop-i.i + 1 ≡ suc c.loop-i.i = omega arith in
    let next_sum = ap (λ n. sum_to n (λ k. degree net (lost_of s k))) one in
    elim c.if-rank-eq0.branch [
      | then-rank-eq0 w ↦
          let u = w.seek.new.self in
          rw (w.self-is, w.steps-is) (record {
            counted = omega (arith, w.seek.ensures.counted, ap (degree net) same, on.counted, next_sum);
            goes_on = lost-goes_on net s t u c.loop-i.i e same on.goes_on w.seek.ensures.goes_on;
          })
      | else-rank-eq0 w ↦
          rw (w.self-is, w.steps-is) (record {
            counted = omega (arith, on.counted, next_sum);
            goes_on = lost-labelled net s t c.loop-i.i e same (c.requires.unlabelled c.loop-i.i (omega (arith, c.loop-i-test.true)))
                (omega (arith, w.if-rank-eq0.false, c.rank.ensures)) on.goes_on;
          })
    ]
