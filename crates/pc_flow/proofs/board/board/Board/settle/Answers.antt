use Rattle.std.proofs.Common.{◌≡◌, ◌<◌, true, false, sym, ◌∙◌, ap, subst, inl, inr, arith}
use Rattle.std.proofs.lemmas.Bool.{cases_lt}
use Rattle.pc_flow.specs.board.Sheets.{Sheet}
use Rattle.pc_flow.specs.inside.board.Sheets.{waiting_of, due_of}
use Rattle.pc_flow.specs.inside.search.Growing.{GoesOn}
use Rattle.pc_flow.proofs.lemmas.search.GrowingLaws.{IsDueBelow, goes_on-begins, goes_on-due, goes_on-waits, settled-all}
use Rattle.pc_flow.proofs.board.board.Board.settle.Goals as goal
use Rattle.pc_flow.proofs.board.board.Board.settle.Goals.{then-is_due, else-is_due}

pub loop-i-init : goal.loop-i-init
loop-i-init g c = record {
  counted = omega arith;
  goes_on = goes_on-begins c.args.net.now (IsDueBelow c.args.self.now 0) c.args.self.now c.requires.search c.requires.room
      (λ a this. omega (arith, this.0.1));
}

pub loop-i-preserved : goal.loop-i-preserved
loop-i-preserved g c =
    let on = c.loop-i.invariant in
    let net = c.args.net.now in
    let s = c.args.self.now in
    let t = c.loop-i.self in
    let a = c.waiting-a.result in
    let below : c.loop-i.i < s.len = omega (arith, c.loop-i-test.true, c.len-i-end.ensures) in
    let at : waiting_of s c.loop-i.i ≡ a = sym (c.waiting-a.ensures ∙ on.goes_on.grows.waiting c.loop-i.i below) in
    let fallen : t.fallen ≡ s.fallen = ap (λ (v : Sheet). v.fallen) on.goes_on.grows.rest in
    let due : due_of t a ≡ due_of s a = ap (λ (v : Sheet). due_of v a) on.goes_on.grows.rest in
    elim c.if-is_due.branch [
      | then-is_due w ↦
          rw (w.self-is, w.steps-is) (record {
            counted = omega (arith, w.visit.ensures.counted, on.counted);
            goes_on = goes_on-due net c.loop-i.i a s t w.visit.new.self on.goes_on at w.visit.ensures.visited;
          })
      | else-is_due w ↦
          let late : s.fallen < due_of s a =
          elim (cases_lt s.fallen (due_of s a)) [
            | inl late ↦ late
            | inr now ↦
                let yes : c.is_due.result ≡ true = c.is_due.ensures.1 (omega (arith, now, fallen, due)) in
                let no : c.is_due.result ≡ false = w.if-is_due.false in
                absurd (no-both yes no)
          ] in
          rw (w.self-is, w.steps-is) (record {
            counted = omega (arith, on.counted);
            goes_on = goes_on-waits net c.loop-i.i a s t on.goes_on at late;
          })
    ]
  where
    no-both : c.is_due.result ≡ true → c.is_due.result ≡ false → ⊥
    no-both is is_not = cc

pub returns-clause-settled : goal.returns-clause-settled
returns-clause-settled g c =
    let s = c.args.self.now in
    let all : c.loop-i.i ≡ s.len = omega (arith, c.loop-i-test.false, c.loop-i.auto.i-end, c.len-i-end.ensures) in
    settled-all c.args.net.now s c.loop-i.self c.requires.search
    (subst (λ n. GoesOn c.args.net.now (IsDueBelow s n) s c.loop-i.self) all c.loop-i.invariant.goes_on)
    c.requires.listed
