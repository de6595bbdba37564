use Rattle.std.proofs.Common.{◌≡◌, ◌∙◌, length, subst, sym, arith}
use Rattle.pc_accounts.specs.inside.Parts.{AreLatest}
use Rattle.pc_accounts.proofs.DayLaws.{is_le-int}
use Rattle.pc_accounts.proofs.AmountLaws.{latest_step, latest_skip}
use Rattle.pc_accounts.proofs.book.latest_togos.Goals as goal
use Rattle.pc_accounts.proofs.book.latest_togos.Goals.{then-le, else-le}

pub loop-row-preserved : goal.loop-row-preserved
loop-row-preserved c =
    let row = c.index-togos-row.result in
    elim c.if-le.branch [
      | then-le w ↦ rw (w.latest-is, w.later.ensures)
          (latest_step _ _ _ _ _ row w.index.result.now c.requires.togos c.loop-row.invariant c.loop-row-test.true c.index-togos-row.is
          (sym (is_le-int row.day c.args.as_of) ∙ sym c.le.ensures ∙ w.if-le.true) w.index.ensures)
      | else-le w ↦ rw w.latest-is (latest_skip _ _ _ _ _ row c.loop-row.invariant c.loop-row-test.true c.index-togos-row.is (sym (is_le-int row.day c.args.as_of) ∙ sym c.le.ensures ∙ w.if-le.false))
    ]

pub later-requires-clause-row : goal.later-requires-clause-row
later-requires-clause-row c = c.loop-row-test.true

pub returns : goal.returns
returns c =
    let togos = c.args.togos.now in
    let all : c.loop-row.row ≡ length togos = omega arith in
    subst (λ n. AreLatest c.args.accounts togos c.args.as_of n c.loop-row.latest.items) all c.loop-row.invariant
