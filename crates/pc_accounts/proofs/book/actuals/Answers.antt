use Rattle.std.proofs.Common.{◌∙◌, sym}
use Rattle.pc_accounts.proofs.DayLaws.{is_le-int}
use Rattle.pc_accounts.proofs.AmountLaws.{actuals_step, actuals_skip, charge_fits}
use Rattle.pc_accounts.proofs.book.actuals.Goals as goal
use Rattle.pc_accounts.proofs.book.actuals.Goals.{then-le, else-le}

pub loop-charge-preserved : goal.loop-charge-preserved
loop-charge-preserved c =
    let row = c.charge-item.result in
    elim c.if-le.branch [
      | then-le w ↦ rw w.actuals-is (actuals_step _ _ _ _ _ row w.index_mut.result.now c.requires.charges c.loop-charge.invariant
          c.loop-charge-test.true c.charge-item.is
          (sym (is_le-int row.day c.args.as_of) ∙ sym c.le.ensures ∙ w.if-le.true) w.index_mut.ensures.value)
      | else-le w ↦ rw w.actuals-is (actuals_skip _ _ _ _ _ row c.loop-charge.invariant c.loop-charge-test.true c.charge-item.is
          (sym (is_le-int row.day c.args.as_of) ∙ sym c.le.ensures ∙ w.if-le.false))
    ]

pub overflow_add-index_mut : goal.overflow_add-index_mut
overflow_add-index_mut c =
    let row = c.charge-item.result in
    charge_fits _ _ _ _ _ row c.index_mut.result.now c.requires.few c.requires.charges c.loop-charge.invariant c.loop-charge-test.true c.charge-item.is c.index_mut.ensures.value
