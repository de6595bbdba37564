use Rattle.std.proofs.Common.{◌≡◌, ◌∙◌, ◌+◌, ℕ, sym, subst, set, arith}
use Rattle.std.specs.Prelude.{slice_index}
use Rattle.std.proofs.lemmas.List.{get_or_default}
use Rattle.pc_accounts.specs.Amounts.{item_of, budget_of}
use Rattle.pc_accounts.specs.inside.Parts.{AreBudgetSums}
use Rattle.pc_accounts.proofs.PackageLaws.{budgets_fit, AreBudgetSums-more}
use Rattle.pc_accounts.proofs.packages.budget_sums.Goals as goal

pub overflow_add-index_mut : goal.overflow_add-index_mut
overflow_add-index_mut c =
    let i = c.loop-account.account-index in
    let known = c.requires.items i c.loop-account-test.true in
    let read : slice_index c.loop-account.sums.items (item_of c.args.accounts.now i)
    ≡ c.index_mut.result.now = get_or_default c.loop-account.sums.items (item_of c.args.accounts.now i) 0 c.index_mut.result.now
    (omega (arith, known, c.loop-account.invariant.one_each)) ∙ sym c.index_mut.ensures.value in
    omega (
      arith,
      read,
      budgets_fit c.args.items c.args.accounts.now i
          (item_of c.args.accounts.now i) c.loop-account.sums.items c.requires.budgets c.loop-account.invariant (omega arith) known,
      c.requires.budgets i c.loop-account-test.true,
    )

pub loop-account-preserved : goal.loop-account-preserved
loop-account-preserved c =
    let i = c.loop-account.account-index in
    let own = item_of c.args.accounts.now i in
    let known = c.requires.items i c.loop-account-test.true in
    let read : slice_index c.loop-account.sums.items own ≡ c.index_mut.result.now = get_or_default c.loop-account.sums.items own 0 c.index_mut.result.now
    (omega (arith, known, c.loop-account.invariant.one_each)) ∙ sym c.index_mut.ensures.value in
    subst (λ (n : ℕ). AreBudgetSums c.args.items c.args.accounts.now (i + 1) (set c.loop-account.sums.items own (n + budget_of c.args.accounts.now i))) read
    (AreBudgetSums-more c.args.items c.args.accounts.now i c.loop-account.sums.items known c.loop-account.invariant c.loop-account-test.true)
