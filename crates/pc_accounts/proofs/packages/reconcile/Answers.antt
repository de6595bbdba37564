use Rattle.std.proofs.Common.{◌≡◌, ℕ, Option, Some, get_or, sym, subst, below_more, arith}
use Rattle.pc_accounts.specs.inside.Packages.{AreWork}
use Rattle.pc_accounts.proofs.PackageLaws.{even_here, uneven_here}
use Rattle.pc_accounts.proofs.packages.reconcile.Goals as goal
use Rattle.pc_accounts.proofs.packages.reconcile.Goals.{in-Some+else-cost-sum, in_default}

pub loop-item-preserved : goal.loop-item-preserved
loop-item-preserved c =
    below_more _ _ c.loop-item.invariant
    (even_here c.args.accounts.now c.args.work.now c.len.result c.loop-item.item c.in_ok-budgets.budgets.items c.in_ok-costs.costs.items
    c.index.result.now c.index-sum.result.now c.in_ok-budgets.ensures
    (rw c.len.ensures.len (rw c.len-2.ensures.len at c.in_ok-costs.ensures))
    (omega (arith, c.len.ensures.len, c.len-item-end.ensures.len)) c.index.ensures c.index-sum.ensures same)
  where
    same : (cost : ℕ) → c.index.result.now ≡ Some cost → cost ≡ c.index-sum.result.now
    same cost is =
        elim c.match-index.branch [
          | in-Some+else-cost-sum w ↦ let at = w.in-Some.is in let equal = w.if-cost-sum.false in cc
          | in_default w ↦ absurd (w.in_default.not-Some cost is)
        ]

pub budget_sums-requires-clause-items : goal.budget_sums-requires-clause-items
budget_sums-requires-clause-items c = λ a lt. omega (arith, c.requires.items a lt, c.len.ensures.len)

pub budget_sums-requires-clause-budgets : goal.budget_sums-requires-clause-budgets
budget_sums-requires-clause-budgets c = c.requires.budgets

pub cost_sums-requires-clause-work : goal.cost_sums-requires-clause-work
cost_sums-requires-clause-work c = subst (λ n. AreWork n c.args.work.now) (sym c.len-2.ensures.len) c.requires.work

pub returns-then-cost-sum-clause-refused : goal.returns-then-cost-sum-clause-refused
returns-then-cost-sum-clause-refused c =
    uneven_here c.args.accounts.now c.args.work.now c.len.result c.loop-item.item c.in_ok-budgets.budgets.items c.in_ok-costs.costs.items
    c.index-sum.result.now c.in-Some.cost c.in_ok-budgets.ensures
    (rw c.len.ensures.len (rw c.len-2.ensures.len at c.in_ok-costs.ensures))
    (omega (arith, c.len.ensures.len, c.len-item-end.ensures.len))
    (subst (λ (o : Option ℕ). o ≡ get_or c.in_ok-costs.costs.items c.loop-item.item o) c.in-Some.is c.index.ensures) c.index-sum.ensures
    (λ same. absurd (omega (arith, same, c.if-cost-sum.true))) c.loop-item.invariant
