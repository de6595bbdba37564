use Rattle.std.proofs.Common.{◌≡◌, ◌∙◌, ◌+◌, ℕ, Option, None, Some, sym, refl, ap, subst, unwrap_or, set, arith}
use Rattle.std.proofs.lemmas.List.{get_or_default}
use Rattle.pc_accounts.specs.Packages.{work_at}
use Rattle.pc_accounts.specs.inside.Parts.{option_at, AreCostSums}
use Rattle.pc_accounts.proofs.PackageLaws.{cost_fits, AreCostSums-more}
use Rattle.pc_accounts.proofs.packages.cost_sums.Goals as goal

pub overflow_add-so_far : goal.overflow_add-so_far
overflow_add-so_far c =
    cost_fits _ _ c.loop-activity.activity-index _ _ c.index.result.now _ c.requires.few c.requires.work c.loop-activity.invariant
    c.loop-activity-test.true refl c.index.ensures c.unwrap_or-so_far.ensures

pub loop-activity-preserved : goal.loop-activity-preserved
loop-activity-preserved c =
    let i = c.loop-activity.activity-index in
    let row = work_at c.args.work.now i in
    let known = c.requires.work.known i c.loop-activity-test.true in
    let read : option_at c.loop-activity.sums.items row.item
    ≡ c.index.result.now = get_or_default c.loop-activity.sums.items row.item None c.index.result.now
    (omega (arith, known, c.loop-activity.invariant.one_each)) ∙ sym c.index.ensures in
    let sum : unwrap_or (option_at c.loop-activity.sums.items row.item) 0 ≡ c.unwrap_or-so_far.result = ap (λ (o : Option ℕ). unwrap_or o 0) read ∙ sym c.unwrap_or-so_far.ensures in
    subst (λ (n : ℕ). AreCostSums c.args.items c.args.work.now (i + 1) (set c.loop-activity.sums.items row.item (Some (n + row.cost)))) sum
    (AreCostSums-more c.args.items c.args.work.now i c.loop-activity.sums.items c.requires.work c.loop-activity.invariant c.loop-activity-test.true)
