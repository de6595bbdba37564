use Rattle.std.proofs.Common.{ℕ, List, Option, Bool, length, subst, arith}
use Rattle.pc_rollup.specs.inside.figures.Columns.{AreSumsByItem, worth_columns}
use Rattle.pc_rollup.specs.inside.figures.Packages.{AreProgress, worth_at}
use Rattle.pc_rollup.proofs.lemmas.figures.ValueLaws.{worth_is}
use Rattle.pc_rollup.proofs.figures.worth.Worth.build.Goals as goal

pub sums_by_item-requires-clause-progress_each : goal.sums_by_item-requires-clause-progress_each
sums_by_item-requires-clause-progress_each c =
    rw c.deref.ensures.value (omega (arith, c.in_ok-progress.ensures.one_each, c.len.ensures.len))

pub returns : goal.returns
returns c =
    let places = c.args.places.now in
    let progress = c.in_ok-progress.progress.items in
    worth_is c.args.tree.now places c.args.states.now progress c.args.accounts.now c.args.entries.now c.in_ok-amounts.amounts.items
    (subst (λ (n : ℕ). AreProgress n places c.args.states.now (length places) progress) c.len.ensures.len c.in_ok-progress.ensures) c.requires.on_tree
    (subst (λ (p : List (Option Bool)). AreSumsByItem worth_columns c.args.tree.now c.args.accounts.now (worth_at p c.args.accounts.now c.args.entries.now) c.in_ok-amounts.amounts.items)
    c.deref.ensures.value c.in_ok-amounts.ensures)
