use Rattle.std.proofs.Common.{arith}
use Rattle.pc_reports.proofs.OutlookLaws.{costs_told, outlook_told, top_told}
use Rattle.pc_reports.proofs.outlook_report.OutlookReport.build_priced.Goals as goal

pub build-requires : goal.build-requires
build-requires c =
    let planned = c.book.ensures.planned in
    let figures = planned.figures in
    let costs = costs_told _ _ _ _ c.requires.priced c.in_ok-costs.ensures.costs in
    record {
      work_on_leaves = rw (c.tree-tree.ensures.tree, c.places-places.ensures.places) (record {
        known = λ a lt. planned.placed a (omega (arith, planned.place_each));
        leaves = λ a lt. figures.on_leaves a (omega (arith, planned.place_each));
      });
      cost_each = rw (c.deref.ensures.value, c.places-places.ensures.places) (omega (arith, costs.one_each, planned.place_each));
      costs_fit = rw (c.deref.ensures.value, c.places-places.ensures.places, planned.place_each, ← costs.one_each) c.in_ok-costs.ensures.fit;
      on_tree = rw (c.tree-tree.ensures.tree, c.accounts.ensures.accounts) (record { known = figures.accounts.known; leaves = figures.accounts.leaves });
      one_each = rw (c.entries-entries.ensures.entries, c.book.ensures.entries, c.accounts.ensures.accounts) figures.entries.one_each;
      small = rw (c.entries-entries.ensures.entries, c.book.ensures.entries) figures.small_entries;
    }

pub returns-clause-outlook : goal.returns-clause-outlook
returns-clause-outlook c =
    outlook_told c.args.project.now c.args.durations.now c.in_ok-costs.costs.items c.in_ok-build.field-0 c.book.ensures.planned.place_each
    (costs_told _ _ _ _ c.requires.priced c.in_ok-costs.ensures.costs)
    (rw (
      ← c.deref.ensures.value,
      ← c.tree-tree.ensures.tree,
      ← c.places-places.ensures.places,
      ← c.accounts.ensures.accounts,
      ← c.book.ensures.entries,
      ← c.entries-entries.ensures.entries,
    ) c.in_ok-build.ensures.outlook)

pub returns-clause-top : goal.returns-clause-top
returns-clause-top c =
    let planned = c.book.ensures.planned in
    top_told c.args.project.now c.args.durations.now c.in_ok-costs.costs.items c.in_ok-build.field-0 planned.place_each planned.terms.one_each
    (costs_told _ _ _ _ c.requires.priced c.in_ok-costs.ensures.costs)
    (rw (
      ← c.deref.ensures.value,
      ← c.tree-tree.ensures.tree,
      ← c.places-places.ensures.places,
      ← c.accounts.ensures.accounts,
      ← c.book.ensures.entries,
      ← c.entries-entries.ensures.entries,
    ) c.in_ok-build.ensures.top)
