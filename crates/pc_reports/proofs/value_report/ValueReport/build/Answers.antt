use Rattle.std.proofs.Common.{arith, ◌∙◌, sym}
use Rattle.pc_reports.proofs.value_report.ValueReport.build.Goals as goal

pub build-requires-2 : goal.build-requires-2
build-requires-2 c =
    let planned = c.book.ensures.planned in
    let figures = planned.figures in
    record {
      known = rw (c.tree-tree.ensures.tree, c.places-places.ensures.places) (λ a lt. planned.placed a (omega (arith, planned.place_each)));
      state_each = rw (c.states-states.ensures.states, c.places-places.ensures.places) (figures.states.one_each ∙ sym planned.place_each);
      on_tree = rw (c.tree-tree.ensures.tree, c.accounts.ensures.accounts) (record { known = figures.accounts.known; leaves = figures.accounts.leaves });
      one_each = rw (c.entries-entries.ensures.entries, c.book.ensures.entries, c.accounts.ensures.accounts) figures.entries.one_each;
      small = rw (c.entries-entries.ensures.entries, c.book.ensures.entries) figures.small_entries;
    }

pub returns : goal.returns
returns c = record {
  forecasts = c.in_ok-build.ensures;
  outline = rw (← c.tree-tree.ensures.tree) c.in_ok-outline_of.ensures.outline;
  worth = rw (
    ← c.tree-tree.ensures.tree,
    ← c.places-places.ensures.places,
    ← c.states-states.ensures.states,
    ← c.accounts.ensures.accounts,
    ← c.book.ensures.entries,
    ← c.entries-entries.ensures.entries,
  ) c.in_ok-build-2.ensures;
}
