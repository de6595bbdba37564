use Rattle.pc_tests.proofs.figures.is_summary.Goals as goal

pub build-requires : goal.build-requires
build-requires c =
    let figures = c.book.ensures.planned.figures in
    record {
      on_tree = rw (c.tree-tree.ensures.tree, c.accounts.ensures.accounts) (record { known = figures.accounts.known; leaves = figures.accounts.leaves });
      one_each = rw (c.entries-entries.ensures.entries, c.book.ensures.entries, c.accounts.ensures.accounts) figures.entries.one_each;
      small = rw (c.entries-entries.ensures.entries, c.book.ensures.entries) figures.small_entries;
    }
