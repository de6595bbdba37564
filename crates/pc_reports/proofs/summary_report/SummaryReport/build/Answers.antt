use Rattle.std.proofs.Common.{length, subst}
use Rattle.pc_accounts.specs.declared.book.Entry.{Entry}
use Rattle.pc_accounts.specs.Amounts.{AreEntriesOf, AreMoney}
use Rattle.pc_accounts.specs.inside.Entries.{entry_of_all}
use Rattle.pc_accounts.proofs.WholeLaws.{entries_are_project}
use Rattle.pc_rollup.specs.figures.Summary.{Summary, CountsOnce}
use Rattle.pc_project.specs.Project.{Project}
use Rattle.pc_reports.specs.SummaryText.{ChargesCountOnce}
use Rattle.pc_reports.proofs.summary_report.SummaryReport.build.Goals as goal

pub build-requires : goal.build-requires
build-requires c =
    let figures = c.book.ensures.planned.figures in
    record {
      on_tree = rw (c.tree.ensures.tree, c.accounts.ensures.accounts) (record { known = figures.accounts.known; leaves = figures.accounts.leaves });
      one_each = rw (c.entries-entries.ensures.entries, c.book.ensures.entries, c.accounts.ensures.accounts) figures.entries.one_each;
      small = rw (c.entries-entries.ensures.entries, c.book.ensures.entries) figures.small_entries;
    }

pub returns-clause-summary : goal.returns-clause-summary
returns-clause-summary c =
    rw (← c.tree.ensures.tree, ← c.accounts.ensures.accounts, ← c.book.ensures.entries, ← c.entries-entries.ensures.entries) c.in_ok-build.ensures.summary

-- the sums over the entries of a project are those of its accounts and charges
of_project : (project : Project) (summary : Summary) → AreMoney (length project.accounts) project.charges →
    AreEntriesOf project.accounts project.charges project.togos project.heading.as_of project.entries →
    CountsOnce project.tree project.accounts (entry_of_all project.entries) summary → ChargesCountOnce project summary
of_project project summary known are once =
    subst (λ (whole : Entry). CountsOnce project.tree project.accounts whole summary)
    (entries_are_project project.accounts project.charges project.togos project.heading.as_of project.entries known are)
    once

pub returns-clause-once : goal.returns-clause-once
returns-clause-once c =
    let figures = c.book.ensures.planned.figures in
    of_project c.args.project.now _ figures.figures.charges_known figures.entries
    (rw (← c.tree.ensures.tree, ← c.accounts.ensures.accounts, ← c.book.ensures.entries, ← c.entries-entries.ensures.entries) c.in_ok-build.ensures.once)
