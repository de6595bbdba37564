use Rattle.std.proofs.Common.{slice_index}
use Rattle.pc_rollup.proofs.lemmas.figures.OutlookLaws.{whole_at_top}
use Rattle.pc_rollup.proofs.figures.outlook.Outlook.build.Goals as goal

pub returns-clause-outlook : goal.returns-clause-outlook
returns-clause-outlook c = record {
  outline = c.in_ok-outline.ensures.outline;
  one_each = c.in_ok-amounts.ensures.one_each;
  each = c.in_ok-amounts.ensures.each;
}

pub returns-clause-top : goal.returns-clause-top
returns-clause-top c =
    whole_at_top c.args.tree.now c.args.places.now (slice_index c.args.costs.now) c.args.accounts.now c.args.entries.now _
    c.in_ok-outline.ensures.ranged c.in_ok-outline.ensures.sound c.requires.work_on_leaves c.requires.on_tree (returns-clause-outlook c)
