use Rattle.pc_edges.proofs.lemmas.page.PageLaws.{◌⨾◌}
use Rattle.pc_reports.proofs.check.put_counts.Goals as goal

pub returns : goal.returns
returns g c =
    c.put_number.ensures ⨾ c.put_number-2.ensures ⨾ c.put_number-3.ensures ⨾ c.put_number-4.ensures
    ⨾ c.put_number-5.ensures ⨾ c.put_number-6.ensures ⨾ c.put_number-7.ensures
