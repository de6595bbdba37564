use Rattle.std.proofs.Common.{codes, ap}
use Rattle.pc_edges.proofs.lemmas.page.PageLaws.{◌⨾◌, Adds-as}
use Rattle.pc_edges.specs.page.Lines.{word_line}
use Rattle.pc_reports.specs.TimesText.{times_text}
use Rattle.pc_reports.proofs.times_report.put_times.Goals as goal

pub returns : goal.returns
unfolding times_text
returns g c =
    Adds-as _ (ap (word_line (codes "TIMES ")) c.code.ensures) c.put_code.ensures ⨾ c.put_events.ensures ⨾ c.put_activities.ensures ⨾ c.put_path.ensures
