use Rattle.std.proofs.Common.{refl}
use Rattle.pc_reports.specs.Schedule.{schedule_text}
use Rattle.pc_edges.proofs.lemmas.page.PageLaws.{Adds-as}
use Rattle.pc_reports.proofs.schedule.write_schedule.Goals as goal

pub put_schedule-requires : goal.put_schedule-requires
put_schedule-requires g c = record {
  timed = rw (c.event_codes.ensures, c.requires.times) c.facts.ensures.event_names.one_each;
  lasting = rw (c.activity_codes.ensures, c.requires.durations) c.facts.ensures.activity_names.one_each;
}

pub returns : goal.returns
returns g c =
    c.push_out.ensures.text _ _ c.without_buffer-page.ensures
    (Adds-as (schedule_text c.args.length c.args.cost c.args.net.now.events c.args.times.now c.args.net.now.activities c.args.durations.now)
    (rw (c.event_codes.ensures, c.activity_codes.ensures) refl) c.put_schedule.ensures)
