use Rattle.pc_tasks.proofs.lemmas.network.Keeping.{drawn_schedule, read_schedule}
use Rattle.pc_tasks.proofs.lemmas.network.Drawing.{drawn}
use Rattle.pc_tasks.proofs.lemmas.network.EventTimes.{event_time}
use Rattle.pc_tasks.specs.network.Arrows.{begin_event}
use Rattle.std.proofs.Common.{length}
use Rattle.pc_tasks.proofs.network.arrows_keep_schedules.Goals as goal

pub returns-clause-drawn : goal.returns-clause-drawn
returns-clause-drawn c terms afters limit among (durations, begins, is) =
    (drawn (length terms) durations, event_time (length terms) limit begins durations, drawn_schedule terms afters limit among durations begins is)

pub returns-clause-read : goal.returns-clause-read
returns-clause-read c terms afters limit among sound (durations, times, is) =
    (durations, (λ i. times (begin_event i)), read_schedule terms afters limit among sound durations times is)
