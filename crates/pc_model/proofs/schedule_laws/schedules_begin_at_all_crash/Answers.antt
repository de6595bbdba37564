use Rattle.pc_model.proofs.Schedules.Shortest.{schedule_from_shortest, shortest_below_schedule}
use Rattle.pc_model.proofs.schedule_laws.schedules_begin_at_all_crash.Goals as goal

pub returns : goal.returns
returns c = record { exists = schedule_from_shortest; none_below = shortest_below_schedule }
