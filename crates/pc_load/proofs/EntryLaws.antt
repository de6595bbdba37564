-- The entries of a project are within the limits of a table, and over at its end.
use Rattle.std.proofs.Common.{ℕ, ◌<◌, List, length, slice_index, arith}
use Rattle.std.proofs.lemmas.List.Elements.{All-get_or}
use Rattle.pc_project.specs.Planned.{IsLoad, IsPlanned}
use Rattle.pc_project.specs.Project.{Project}
use Rattle.pc_load.specs.inside.Entries.{AreEarliestTimes}
use Rattle.pc_load.specs.Loading.{load_at, spread_at}
use Rattle.pc_load.specs.inside.Table.{IsOver}
use Rattle.pc_load.proofs.EndLaws.{ends_within}

-- and is over when the project is
pub spread_over : (project : Project) (times : List ℕ) (a amount end : ℕ) → IsPlanned project → AreEarliestTimes project times →
    a < length project.network.arcs → slice_index times project.network.end < end → IsOver (spread_at project times a amount) end
spread_over project times a amount end planned are known whole =
    let within = ends_within project.network project.expected times a planned.sound planned.in_range are.early known in
    (omega arith, omega arith)

-- the l-th load is one of the project
pub load_known : (project : Project) (l : ℕ) → IsPlanned project → l < length project.loads → IsLoad project (load_at project l)
load_known project l planned known =
    All-get_or (IsLoad project) project.loads l (record { activity = 0; resource = 0; quantity = 0 }) known planned.loads
