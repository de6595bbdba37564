use Rattle.std.proofs.Common.{ap, arith}
use Rattle.pc_cells.specs.inside.Spans.{free_of}
use Rattle.pc_tests.proofs.curves.solver.Goals as goal

pub begin-requires : goal.begin-requires
begin-requires c =
    let events = rw c.net-shape.ensures.network at c.events.ensures.events in
    let activities = rw c.net-shape.ensures.network at c.activities.ensures.activities in
    omega (arith, ap free_of c.in_ok-with_cells.ensures, events, activities, c.cells_needed-cells.ensures, c.requires)
