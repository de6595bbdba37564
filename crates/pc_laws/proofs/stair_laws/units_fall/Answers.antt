use Rattle.pc_laws.proofs.Stairs.Units.{unit-runs, unit-falls, unit-crash, unit-top, unit-over, over-unit}
use Rattle.pc_laws.proofs.stair_laws.units_fall.Goals as goal

pub returns : goal.returns
returns c = record {
  runs = unit-runs;
  falls = unit-falls;
  lowest = unit-crash;
  highest = unit-top;
  behind = unit-over;
  short = over-unit;
}
