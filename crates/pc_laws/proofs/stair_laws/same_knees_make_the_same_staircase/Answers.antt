use Rattle.pc_laws.proofs.Stairs.SameStair.{same-full_reach, same-unit, same-falling, same-on_stair, on_same-stair, same-knee_flow, same-crash_flow}
use Rattle.pc_laws.proofs.stair_laws.same_knees_make_the_same_staircase.Goals as goal

pub returns : goal.returns
returns c = record {
  reach = same-full_reach;
  units = same-unit;
  falling = same-falling;
  on = same-on_stair;
  back = on_same-stair;
  at_knees = same-knee_flow;
  at_crash = same-crash_flow;
}
