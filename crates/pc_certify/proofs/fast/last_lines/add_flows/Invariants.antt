use Rattle.std.proofs.Common.{◌≡◌, ◌+◌, ◌*◌, ◌-◌, ◌≤◌, ◌++◌, length}
use Rattle.pc_laws.specs.Stair.{reach, stair_of, knee_flow}
use Rattle.pc_crash.specs.Priced.{knees_in}
use Rattle.pc_cert.specs.Lines.{numbers}
use Rattle.pc_cert.specs.Listed.{listed}
use Rattle.pc_certify.proofs.fast.last_lines.add_flows.Given as goal

abbrev pub invariant-loop-knee : goal.invariant-loop-knee
invariant-loop-knee l = record {
  text : l.spelling ≡ l.fn.spelling ++ numbers (listed l.knee-index (knee_flow (stair_of l.net.terms (knees_in l.net) l.a) l.whole));
  short : length l.spelling ≤ length l.fn.spelling + 21 * l.knee-index;
  rest : l.rest ≡ l.whole - reach (stair_of l.net.terms (knees_in l.net) l.a) l.knee-index;
}
