use Rattle.std.proofs.Common.{◌≡◌, take}
use Rattle.pc_certify.specs.inside.Walks.{durations_in}
use Rattle.pc_certify.proofs.walks.durations.Given as goal

abbrev pub invariant-loop-a : goal.invariant-loop-a
invariant-loop-a l = l.durations.items ≡ take l.a (durations_in l.is_crash l.net.terms)
