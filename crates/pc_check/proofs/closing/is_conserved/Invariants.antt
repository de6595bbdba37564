use Rattle.std.proofs.Common.{◌≡◌, true}
use Rattle.std.specs.Prelude.{◌==◌, ◌||◌}
use Rattle.pc_check.specs.inside.Kept.{known_by}
use Rattle.pc_check.specs.Known.{each_below}
use Rattle.pc_check.proofs.closing.is_conserved.Given as goal

abbrev pub invariant-loop-e : goal.invariant-loop-e
invariant-loop-e l = each_below l.e (λ e. e == l.net.network.start || (e == l.net.network.end || (known_by l.kept).inflow e == (known_by l.kept).outflow e)) ≡ true
