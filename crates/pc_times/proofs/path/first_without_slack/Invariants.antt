use Rattle.std.proofs.Common.{◌≡◌, ℕ, ◌<◌, slice_index}
use Rattle.pc_times.specs.inside.Passes.{HasNoSlack}
use Rattle.pc_times.proofs.path.first_without_slack.Given as goal

abbrev pub invariant-loop-a : goal.invariant-loop-a
invariant-loop-a l = record {
  end_time : l.longest ≡ slice_index l.times l.net.end;
  none : (j : ℕ) → j < l.a-index → HasNoSlack l.net l.lengths l.times l.tails l.event (slice_index l.a-items j) → ⊥;
}
