use Rattle.pc_laws.specs.Flow.{whole_flow}
use Rattle.pc_laws.proofs.flow_laws.flow_is_bounded.Goals as goal
use Rattle.pc_laws.proofs.Flows.Bounds.{value_at_most, value_above_crash, flow_at_most}

pub returns : goal.returns
returns c = record {
  by_slopes = value_at_most;
  above_all_crash = value_above_crash;
  by_value = λ net terms knees order f g value a priced ordered flows inside.
      flow_at_most net order (whole_flow knees f g) value priced.range priced.sound ordered flows.conserved flows.leaves a inside;
}
