use Rattle.pc_model.proofs.Costs.LeastCost.{unique, falls}
use Rattle.pc_model.proofs.Costs.Halfway.{convex}
use Rattle.pc_model.proofs.schedule_laws.least_cost_is_convex.Goals as goal

pub returns : goal.returns
returns c = record { unique = unique; falls = falls; convex = convex }
