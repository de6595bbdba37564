use Rattle.pc_model.proofs.Costs.PieceLaws.{piece_cost, normal_cost, no_pieces_cost, one_knee_cost}
use Rattle.pc_model.proofs.schedule_laws.a_unit_costs_its_slope.Goals as goal

pub returns : goal.returns
returns c = record { piece = piece_cost; normal = normal_cost; plain = no_pieces_cost; one = one_knee_cost }
