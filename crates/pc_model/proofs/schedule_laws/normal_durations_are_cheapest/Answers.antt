use Rattle.std.proofs.Common.{refl}
use Rattle.pc_model.specs.Schedule.{normal_of}
use Rattle.pc_model.specs.Cost.{cost_of}
use Rattle.pc_model.proofs.Costs.NormalCost.{all_normal_least_cost}
use Rattle.pc_model.proofs.schedule_laws.normal_durations_are_cheapest.Goals as goal

pub returns : goal.returns
returns c = λ net terms knees times limit range sound are early longest.
    all_normal_least_cost net terms knees times limit (cost_of terms knees (normal_of terms)) range sound are early longest refl
