use Rattle.std.proofs.Common.{subst}
use Rattle.std.specs.Prelude.{◌↔◌, IsSome}
use Rattle.pc_curve.specs.Range.{IsLengthInRange}
use Rattle.pc_whatif.proofs.lemmas.trials.TrialLaws.{looks-of-range}
use Rattle.pc_whatif.proofs.trials.trial.trial_cost.Goals as goal

pub returns-clause-within : goal.returns-clause-within
returns-clause-within g c =
    subst (λ net. IsSome c.cost_within-cost.result ↔ IsLengthInRange net c.args.limit) c.begin-solver.ensures.net c.cost_within-cost.ensures.within

pub returns-clause-counted : goal.returns-clause-counted
returns-clause-counted g c =
    looks-of-range c.args.net.now c.begin-solver.result c.args.steps.now c.cost_within-cost.new.steps
    c.begin-solver.ensures.net c.begin-solver.ensures.shortest c.begin-solver.ensures.longest c.cost_within-cost.ensures.counted
