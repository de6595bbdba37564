use Rattle.std.proofs.Common.{◌+◌, ◌-◌, ◌≤◌, arith}
use Rattle.pc_whatif.specs.inside.trials.Trials.{looks_over}
use Rattle.pc_whatif.proofs.lemmas.trials.TrialLaws.{looks-of-range}
use Rattle.pc_whatif.proofs.trials.trial.trial_curve.Goals as goal

pub returns-clause-counted : goal.returns-clause-counted
returns-clause-counted g c =
    let solver = c.begin-solver.result in
    let counted : c.write_curve-written.new.steps ≤ c.args.steps.now + looks_over solver.net (solver.longest - solver.shortest) = grind arith in
    looks-of-range c.args.net.now solver c.args.steps.now c.write_curve-written.new.steps
    c.begin-solver.ensures.net c.begin-solver.ensures.shortest c.begin-solver.ensures.longest counted
