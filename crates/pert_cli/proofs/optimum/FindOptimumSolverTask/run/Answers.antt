use Rattle.pert_cli.proofs.OptimumLaws.{optimum-there, optimum-to_come, optimum-with}
use Rattle.pert_cli.proofs.optimum.FindOptimumSolverTask.run.Goals as goal

pub cheapest_at-requires : goal.cheapest_at-requires
cheapest_at-requires g c =
    let first = c.args.solver.now in
    optimum-to_come first.net first c.best-best.new.solver c.terms_of.result c.best-best.result c.best-best.ensures.same c.best-best.ensures.best c.best-best.ensures.there

pub returns : goal.returns
returns g c =
    let first = c.args.solver.now in
    let cheapest = rw c.best-best.ensures.same.net at c.in_ok-schedule.ensures.cheapest in
    optimum-there c.args.project.now first.net c.terms_of.result c.best-best.result c.in_ok-schedule.schedule c.requires.net c.terms_of.ensures.terms
    (optimum-with first.net c.terms_of.result first.shortest first.longest c.best-best.result c.in_ok-schedule.schedule
    c.requires.range c.best-best.ensures.best cheapest c.in_ok-schedule.ensures.length)
