use Rattle.std.proofs.Common.{◌<◌, length, subst, sym}
use Rattle.pc_project.proofs.CardPlaces.{act_there}
use Rattle.pc_project.proofs.project.Project.estimates.Goals as goal

pub bounds-acts-a : goal.bounds-acts-a
bounds-acts-a c = subst (λ cards. c.args.a < length cards) (sym c.acts.ensures.cards) (act_there c.self.inside c.args.self.now c.self.view_is c.self.invariant c.args.a c.requires)
