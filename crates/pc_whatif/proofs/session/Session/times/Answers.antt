use Rattle.std.proofs.Common.{Some, refl}
use Rattle.pc_whatif.specs.declared.edits.ask.Ask.TheVariants as asks
use Rattle.pc_whatif.specs.inside.Inside.{planning_of}
use Rattle.pc_whatif.specs.Planning.{project_as}
use Rattle.pc_whatif.proofs.AnswerLaws.{stays_as}
use Rattle.pc_whatif.proofs.PlanningLaws.{changed_to}
use Rattle.pc_whatif.proofs.session.Session.times.Goals as goal

pub returns : goal.returns
returns g c =
    let a = c.self.inside in
    let written = c.write_times.ensures.text (project_as a.project.now a.edits.editing) (changed_to a.project.now a.edits.editing a.region c.self.invariant.renewed) in
    (written.0, stays_as c.args.self.now (planning_of a) (Some asks.Times) (written.0) c.self.view_is c.self.invariant.renewed (written.1) refl, written.2)
