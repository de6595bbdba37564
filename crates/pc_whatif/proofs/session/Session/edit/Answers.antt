use Rattle.pc_whatif.proofs.PlanningLaws.{changed_at}
use Rattle.pc_whatif.proofs.session.Session.edit.Goals as goal

pub renew-requires-clause-changed : goal.renew-requires-clause-changed
renew-requires-clause-changed g c =
    changed_at c.self.inside.project.now c.self.inside.edits.editing c.apply.new.self.editing c.in-Ok.a c.in-Ok.ensures.touched
    c.self.inside.region c.self.invariant.edition c.self.invariant.renewed
