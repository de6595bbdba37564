use Rattle.std.proofs.Common.{sym, subst, ◌∙◌}
use Rattle.std.specs.Vec.{with_items}
use Rattle.pc_whatif.specs.inside.edits.Editing.{Edits}
use Rattle.pc_whatif.specs.edits.Standing.{IsEditedBy, taken_back}
use Rattle.pc_whatif.proofs.lemmas.edits.InsideLaws.{IsUndone, undo_accepted, undo_fits, undo_some, undone_fields}
use Rattle.pc_whatif.proofs.lemmas.edits.StandingLaws.{IsEditedBy-undone}
use Rattle.pc_whatif.proofs.edits.Edits.undo.Goals.{After-put}
use Rattle.pc_whatif.proofs.edits.Edits.undo.Goals as goal

pub put-requires-clause-fits : goal.put-requires-clause-fits
put-requires-clause-fits c =
    undo_fits c.self.inside c.args.self.now c.self.view_is c.self.invariant c.requires c.in-Some.kept (sym c.pop_back.ensures.value ∙ c.in-Some.is) c.deref_mut.result.now c.deref_mut.ensures.value

made : (c : After-put) → IsUndone c.args.self.now c.in-Some.kept.activity
    (record c.self.inside { net = c.put.new.net; estimates = with_items c.self.inside.estimates c.put.new.estimates; kept = c.pop_back.new.self })
made c =
    undone_fields c.self.inside c.args.self.now c.self.view_is c.self.invariant c.requires c.in-Some.kept (sym c.pop_back.ensures.value ∙ c.in-Some.is)
    c.put.new.net c.put.ensures.net c.deref_mut.result.now c.deref_mut.ensures.value c.put.new.estimates c.put.ensures.estimates c.pop_back.new.self c.pop_back.ensures.items

pub invariant_of-self-2 : goal.invariant_of-self-2
invariant_of-self-2 c = (made (goal.at.invariant_of-self-2 c).After-put).whole

pub returns-clause-accepted : goal.returns-clause-accepted
returns-clause-accepted c =
    undo_accepted c.self.inside c.args.self.now c.self.view_is c.self.invariant c.requires c.in-Some.kept (sym c.pop_back.ensures.value ∙ c.in-Some.is)

pub returns-clause-changed : goal.returns-clause-changed
returns-clause-changed c = (made (goal.at.returns-clause-changed c).After-put).view

pub returns-clause-touched : goal.returns-clause-touched
returns-clause-touched c = (made (goal.at.returns-clause-touched c).After-put).touched

pub returns-clause-standing : goal.returns-clause-standing
returns-clause-standing c =
    λ project journal stands.
    subst (λ (e : Edits). IsEditedBy project (taken_back journal) e.editing) (sym (made (goal.at.returns-clause-standing c).After-put).view)
    (IsEditedBy-undone project journal c.args.self.now.editing
    (undo_some c.self.inside c.args.self.now c.self.view_is c.self.invariant c.requires c.in-Some.kept
    (sym c.pop_back.ensures.value ∙ c.in-Some.is)) stands)
