use Rattle.std.proofs.Common.{◌≡◌, sym, ap, subst, ◌∙◌, arith}
use Rattle.std.proofs.lemmas.List.{get_or_read}
use Rattle.std.specs.Vec.{with_items}
use Rattle.pc_model.specs.Schedule.{term_at}
use Rattle.pc_whatif.specs.edits.Editing.{activity_named, edited_plan, undone}
use Rattle.pc_whatif.specs.inside.edits.Editing.{Edits}
use Rattle.pc_whatif.specs.inside.edits.Inside.{replaced}
use Rattle.pc_whatif.specs.edits.Plans.{nth_estimates}
use Rattle.pc_whatif.specs.edits.Standing.{IsEditedBy, noted}
use Rattle.pc_whatif.proofs.lemmas.edits.InsideLaws.{IsEdited, edited_fields}
use Rattle.pc_whatif.proofs.lemmas.edits.PlanLaws.{no_estimates}
use Rattle.pc_whatif.proofs.lemmas.edits.StandingLaws.{IsEditedBy-edited}
use Rattle.pc_whatif.proofs.edits.Edits.apply.Goals as goal

-- the kept number is the replaced one
was : (c : goal.After-push_back) → c.replaced-was.result ≡ replaced c.args.edit.now.change (term_at c.self.inside.net.terms c.in_ok-a.a) (nth_estimates c.self.inside.estimates.items c.in_ok-a.a)
was c =
    c.replaced-was.ensures
    ∙ (λ i. replaced c.args.edit.now.change (c.term.ensures i)
    (get_or_read c.self.inside.estimates.items c.in_ok-a.a c.index.result.now
    (omega (arith, c.in_ok-a.ensures.known, c.self.invariant.editing.fit.estimates_each)) c.index.ensures no_estimates i))

made : (c : goal.After-push_back) → IsEdited c.args.self.now c.args.edit.now c.in_ok-a.a
    (record c.self.inside { net = c.put.new.net; estimates = with_items c.self.inside.estimates c.put.new.estimates; kept = c.push_back.new.self })
made c =
    edited_fields c.self.inside c.args.self.now c.self.view_is c.self.invariant c.requires c.args.edit.now c.in_ok-a.a c.in_ok-a.ensures.named c.in_ok-a.ensures.known
    c.deref.result.now c.deref.ensures.value c.in_ok-a.ensures.fits c.replaced-was.result (was c)
    c.put.new.net c.put.ensures.net c.deref_mut.result.now c.deref_mut.ensures.value c.put.new.estimates c.put.ensures.estimates c.push_back.new.self c.push_back.ensures.items

pub invariant_of-self : goal.invariant_of-self
invariant_of-self c = (made c).whole

pub returns-clause-changed : goal.returns-clause-changed
returns-clause-changed c = (made c).view

pub returns-clause-undone : goal.returns-clause-undone
returns-clause-undone c = ap (λ (e : Edits). edited_plan (undone e.editing)) (made c).view ∙ (made c).back

pub returns-clause-touched : goal.returns-clause-touched
returns-clause-touched c = (made c).touched

pub returns-clause-standing : goal.returns-clause-standing
returns-clause-standing c =
    λ project journal stands.
    subst (λ (e : Edits). IsEditedBy project (noted journal c.args.edit.now) e.editing) (sym (made c).view)
    (IsEditedBy-edited project journal c.args.self.now.editing c.args.edit.now c.in_ok-a.a
    (ap (λ (e : Edits). activity_named e.editing.net c.args.edit.now.act) (sym c.self.view_is) ∙ c.in_ok-a.ensures.named) stands)
