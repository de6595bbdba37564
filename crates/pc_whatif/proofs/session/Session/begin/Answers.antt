use Rattle.std.proofs.Common.{◌≡◌, ap, sym, subst, arith}
use Rattle.pc_whatif.specs.edits.Editing.{Editing, begun}
use Rattle.pc_whatif.specs.inside.edits.Editing.{Edits}
use Rattle.pc_whatif.specs.inside.Planning.{IsEditionOf, HasCurrentTimes}
use Rattle.pc_whatif.proofs.PlanningLaws.{begun_edition, begun_renewed}
use Rattle.pc_whatif.proofs.session.Session.begin.Goals as goal

pub invariant_of-result : goal.invariant_of-result
invariant_of-result c =
    let project = c.args.project.now in
    let edits = c.in_ok-build-2.ensures.begun in
    let editing : c.in_ok-build-2.field-0.editing ≡ begun project = ap (λ (e : Edits). e.editing) edits in
    record {
      at_rest = ap (λ (e : Edits). e.trial) edits;
      edition = subst (λ (e : Editing). IsEditionOf project e) (sym editing) (begun_edition project);
      renewed = subst (λ (e : Editing). HasCurrentTimes project e c.in_ok-build.field-0) (sym editing)
          (begun_renewed project c.facts.ensures.planned c.in_ok-build.field-0 c.in_ok-build.ensures.fits c.in_ok-build.ensures.standing);
      room = omega (arith, c.in_ok-build.ensures.free);
      page = c.in_ok-with_capacity.ensures;
    }

pub returns-clause-standing : goal.returns-clause-standing
returns-clause-standing c =
    let project = c.args.project.now in
    let editing : c.in_ok-build-2.field-0.editing ≡ begun project = ap (λ (e : Edits). e.editing) c.in_ok-build-2.ensures.begun in
    subst (λ (e : Editing). HasCurrentTimes project e c.in_ok-build.field-0) (sym editing)
    (begun_renewed project c.facts.ensures.planned c.in_ok-build.field-0 c.in_ok-build.ensures.fits c.in_ok-build.ensures.standing)
