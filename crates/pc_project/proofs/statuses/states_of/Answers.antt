use Rattle.std.proofs.Common.{◌∙◌, length, sym, ap, subst, arith}
use Rattle.std.proofs.lemmas.List.{length-map}
use Rattle.pc_faults.specs.declared.kind.Kind.TheVariants.{Status}
use Rattle.pc_accounts.specs.status.Statuses.{AreInOrder, status_at}
use Rattle.pc_faults.specs.inside.First.{IsFirstIn}
use Rattle.pc_project.specs.DisorderFaults.{HasDisorder, as_of_in}
use Rattle.pc_project.specs.Project.{status_of}
use Rattle.pc_project.proofs.DisorderLaws.{all_in_order, first_of_disorder}
use Rattle.pc_project.proofs.FigureLaws.{are_known}
use Rattle.pc_project.proofs.statuses.states_of.Goals as goal

pub build-requires-clause-known : goal.build-requires-clause-known
build-requires-clause-known c =
    let same = c.in_ok-statuses.ensures.items ∙ (c.deref.ensures.value ∙ c.requires.lists.statuses) in
    λ k below.
    omega (
      arith,
      ap (λ statuses. (status_at statuses k).activity) same,
      are_known c.args.cards.now c.acts.ensures.within c.requires.faultless k (omega (arith, below, ap length same)),
      ap length c.acts.ensures.cards,
    )

pub build-requires-clause-few : goal.build-requires-clause-few
build-requires-clause-few c =
    let deck = c.args.cards.now in
    let same = c.in_ok-statuses.ensures.items ∙ (c.deref.ensures.value ∙ c.requires.lists.statuses) in
    omega (arith, ap length same, length-map deck.statuses (status_of deck), (c.acts.ensures.within Status).few)

pub returns-in-Some-clause-first : goal.returns-in-Some-clause-first
returns-in-Some-clause-first c =
    let deck = c.args.cards.now in
    subst (IsFirstIn (HasDisorder deck)) (sym c.earliest.ensures ∙ c.in-Some.is)
    (first_of_disorder deck c.as_of_fault.result c.status_fault.result c.as_of_fault.ensures c.status_fault.ensures)

pub states-requires-clause-in_order : goal.states-requires-clause-in_order
states-requires-clause-in_order c =
    let deck = c.args.cards.now in
    let none = subst (IsFirstIn (HasDisorder deck)) (sym c.earliest.ensures ∙ c.in-None.is)
    (first_of_disorder deck c.as_of_fault.result c.status_fault.result c.as_of_fault.ensures c.status_fault.ensures) in
    subst (AreInOrder deck.project.start_day (as_of_in deck)) (sym (c.in_ok-log.ensures.statuses ∙ c.in_ok-statuses.ensures.items ∙ c.deref.ensures.value ∙ c.requires.lists.statuses))
    (all_in_order deck none (length-map deck.statuses (status_of deck)))

pub returns-clause-ordered : goal.returns-clause-ordered
returns-clause-ordered c =
    let deck = c.args.cards.now in
    subst (IsFirstIn (HasDisorder deck)) (sym c.earliest.ensures ∙ c.in-None.is)
    (first_of_disorder deck c.as_of_fault.result c.status_fault.result c.as_of_fault.ensures c.status_fault.ensures)
