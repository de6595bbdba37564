use Rattle.std.proofs.Common.{sym, ap, ◌∙◌}
use Rattle.pc_cards.specs.inside.Findings.{fault_of_place}
use Rattle.pc_cards.proofs.FindLemmas.{none_then}
use Rattle.pc_cards.proofs.lists.Listed.take.Goals as goal

pub returns-in-Some-clause-fault : goal.returns-in-Some-clause-fault
returns-in-Some-clause-fault g c =
    none_then _ _ _ c.in_ok-card.ensures.whole
    (none_then _ _ _ c.in_ok-card.ensures.fit (ap (fault_of_place c.args.place.now) (sym c.count-before.ensures) ∙ (sym c.fault.ensures ∙ c.in-Some.is)))

pub returns-clause-sound : goal.returns-clause-sound
returns-clause-sound g c =
    none_then _ _ _ c.in_ok-card.ensures.whole
    (none_then _ _ _ c.in_ok-card.ensures.fit (ap (fault_of_place c.args.place.now) (sym c.count-before.ensures) ∙ (sym c.fault.ensures ∙ c.in_default.is)))
