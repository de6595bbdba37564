use Rattle.std.proofs.Common.{sym, ap, ◌∙◌}
use Rattle.pc_cards.specs.inside.Findings.{fault_of_place, not_alone}
use Rattle.pc_cards.proofs.FindLemmas.{none_then}
use Rattle.pc_cards.proofs.lists.Once.take.Goals as goal

pub returns-in-Some-fault-clause-fault : goal.returns-in-Some-fault-clause-fault
returns-in-Some-fault-clause-fault g c =
    none_then _ _ _ (ap (not_alone c.args.place.now) (sym c.count-before.ensures) ∙ (sym c.second.ensures ∙ c.in_default.is))
    (none_then _ _ _ c.in_ok-card.ensures.whole
    (none_then _ _ _ c.in_ok-card.ensures.fit (ap (fault_of_place c.args.place.now) (sym c.count-before.ensures) ∙ (sym c.fault.ensures ∙ c.in-Some-fault.is))))

pub returns-clause-sound : goal.returns-clause-sound
returns-clause-sound g c =
    none_then _ _ _ (ap (not_alone c.args.place.now) (sym c.count-before.ensures) ∙ (sym c.second.ensures ∙ c.in_default.is))
    (none_then _ _ _ c.in_ok-card.ensures.whole
    (none_then _ _ _ c.in_ok-card.ensures.fit (ap (fault_of_place c.args.place.now) (sym c.count-before.ensures) ∙ (sym c.fault.ensures ∙ c.in_default-fault.is))))
