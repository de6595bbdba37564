-- The first fault of a card.
use Rattle.std.proofs.Common.{◌≡◌, ◌≢◌, ◌<◌, ◌≤◌, ℕ, Option, Some, sym, ap, ◌∙◌, subst, inr, arith}
use Rattle.pc_deck.specs.Act as act
use Rattle.pc_deck.specs.Act.{HasActFlaw}
use Rattle.pc_deck.specs.Durations.{HasDurationFault, crash_above, unordered}
use Rattle.pc_deck.specs.declared.kinds.act.ActCard.{ActCard}
use Rattle.pc_deck.specs.declared.kinds.terms.TermsCard.{TermsCard}
use Rattle.pc_deck.specs.Deck.{Deck}
use Rattle.pc_faults.specs.Faults.{bonus_above_penalty, one_event}
use Rattle.pc_faults.specs.First.{IsFirstFault, IsNoLater}
use Rattle.pc_faults.specs.declared.fault.Fault.{Fault}
use Rattle.pc_project.specs.TermsFaults.{HasTermsFault, bonus_above}

-- a fault comes no later than another at the same record with no less a number
pub no_later : (fault other known : Fault) → other ≡ known → fault.row ≡ known.row → fault.number ≤ known.number → IsNoLater fault other
no_later fault other known is row number = subst (IsNoLater fault) (sym is) (inr (row, number))

-- the faults of estimates and durations come after those of names
pub durations_later : (row opt likely pess normal crash : ℕ) (fault : Fault) → HasDurationFault row opt likely pess normal crash fault → (fault.row ≡ row) × (17 ≤ fault.number)
durations_later row opt likely pess normal crash fault (unordered not is) = (ap (λ (f : Fault). f.row) is, omega (arith, ap (λ (f : Fault). f.number) is))
durations_later row opt likely pess normal crash fault (crash_above above is) = (ap (λ (f : Fault). f.row) is, omega (arith, ap (λ (f : Fault). f.number) is))

-- so do all faults that an ACT card has by itself
pub act_later : (card : ActCard) (fault : Fault) → HasActFlaw card fault → (fault.row ≡ card.row) × (17 ≤ fault.number)
act_later card fault (act.same_events same is) = (ap (λ (f : Fault). f.row) is, omega (arith, ap (λ (f : Fault). f.number) is))
act_later card fault (act.durations h) = durations_later _ _ _ _ _ _ fault h

-- the first of these
pub act_of_one_event : (card : ActCard) (fault : Fault) → card.from ≡ card.to → fault ≡ one_event card.row card.from → IsFirstFault (HasActFlaw card) fault
act_of_one_event card fault same is = record { holds = act.same_events same is; least = by }
  where
    by : (other : Fault) → HasActFlaw card other → IsNoLater fault other
    by other h =
        let (row, number) = act_later card other h in
        inr (ap (λ (f : Fault). f.row) is ∙ sym row, omega (arith, number, ap (λ (f : Fault). f.number) is))

pub act_of_durations : (card : ActCard) → card.from ≢ card.to → (fault : Fault) →
    IsFirstFault (HasDurationFault card.row card.opt card.likely card.pess card.normal card.crash) fault → IsFirstFault (HasActFlaw card) fault
act_of_durations card apart fault first = record { holds = act.durations first.holds; least = by }
  where
    by : (other : Fault) → HasActFlaw card other → IsNoLater fault other
    by other (act.same_events same is) = absurd (apart same)
    by other (act.durations h) = first.least other h

pub act_of_none : (card : ActCard) → card.from ≢ card.to → ((fault : Fault) → HasDurationFault card.row card.opt card.likely card.pess card.normal card.crash fault → ⊥) →
    (fault : Fault) → HasActFlaw card fault → ⊥
act_of_none card apart none fault (act.same_events same is) = apart same
act_of_none card apart none fault (act.durations h) = none fault h

-- a bonus above the penalty is the first fault of the terms of time
pub first_bonus : (deck : Deck) (card : TermsCard) (fault : Fault) → deck.terms ≡ Some card → card.penalty < card.bonus → fault ≡ bonus_above_penalty card.row → IsFirstFault (HasTermsFault deck) fault
first_bonus deck card fault there above is = record { holds = bonus_above card there above is; least = by }
  where
    by : (other : Fault) → HasTermsFault deck other → IsNoLater fault other
    by other (bonus_above another at higher known) =
        let same : another ≡ card = let both : Some another ≡ Some card = sym at ∙ there in cc in
        no_later fault other (bonus_above_penalty another.row) known (ap (λ (f : Fault). f.row) is ∙ sym (ap (λ (c : TermsCard). c.row) same)) (omega (arith, ap (λ (f : Fault). f.number) is))
