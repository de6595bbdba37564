-- The fault of the terms of time (F36).
use Rattle.std.specs.Prelude.{◌≡◌, ◌<◌, Some}
use Rattle.pc_deck.specs.Deck.{Deck}
use Rattle.pc_deck.specs.declared.kinds.terms.TermsCard.{TermsCard}
use Rattle.pc_faults.specs.Faults.{bonus_above_penalty}
use Rattle.pc_faults.specs.declared.fault.Fault.{Fault}

-- the bonus on the TERMS card is above the penalty
pub data HasTermsFault (deck : Deck) (fault : Fault) : Type 0 where
  bonus_above : (card : TermsCard) → deck.terms ≡ Some card → card.penalty < card.bonus → fault ≡ bonus_above_penalty card.row → HasTermsFault deck fault
