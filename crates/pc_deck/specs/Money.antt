-- CHARGE,account,date,amount and TOGO,account,date,amount
use Rattle.std.specs.Prelude.{ℕ, List, [], ◌∷◌, decimal}
use Rattle.pc_model.specs.Codes.{text_at}
use Rattle.pc_model.specs.declared.limits.TheConstants.{MAX_CHARGES, MAX_TOGOS}
use Rattle.pc_days.specs.Calendar.{text_of_day}
use Rattle.pc_cards.specs.Entry.{Entry, growing, in_both, up_to}
use Rattle.pc_deck.specs.declared.limits.TheConstants.{SMALL_CHARGES}
use Rattle.pc_cards.specs.Forms.{money, number_in, day_in}
use Rattle.pc_cards.specs.declared.form.FieldForm.TheVariants as form
use Rattle.pc_deck.specs.declared.kinds.money.MoneyCard.{MoneyCard}
use Rattle.pc_deck.specs.declared.kinds.CardLists.{CardLists}
use Rattle.pc_faults.specs.declared.target.Target.TheVariants.{Account}
use Rattle.pc_deck.specs.Builders.{listed_kind}

-- the card that a record spells
abbrev pub money_card : ℕ → List (List ℕ) → MoneyCard
money_card row fields = record { row = row; account = text_at fields 1; day = day_in (text_at fields 2); amount = number_in (text_at fields 3) }

-- its fields as they are written
abbrev pub written_money : MoneyCard → List (List ℕ)
written_money card = card.account ∷ text_of_day card.day ∷ decimal card.amount ∷ []

-- the kind CHARGE
abbrev pub charge_kind : Entry CardLists
charge_kind =
    record (listed_kind money_card (λ card. card.row)
    (in_both ((2, form.Code) ∷ (3, form.Date) ∷ (4, money) ∷ [])) 4
    (λ lists. lists.charges) (in_both (growing SMALL_CHARGES MAX_CHARGES)))
    { names = λ sort card. record { target = Account; code = card.account } ∷ [] }

-- the kind TOGO: the same card in a list of its own
abbrev pub togo_kind : Entry CardLists
togo_kind = record charge_kind { held = λ lists. lists.togos; limit = in_both (up_to MAX_TOGOS) }
