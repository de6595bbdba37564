-- ACCT,code,item,budget,title
use Rattle.std.specs.Prelude.{ℕ, List, [], ◌∷◌}
use Rattle.pc_model.specs.Codes.{text_at}
use Rattle.pc_model.specs.declared.limits.TheConstants.{MAX_ACCOUNTS}
use Rattle.pc_cards.specs.Entry.{Entry, in_both, up_to}
use Rattle.pc_cards.specs.Forms.{money, number_in}
use Rattle.pc_cards.specs.declared.form.FieldForm.TheVariants as form
use Rattle.pc_deck.specs.declared.kinds.acct.AcctCard.{AcctCard}
use Rattle.pc_deck.specs.declared.kinds.CardLists.{CardLists}
use Rattle.pc_faults.specs.declared.target.Target.TheVariants.{Item}
use Rattle.pc_deck.specs.Builders.{named_kind}

-- the card that a record spells
abbrev pub account_card : ℕ → List (List ℕ) → AcctCard
account_card row fields = record {
  row = row;
  code = text_at fields 1;
  item = text_at fields 2;
  budget = number_in (text_at fields 3);
  title = text_at fields 4;
}

-- the kind
abbrev pub account_kind : Entry CardLists
account_kind =
    record (named_kind account_card (λ account. account.row) (λ account. account.code)
    (in_both ((2, form.Code) ∷ (3, form.Code) ∷ (4, money) ∷ (5, form.Title) ∷ [])) 5
    (λ lists. lists.accounts) (in_both (up_to MAX_ACCOUNTS)))
    { names = λ sort account. record { target = Item; code = account.item } ∷ [] }
