-- TERMS,overhead,target,bonus,penalty
use Rattle.std.specs.Prelude.{ℕ, List, [], ◌∷◌}
use Rattle.pc_model.specs.Codes.{text_at}
use Rattle.pc_model.specs.declared.limits.TheConstants.{MAX_TERMS}
use Rattle.pc_cards.specs.Entry.{Entry, in_both}
use Rattle.pc_cards.specs.Forms.{number_in}
use Rattle.pc_cards.specs.declared.form.FieldForm.{FieldForm}
use Rattle.pc_cards.specs.declared.form.FieldForm.TheVariants as form
use Rattle.pc_deck.specs.declared.kinds.terms.TermsCard.{TermsCard}
use Rattle.pc_deck.specs.declared.kinds.CardLists.{CardLists}
use Rattle.pc_deck.specs.Builders.{single_kind}

-- one of the four numbers
abbrev pub term : FieldForm
term = form.Number 0 MAX_TERMS

-- the card that a record spells
abbrev pub terms_card : ℕ → List (List ℕ) → TermsCard
terms_card row fields = record {
  row = row;
  overhead = number_in (text_at fields 1);
  target = number_in (text_at fields 2);
  bonus = number_in (text_at fields 3);
  penalty = number_in (text_at fields 4);
}

-- the kind
abbrev pub terms_kind : Entry CardLists
terms_kind =
    single_kind terms_card (λ terms. terms.row)
    (in_both ((2, term) ∷ (3, term) ∷ (4, term) ∷ (5, term) ∷ [])) 5 5
    (λ lists. lists.terms)
