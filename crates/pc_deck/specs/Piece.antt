-- PIECE,activity,units,slope
use Rattle.std.specs.Prelude.{ℕ, List, [], ◌∷◌}
use Rattle.pc_model.specs.Codes.{text_at}
use Rattle.pc_model.specs.declared.limits.TheConstants.{MAX_DURATION, MAX_SLOPE, MAX_PIECES}
use Rattle.pc_cards.specs.Entry.{Entry, growing, in_both, work_target}
use Rattle.pc_deck.specs.declared.limits.TheConstants.{SMALL_PIECES}
use Rattle.pc_cards.specs.Forms.{number_in}
use Rattle.pc_cards.specs.declared.form.FieldForm.TheVariants as form
use Rattle.pc_deck.specs.declared.kinds.piece.PieceCard.{PieceCard}
use Rattle.pc_deck.specs.declared.kinds.CardLists.{CardLists}
use Rattle.pc_deck.specs.Builders.{listed_kind}

-- the card that a record spells
abbrev pub piece_card : ℕ → List (List ℕ) → PieceCard
piece_card row fields = record { row = row; activity = text_at fields 1; units = number_in (text_at fields 2); slope = number_in (text_at fields 3) }

-- the kind
abbrev pub piece_kind : Entry CardLists
piece_kind =
    record (listed_kind piece_card (λ piece. piece.row)
    (in_both ((2, form.Code) ∷ (3, form.Number 1 MAX_DURATION) ∷ (4, form.Number 0 MAX_SLOPE) ∷ [])) 4
    (λ lists. lists.pieces) (in_both (growing SMALL_PIECES MAX_PIECES)))
    { names = λ sort piece. record { target = work_target sort; code = piece.activity } ∷ [] }
