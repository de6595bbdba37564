-- The pieces of an activity among the first pieces of all, one further.
use Rattle.std.proofs.Common.{◌≡◌, ◌≢◌, ℕ, ◌+◌, ◌<◌, List, [], ◌∷◌, ◌++◌, length, take, cond, ◌==◌, ◌∙◌, ap, eq-eqb}
use Rattle.std.proofs.lemmas.Bool.{ne_eqb}
use Rattle.std.proofs.lemmas.List.{append-nil}
use Rattle.std.proofs.lemmas.List.Elements.{filter_more}
use Rattle.pc_model.specs.declared.PieceRow.{PieceRow}
use Rattle.pc_model.specs.Pieces.{pieces_of}
use Rattle.pc_crash.specs.Priced.{piece_at}

-- a piece of the activity is its next one
pub pieces_of-here : (pieces : List PieceRow) (i a : ℕ) → i < length pieces → (piece_at pieces i).activity ≡ a →
    pieces_of (take (i + 1) pieces) a ≡ pieces_of (take i pieces) a ++ piece_at pieces i ∷ []
pieces_of-here pieces i a inside is =
    filter_more (λ (piece : PieceRow). piece.activity == a) pieces i (record { activity = 0; units = 0; slope = 0 }) inside
    ∙ ap (λ b. pieces_of (take i pieces) a ++ cond b (piece_at pieces i ∷ []) []) (eq-eqb _ _ is)

-- a piece of another activity is none of its own
pub pieces_of-elsewhere : (pieces : List PieceRow) (i a : ℕ) → i < length pieces → (piece_at pieces i).activity ≢ a → pieces_of (take (i + 1) pieces) a ≡ pieces_of (take i pieces) a
pieces_of-elsewhere pieces i a inside isnt =
    filter_more (λ (piece : PieceRow). piece.activity == a) pieces i (record { activity = 0; units = 0; slope = 0 }) inside
    ∙ ap (λ b. pieces_of (take i pieces) a ++ cond b (piece_at pieces i ∷ []) []) (ne_eqb _ _ isnt)
    ∙ append-nil (pieces_of (take i pieces) a)
