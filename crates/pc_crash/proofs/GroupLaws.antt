-- Groups of pieces, one activity or one piece further.
use Rattle.std.proofs.Common.{◌≡◌, ℕ, ◌+◌, ◌<◌, List, [], ◌∷◌, ◌++◌, length, take, drop, length-append, Bool, ◌==◌, sym, ◌∙◌, ap, ⊎_elim, arith, eq-eqb}
use Rattle.std.proofs.lemmas.Bool.{cases_eq, cond-true}
use Rattle.std.proofs.lemmas.List.{get_or_append_left, get_or_push, take-append-drop, length_push}
use Rattle.std.proofs.lemmas.List.Elements.{filter-append}
use Rattle.std.proofs.lemmas.List.Filters.{length-filter_more}
use Rattle.arrayvec.specs.ArrayVec.{ArrayVec}
use Rattle.pc_model.specs.declared.PieceRow.{PieceRow}
use Rattle.pc_model.specs.declared.Term.{Term}
use Rattle.pc_model.specs.declared.limits.TheConstants.{MAX_PIECES_EACH}
use Rattle.pc_model.specs.Pieces.{pieces_of, ArePieces}
use Rattle.pc_crash.specs.inside.Groups.{AreGroups, group_at}
use Rattle.pc_crash.specs.Priced.{piece_at}

-- a group without a piece
abbrev nothing : ArrayVec PieceRow
nothing = record { items = [] }

-- one more activity has no piece yet
pub AreGroups-push : (n : ℕ) (groups : List (ArrayVec PieceRow)) (group : ArrayVec PieceRow) → AreGroups [] n groups → group.items ≡ [] → AreGroups [] (n + 1) (groups ++ group ∷ [])
AreGroups-push n groups group all is = record {
  one_each = length_push groups group ∙ ap (λ k. k + 1) all.one_each;
  each = λ a below. ⊎_elim
      (λ same. ap (λ (g : ArrayVec PieceRow). g.items) (get_or_push groups group nothing a (all.one_each ∙ sym same)) ∙ is)
      (λ other. ap (λ (g : ArrayVec PieceRow). g.items) (get_or_append_left groups (group ∷ []) nothing a (omega (arith, all.one_each))) ∙ all.each a (omega arith))
      (cases_eq a n);
}

-- there is capacity for the next piece in the group of its activity
pub group_room : (terms : List Term) (pieces : List PieceRow) (i n x : ℕ) (groups : List (ArrayVec PieceRow)) → ArePieces terms pieces →
    AreGroups (take i pieces) n groups → i < length pieces → (piece_at pieces i).activity ≡ x → x < n → x < length terms →
    length (group_at groups x) < MAX_PIECES_EACH
group_room terms pieces i n x groups right all inside is known in_terms =
    omega (
      arith,
      ap length (all.each x known),
      length-filter_more of_x pieces i (record { activity = 0; units = 0; slope = 0 }) inside,
      cond-true {A = ℕ} (of_x (piece_at pieces i)) 1 0 (eq-eqb _ _ is),
      ap (λ ps. length (pieces_of ps x)) (take-append-drop (i + 1) pieces),
      ap length (filter-append of_x (take (i + 1) pieces) (drop (i + 1) pieces)),
      length-append (pieces_of (take (i + 1) pieces) x) (pieces_of (drop (i + 1) pieces) x),
      right.few x in_terms,
    )
  where
    of_x : PieceRow → Bool
    of_x piece = piece.activity == x
