-- Pieces without a fault rise, are few, and leave units to the first slope.
use Rattle.std.proofs.Common.{◌≡◌, ℕ, zero, suc, ◌+◌, ◌<◌, ◌≤◌, List, [], ◌∷◌, ◌++◌, length, take, refl, sym, ◌∙◌, ap, inl, inr, arith, add-one}
use Rattle.std.proofs.Math.Seq.{take-append_seam}
use Rattle.std.proofs.lemmas.Bool.{cases_eq, cases_lt}
use Rattle.std.proofs.lemmas.List.{get_or_append_left, get_or_push, get_or-take, length_push, length-take-le, take-append-le, take_all, take_more}
use Rattle.std.proofs.lemmas.List.Sums.{sum_by-append}
use Rattle.pc_model.specs.declared.PieceRow.{PieceRow}
use Rattle.pc_model.specs.declared.Term.{Term}
use Rattle.pc_model.specs.declared.limits.TheConstants.{MAX_PIECES_EACH}
use Rattle.pc_model.specs.Pieces.{pieces_of, slope_in, units_of, ArePieces}
use Rattle.pc_model.specs.Schedule.{term_at}
use Rattle.pc_crash.specs.Priced.{piece_at}
use Rattle.pc_crash.proofs.PieceLaws.{pieces_of-here, pieces_of-elsewhere}
use Rattle.pc_project.specs.Makes.{IsFlawless}
use Rattle.pc_project.specs.PieceFaults.{pieces_before}

-- where the k-th piece of activity a is among the first n, and that those before it are the first k
record IsPlace (pieces : List PieceRow) (a n k : ℕ) : Type 0 where
  place : ℕ
  below : place < n
  own : (piece_at pieces place).activity ≡ a
  before : pieces_of (take place pieces) a ≡ take k (pieces_of (take n pieces) a)
  here : piece_at (pieces_of (take n pieces) a) k ≡ piece_at pieces place

-- each of them is at some place
place_of : (pieces : List PieceRow) (a n k : ℕ) → n ≤ length pieces → k < length (pieces_of (take n pieces) a) → IsPlace pieces a n k
place_of pieces a zero k within some = absurd (omega arith)
place_of pieces a (suc n) k within some =
    elim (cases_eq (piece_at pieces n).activity a) [
      | inl own ↦ let longer = ap (λ m. pieces_of (take m pieces) a) (sym (add-one n)) ∙ pieces_of-here pieces n a (omega arith) own in
          elim (cases_lt k (length (pieces_of (take n pieces) a))) [
            | inl early ↦ let found = place_of pieces a n k (omega arith) early in record {
              place = found.place;
              below = omega (arith, found.below);
              own = found.own;
              before = found.before ∙ sym (ap (take k) longer ∙ take-append-le k (pieces_of (take n pieces) a) (piece_at pieces n ∷ []) (omega arith));
              here = ap (λ ps. piece_at ps k) longer ∙ get_or_append_left (pieces_of (take n pieces) a) (piece_at pieces n ∷ []) (record { activity = 0; units = 0; slope = 0 }) k early ∙ found.here;
            }
            | inr late ↦ let last : k ≡ length (pieces_of (take n pieces) a) = omega (arith, late, ap length longer, length_push (pieces_of (take n pieces) a) (piece_at pieces n)) in record {
              place = n;
              below = omega arith;
              own = own;
              before = sym (ap (take k) longer ∙ ap (λ j. take j (pieces_of (take n pieces) a ++ piece_at pieces n ∷ [])) last
                  ∙ take-append_seam (pieces_of (take n pieces) a) (piece_at pieces n ∷ []));
              here = ap (λ ps. piece_at ps k) longer ∙ get_or_push (pieces_of (take n pieces) a) (piece_at pieces n) (record { activity = 0; units = 0; slope = 0 }) k (sym last);
            }
          ]
      | inr other ↦ let same = ap (λ m. pieces_of (take m pieces) a) (sym (add-one n)) ∙ pieces_of-elsewhere pieces n a (omega arith) other in
          let found = place_of pieces a n k (omega arith) (omega (arith, ap length same)) in record {
            place = found.place;
            below = omega (arith, found.below);
            own = found.own;
            before = found.before ∙ sym (ap (take k) same);
            here = ap (λ ps. piece_at ps k) same ∙ found.here;
          }
    ]

module _ (terms : List Term) (pieces : List PieceRow) (none : (i : ℕ) → i < length pieces → IsFlawless terms pieces i) (a : ℕ) where
  abbrev own : List PieceRow
  own = pieces_of pieces a

  -- the k-th piece of the activity, in words of the activity's own pieces
  pub record IsFine (k : ℕ) : Type 0 where
    pub few : k < MAX_PIECES_EACH
    pub rising : slope_in (term_at terms a) own k < (piece_at own k).slope
    pub leaving : (term_at terms a).crash + (units_of (take k own) + (piece_at own k).units) < (term_at terms a).normal

  whole : pieces_of (take (length pieces) pieces) a ≡ own
  whole = ap (λ ps. pieces_of ps a) (take_all (length pieces) pieces (omega arith))

  -- the slope before the k-th piece is read of the pieces before it
  slope-before : (term : Term) (xs : List PieceRow) (k : ℕ) → k ≤ length xs → slope_in term (take k xs) k ≡ slope_in term xs k
  slope-before term xs zero within = refl
  slope-before term xs (suc k) within = ap (λ (p : PieceRow). p.slope) (get_or-take (suc k) xs k (record { activity = 0; units = 0; slope = 0 }) (omega arith))

  pub fine : (k : ℕ) → k < length own → IsFine k
  fine k some =
      let at = place_of pieces a (length pieces) k (omega arith) (omega (arith, ap length whole)) in
      let flawless = none at.place at.below in
      let before : pieces_before pieces at.place ≡ take k own = ap (pieces_of (take at.place pieces)) at.own ∙ at.before ∙ ap (take k) whole in
      let here : piece_at own k ≡ piece_at pieces at.place = ap (λ ps. piece_at ps k) (sym whole) ∙ at.here in
      let count : length (pieces_before pieces at.place) ≡ k = ap length before ∙ length-take-le k own (omega arith) in
      let term : term_at terms (piece_at pieces at.place).activity ≡ term_at terms a = ap (term_at terms) at.own in
      let slope : slope_in (term_at terms (piece_at pieces at.place).activity) (pieces_before pieces at.place) (length (pieces_before pieces at.place)) ≡ slope_in (term_at terms a) own k =
      ap (λ t. slope_in t (pieces_before pieces at.place) (length (pieces_before pieces at.place))) term
      ∙ ap (λ ps. slope_in (term_at terms a) ps (length (pieces_before pieces at.place))) before
      ∙ ap (slope_in (term_at terms a) (take k own)) count ∙ slope-before (term_at terms a) own k (omega arith) in
      record {
        few = omega (arith, flawless.few, count);
        rising = omega (arith, flawless.rising, slope, ap (λ (p : PieceRow). p.slope) here);
        leaving = omega (arith, flawless.leaving, ap (λ (t : Term). t.crash) term, ap (λ (t : Term). t.normal) term, ap units_of before, ap (λ (p : PieceRow). p.units) here);
      }

-- pieces without a fault are sound
pub ArePieces-flawless : (terms : List Term) (pieces : List PieceRow) →
    ((i : ℕ) → i < length pieces → (piece_at pieces i).activity < length terms) →
    ((i : ℕ) → i < length pieces → IsFlawless terms pieces i) → ArePieces terms pieces
ArePieces-flawless terms pieces named none = record {
  named = named;
  few = λ a inside. elim (cases_lt MAX_PIECES_EACH (length (pieces_of pieces a))) [
    | inl many ↦ absurd (omega (arith, (fine terms pieces none a MAX_PIECES_EACH many).few))
    | inr few ↦ few
  ];
  rising = λ a k inside some. omega (arith, (fine terms pieces none a k some).rising, ap (slope_in (term_at terms a) (pieces_of pieces a)) (add-one k));
  leaving = λ a inside some. last a (length (pieces_of pieces a)) refl some;
}
  where
    last : (a n : ℕ) → n ≡ length (pieces_of pieces a) → 0 < n → (term_at terms a).crash + units_of (pieces_of pieces a) < (term_at terms a).normal
    last a zero is some = absurd (omega arith)
    last a (suc k) is some =
        omega (
          arith,
          (fine terms pieces none a k (omega arith)).leaving,
          ap units_of (sym (take_all (k + 1) (pieces_of pieces a) (omega arith)) ∙ take_more (pieces_of pieces a) k (record { activity = 0; units = 0; slope = 0 }) (omega arith)),
          sum_by-append (λ (p : PieceRow). p.units) (take k (pieces_of pieces a)) (piece_at (pieces_of pieces a) k ∷ []),
        )
