-- The knees of an activity, one piece after another, are those of its pieces.
use Rattle.std.proofs.Common.{◌≡◌, ℕ, zero, suc, ◌+◌, ◌-◌, ◌<◌, ◌≤◌, List, [], ◌∷◌, ◌++◌, length, drop, refl, sym, ◌∙◌, ap, subst, inl, inr, arith, add-one, append_assoc}
use Rattle.std.proofs.lemmas.List.{drop_more, drop_all, append-nil}
use Rattle.std.proofs.lemmas.Bool.{cases_lt}
use Rattle.std.proofs.lemmas.List.Sums.{sum_by-drop_more}
use Rattle.pc_model.specs.declared.Knee.{Knee}
use Rattle.pc_model.specs.declared.PieceRow.{PieceRow}
use Rattle.pc_model.specs.declared.Term.{Term}
use Rattle.pc_model.specs.Pieces.{pieces_of, knees_of, units_of, slope_in, rise_in, ArePieces}
use Rattle.pc_model.specs.inside.Pieces.{knee_at}
use Rattle.pc_model.specs.Schedule.{term_at}
use Rattle.pc_crash.specs.inside.KneeLists.{knee_list, piece_knees, AreKneesOf}
use Rattle.pc_crash.specs.inside.Laid.{IsRising}
use Rattle.pc_crash.specs.Priced.{piece_at}

-- the units of the pieces from one on are its own and those of the ones after it
units_of-next : (pieces : List PieceRow) (i : ℕ) → i < length pieces → units_of (drop i pieces) ≡ (piece_at pieces i).units + units_of (drop (i + 1) pieces)
units_of-next pieces i inside = sum_by-drop_more (λ (piece : PieceRow). piece.units) pieces i (record { activity = 0; units = 0; slope = 0 }) inside

-- the knees of the first i pieces come after those before, and the next one is at a known duration, above it a known slope
pub record IsPushed (term : Term) (pieces : List PieceRow) (before : List Knee) (i next slope : ℕ) (knees : List Knee) : Type 0 where
  pub pushed : knees ++ piece_knees term.crash slope (drop i pieces) ≡ before ++ knee_list term pieces
  pub duration : next ≡ term.crash + units_of (drop i pieces)
  pub rising : IsRising slope (drop i pieces)

-- only the normal duration is there
pub IsPushed-start : (term : Term) (pieces : List PieceRow) (before : List Knee) (next : ℕ) → IsRising term.slope pieces →
    next ≡ term.crash + units_of pieces →
    IsPushed term pieces before 0 next term.slope (before ++ record { at = term.normal; rise = term.slope } ∷ [])
IsPushed-start term pieces before next rising is = record {
  pushed = append_assoc before (record { at = term.normal; rise = term.slope } ∷ []) (piece_knees term.crash term.slope pieces);
  duration = is;
  rising = rising;
}

-- what is left begins with the next piece
pub IsPushed-next : (term : Term) (pieces : List PieceRow) (before : List Knee) (i next slope : ℕ) (knees : List Knee) →
    IsPushed term pieces before i next slope knees → i < length pieces →
    (slope < (piece_at pieces i).slope) × ((piece_at pieces i).units ≤ next)
IsPushed-next term pieces before i next slope knees done inside =
    let first = drop_more pieces i (record { activity = 0; units = 0; slope = 0 }) inside in
    let rising : IsRising slope (piece_at pieces i ∷ drop (i + 1) pieces) = subst (IsRising slope) first done.rising in
    (rising.0, omega (arith, done.duration, units_of-next pieces i inside))

-- one more knee
pub IsPushed-more : (term : Term) (pieces : List PieceRow) (before : List Knee) (i next slope : ℕ) (knees : List Knee) (knee : Knee) →
    IsPushed term pieces before i next slope knees → i < length pieces →
    knee ≡ record { at = next; rise = (piece_at pieces i).slope - slope } →
    IsPushed term pieces before (i + 1) (next - (piece_at pieces i).units) (piece_at pieces i).slope (knees ++ knee ∷ [])
IsPushed-more term pieces before i next slope knees knee done inside is =
    let first = drop_more pieces i (record { activity = 0; units = 0; slope = 0 }) inside in
    let rising : IsRising slope (piece_at pieces i ∷ drop (i + 1) pieces) = subst (IsRising slope) first done.rising in
    let rest = piece_knees term.crash (piece_at pieces i).slope (drop (i + 1) pieces) in
    let here : knee ≡ record {
      at = term.crash + units_of (piece_at pieces i ∷ drop (i + 1) pieces);
      rise = (piece_at pieces i).slope - slope;
    } = is
    ∙ ap (λ d. record { at = d; rise = (piece_at pieces i).slope - slope })
    (done.duration ∙ ap (λ ps. term.crash + units_of ps) first) in
    record {
      pushed = append_assoc knees (knee ∷ []) rest ∙ ap (λ k. knees ++ k ∷ rest) here ∙ ap (λ ps. knees ++ piece_knees term.crash slope ps) (sym first) ∙ done.pushed;
      duration = omega (arith, done.duration, units_of-next pieces i inside);
      rising = rising.1;
    }

-- all knees are there
pub IsPushed-end : (term : Term) (pieces : List PieceRow) (before : List Knee) (i next slope : ℕ) (knees : List Knee) →
    IsPushed term pieces before i next slope knees → length pieces ≤ i → knees ≡ before ++ knee_list term pieces
IsPushed-end term pieces before i next slope knees done past =
    sym (append-nil knees) ∙ ap (λ ps. knees ++ piece_knees term.crash slope ps) (sym (drop_all i pieces past)) ∙ done.pushed

-- there is one for each piece
length-piece_knees : (crash slope : ℕ) (pieces : List PieceRow) → length (piece_knees crash slope pieces) ≡ length pieces
length-piece_knees crash slope [] = refl
length-piece_knees crash slope (piece ∷ pieces) = ap suc (length-piece_knees crash piece.slope pieces)

-- the k-th is where the k-th piece begins
pub piece_knees-at : (crash slope : ℕ) (pieces : List PieceRow) (k : ℕ) → k < length pieces → (knee_at (piece_knees crash slope pieces) k).at ≡ crash + units_of (drop k pieces)
piece_knees-at crash slope [] k inside = absurd (omega arith)
piece_knees-at crash slope (piece ∷ pieces) zero inside = refl
piece_knees-at crash slope (piece ∷ pieces) (suc k) inside = piece_knees-at crash piece.slope pieces k (omega arith)

-- and it rises from the slope before to that of the piece
pub piece_knees-rise : (term : Term) (pieces : List PieceRow) (k : ℕ) → k < length pieces → (knee_at (piece_knees term.crash term.slope pieces) k).rise ≡ rise_in term pieces (suc k)
piece_knees-rise term [] k inside = absurd (omega arith)
piece_knees-rise term (piece ∷ pieces) zero inside = refl
piece_knees-rise term (piece ∷ pieces) (suc zero) inside = piece_knees-rise (record term { slope = piece.slope }) pieces zero (omega arith)
piece_knees-rise term (piece ∷ pieces) (suc (suc k)) inside = piece_knees-rise (record term { slope = piece.slope }) pieces (suc k) (omega arith)

-- the list has one knee more than there are pieces
pub length-knee_list : (term : Term) (pieces : List PieceRow) → length (knee_list term pieces) ≡ length pieces + 1
length-knee_list term pieces = omega (arith, length-piece_knees term.crash term.slope pieces)

-- they are the knees of the activity
pub AreKneesOf-knee_list : (terms : List Term) (pieces : List PieceRow) (a : ℕ) → AreKneesOf (knees_of terms pieces) a (knee_list (term_at terms a) (pieces_of pieces a))
AreKneesOf-knee_list terms pieces a = record {
  count = length-knee_list (term_at terms a) (pieces_of pieces a);
  at = knee;
  rise = rises;
}
  where
    term : Term
    term = term_at terms a

    own : List PieceRow
    own = pieces_of pieces a

    knee : (k : ℕ) → k < length (knee_list term own) → (knee_at (knee_list term own) k).at ≡ (knees_of terms pieces).knee a k
    knee zero inside = refl
    knee (suc k) inside = piece_knees-at term.crash term.slope own k (omega (arith, length-knee_list term own))

    rises : (k : ℕ) → k < length (knee_list term own) → (knee_at (knee_list term own) k).rise ≡ (knees_of terms pieces).rise a k
    rises zero inside = refl
    rises (suc k) inside = piece_knees-rise term own k (omega (arith, length-knee_list term own))

-- pieces whose slopes rise one after another rise as a list
rising_list : (term : Term) (pieces : List PieceRow) → ((k : ℕ) → k < length pieces → slope_in term pieces k < (piece_at pieces k).slope) → IsRising term.slope pieces
rising_list term [] rising = tt
rising_list term (piece ∷ pieces) rising =
    (rising 0 (omega arith), rising_list (record term { slope = piece.slope }) pieces (λ k inside. later k (rising (suc k) (omega arith))))
  where
    later : (k : ℕ) → slope_in term (piece ∷ pieces) (suc k) < (piece_at (piece ∷ pieces) (suc k)).slope → slope_in (record term { slope = piece.slope }) pieces k < (piece_at pieces k).slope
    later zero h = h
    later (suc k) h = h

pub IsRising-from_slopes : (term : Term) (pieces : List PieceRow) → ((k : ℕ) → k < length pieces → slope_in term pieces k < slope_in term pieces (k + 1)) → IsRising term.slope pieces
IsRising-from_slopes term pieces rising =
    rising_list term pieces (λ k inside. omega (arith, rising k inside, ap (slope_in term pieces) (add-one k)))

-- the pieces of an activity and its crash duration are together no longer than its normal one
pub units-most : (terms : List Term) (pieces : List PieceRow) (a : ℕ) → ArePieces terms pieces → a < length terms →
    (term_at terms a).crash ≤ (term_at terms a).normal → (term_at terms a).crash + units_of (pieces_of pieces a) ≤ (term_at terms a).normal
units-most terms pieces a right inside ordered =
    elim (cases_lt 0 (length (pieces_of pieces a))) [
      | inl some ↦ omega (arith, right.leaving a inside some)
      | inr none ↦ omega (arith, ap units_of (nil (pieces_of pieces a) none))
    ]
  where
    nil : (xs : List PieceRow) → length xs ≤ 0 → xs ≡ []
    nil [] h = refl
    nil (x ∷ xs) h = absurd (omega arith)
