-- Whether a further piece of an activity has a fault follows from the slope of the first of them and the units of all.
use Rattle.std.proofs.Common.{◌≡◌, ℕ, zero, suc, ◌+◌, ◌-◌, ◌<◌, ◌≤◌, Bool, false, ◌||◌, leb, List, [], ◌∷◌, length, refl, sym, ◌∙◌, ap, add-one, arith}
use Rattle.std.proofs.lemmas.Bool.Decides.{nat_tests}
use Rattle.std.proofs.lemmas.List.Sums.{sum_by-cons}
use Rattle.pc_model.specs.declared.PieceRow.{PieceRow}
use Rattle.pc_model.specs.declared.Term.{Term}
use Rattle.pc_model.specs.Pieces.{knee_in, rise_in, slope_in, units_of}
use Rattle.pc_crash.specs.inside.Laid.{IsRising}
use Rattle.pc_crash.specs.Priced.{piece_at}
use Rattle.pc_whatif.specs.edits.Refusal.{has_flaw}

-- the units of a piece and of those after it
units_of-cons : (piece : PieceRow) (pieces : List PieceRow) → units_of (piece ∷ pieces) ≡ piece.units + units_of pieces
units_of-cons piece pieces = sum_by-cons (λ (p : PieceRow). p.units) piece pieces

-- where the units of one piece are too many, those of all are
more_units : (normal crash before own later all slope last : ℕ) → all ≡ own + later → slope < last →
    (leb normal (crash + (before + own)) || (leb last slope || leb normal (crash + (before + own + later)))) ≡ leb normal (crash + (before + all))
more_units normal crash before own later all slope last is rises = rw is (grind (arith, nat_tests))

-- of pieces whose slopes rise the first slope and the units of all decide
flaw-is : (term : Term) (slope units : ℕ) (piece : PieceRow) (pieces : List PieceRow) → IsRising piece.slope pieces →
    has_flaw term slope units (piece ∷ pieces) ≡ (leb piece.slope slope || leb term.normal (term.crash + (units + units_of (piece ∷ pieces))))
flaw-is term slope units piece [] rising = last_one (leb piece.slope slope) term.normal term.crash units piece.units
  where
    last_one : (b : Bool) (normal crash before own : ℕ) → (b || (leb normal (crash + (before + own)) || false)) ≡ (b || leb normal (crash + (before + (0 + own))))
    last_one b normal crash before own = grind (arith, nat_tests)
flaw-is term slope units piece (next ∷ pieces) rising =
    ap (λ b. leb piece.slope slope || (leb term.normal (term.crash + (units + piece.units)) || b)) (flaw-is term piece.slope (units + piece.units) next pieces rising.1)
    ∙ ap (λ b. leb piece.slope slope || b)
    (more_units term.normal term.crash units piece.units (units_of (next ∷ pieces))
    (units_of (piece ∷ next ∷ pieces)) piece.slope next.slope (units_of-cons piece (next ∷ pieces)) rising.0)

-- the slopes after the first piece rise
rising_behind : (slope : ℕ) (pieces : List PieceRow) →
    ((k : ℕ) → k < length pieces → slope_in
    (record { normal = 0; crash = 0; cost = 0; slope = slope }) pieces k < (piece_at pieces k).slope) → IsRising slope pieces
rising_behind slope [] rising = tt
rising_behind slope (piece ∷ pieces) rising =
    (rising 0 (omega arith), rising_behind piece.slope pieces (λ k inside. later k (rising (suc k) (omega arith))))
  where
    later : (k : ℕ) → slope_in (record { normal = 0; crash = 0; cost = 0; slope = slope }) (piece ∷ pieces)
        (suc k) < (piece_at (piece ∷ pieces) (suc k)).slope →
        slope_in (record { normal = 0; crash = 0; cost = 0; slope = piece.slope }) pieces k < (piece_at pieces k).slope
    later zero h = h
    later (suc k) h = h

-- of the pieces of an activity, whatever its term was when their slopes rose
module _ (old term : Term) (piece : PieceRow) (pieces : List PieceRow)
    (rising : (k : ℕ) → k < length (piece ∷ pieces) → slope_in old (piece ∷ pieces) k < slope_in old (piece ∷ pieces) (k + 1)) where
  plain : 0 + units_of (piece ∷ pieces) ≡ units_of (piece ∷ pieces)
  plain = omega arith

  later : (k : ℕ) → k < length pieces → slope_in (record { normal = 0; crash = 0; cost = 0; slope = piece.slope }) pieces k < (piece_at pieces k).slope
  later zero inside = rising 1 (omega arith)
  later (suc k) inside = omega (arith, rising (suc (suc k)) (omega arith), ap (slope_in old (piece ∷ pieces)) (add-one (suc (suc k))))

  pub has_flaw-is : has_flaw term term.slope 0 (piece ∷ pieces) ≡ (leb piece.slope term.slope || leb term.normal (term.crash + units_of (piece ∷ pieces)))
  has_flaw-is =
      flaw-is term term.slope 0 piece pieces (rising_behind piece.slope pieces later) ∙ ap (λ n. leb piece.slope term.slope || leb term.normal (term.crash + n)) plain

-- without further pieces there is no fault
pub no_flaw : (term : Term) (own : List PieceRow) → length own + 1 < 2 → false ≡ has_flaw term term.slope 0 own
no_flaw term [] few = refl
no_flaw term (piece ∷ pieces) few = absurd (omega arith)

-- and if there are some, the second knee of the activity decides
pub flaw_by : (old term : Term) (own : List PieceRow) (at rise : ℕ) → 1 < length own + 1 → at ≡ knee_in old own 1 → rise ≡ rise_in old own 1
    → ((k : ℕ) → k < length own → slope_in old own k < slope_in old own (k + 1)) → term.crash ≤ term.normal
    → (leb (old.slope + rise) term.slope || leb (term.normal - term.crash) (at - old.crash)) ≡ has_flaw term term.slope 0 own
flaw_by old term [] at rise some at_is rise_is rising ordered = absurd (omega arith)
flaw_by old term (piece ∷ pieces) at rise some at_is rise_is rising ordered =
    (λ i. leb (slope i) term.slope || leb (term.normal - term.crash) (units i))
    ∙ ap (λ b. leb piece.slope term.slope || b) (both term.normal term.crash (units_of (piece ∷ pieces)) ordered)
    ∙ sym (has_flaw-is old term piece pieces rising)
  where
    slope : old.slope + rise ≡ piece.slope
    slope = omega (arith, rise_is, rising 0 (omega arith))

    units : at - old.crash ≡ units_of (piece ∷ pieces)
    units = omega (arith, at_is)

    both : (normal crash taken : ℕ) → crash ≤ normal → leb (normal - crash) taken ≡ leb normal (crash + taken)
    both normal crash taken fits = grind (arith, nat_tests)
