-- The run of each activity, one piece further.
use Rattle.std.proofs.Common.{◌≡◌, ℕ, ◌+◌, ◌<◌, ◌≤◌, List, [], ◌∷◌, ◌++◌, length, map, take, set, refl, sym, ◌∙◌, ap, subst, ⊎_elim, arith, add-one}
use Rattle.std.proofs.lemmas.Bool.{cases_eq}
use Rattle.std.proofs.lemmas.List.{get_or-map, get_or_push, get_or-set_same, get_or-set_other, length-map, length-set, length_push}
use Rattle.std.proofs.lemmas.List.Sums.{sum_by-append}
use Rattle.pc_model.specs.declared.PieceRow.{PieceRow}
use Rattle.pc_model.specs.declared.Term.{Term}
use Rattle.pc_model.specs.declared.limits.TheConstants.{MAX_DURATION}
use Rattle.pc_model.specs.Pieces.{pieces_of, slope_in, units_of}
use Rattle.pc_model.specs.Schedule.{term_at}
use Rattle.pc_crash.specs.Priced.{piece_at}
use Rattle.pc_crash.proofs.PieceLaws.{pieces_of-here, pieces_of-elsewhere}
use Rattle.pc_deck.specs.declared.kinds.act.ActCard.{ActCard}
use Rattle.pc_project.specs.declared.pieces.Run.{Run}
use Rattle.pc_project.specs.Project.{term_of}
use Rattle.pc_project.specs.inside.Runs.{run_at}
use Rattle.pc_project.proofs.FitLaws.{no_act}
use Rattle.std.specs.Prelude.{◌*◌}

-- the run is that of an activity with a term and these pieces
pub record IsRunOf (term : Term) (own : List PieceRow) (run : Run) : Type 0 where
  pub same_count : run.count ≡ length own
  pub same_slope : run.slope ≡ slope_in term own (length own)
  pub same_units : run.units ≡ units_of own

-- the runs are those of the activities after the first i pieces
pub record AreRuns (terms : List Term) (pieces : List PieceRow) (i : ℕ) (runs : List Run) : Type 0 where
  pub one_each : length runs ≡ length terms
  pub each : (a : ℕ) → a < length terms → IsRunOf (term_at terms a) (pieces_of (take i pieces) a) (run_at runs a)
  pub small : (a : ℕ) → a < length terms → (run_at runs a).units ≤ i * MAX_DURATION

-- an activity before any piece
abbrev first_run : ActCard → Run
first_run act = record { count = 0; slope = act.slope; units = 0 }

-- no piece was read yet
pub AreRuns-start : (acts : List ActCard) (pieces : List PieceRow) (runs : List Run) → runs ≡ map first_run acts → AreRuns (map term_of acts) pieces 0 runs
AreRuns-start acts pieces runs is = record {
  one_each = ap length is ∙ length-map acts first_run ∙ sym (length-map acts term_of);
  each = λ a below.
      let inside : a < length acts = omega (arith, length-map acts term_of) in
      let run = ap (λ rs. run_at rs a) is ∙ get_or-map first_run acts a no_act (record { count = 0; slope = 0; units = 0 }) inside in
      let term = get_or-map term_of acts a no_act (record { normal = 0; crash = 0; cost = 0; slope = 0 }) inside in
      record {
        same_count = ap (λ (r : Run). r.count) run;
        same_slope = ap (λ (r : Run). r.slope) run ∙ sym (ap (λ (t : Term). t.slope) term);
        same_units = ap (λ (r : Run). r.units) run;
      };
  small = λ a below.
      let inside : a < length acts = omega (arith, length-map acts term_of) in
      let run = ap (λ rs. run_at rs a) is ∙ get_or-map first_run acts a no_act (record { count = 0; slope = 0; units = 0 }) inside in
      omega (arith, ap (λ (r : Run). r.units) run);
}

-- one more piece of an activity
IsRunOf-push : (term : Term) (own : List PieceRow) (piece : PieceRow) (run : Run) → IsRunOf term own run →
    IsRunOf term (own ++ piece ∷ []) (record { count = run.count + 1; slope = piece.slope; units = run.units + piece.units })
IsRunOf-push term own piece run is = record {
  same_count = ap (λ n. n + 1) is.same_count ∙ sym (length_push own piece);
  same_slope = sym (ap (slope_in term (own ++ piece ∷ [])) (length_push own piece ∙ add-one (length own))
      ∙ ap (λ (p : PieceRow). p.slope) (get_or_push own piece (record { activity = 0; units = 0; slope = 0 }) (length own) refl));
  same_units = omega (arith, is.same_units, sum_by-append (λ (p : PieceRow). p.units) own (piece ∷ []));
}

-- the next piece goes to the run of its activity
pub AreRuns-more : (terms : List Term) (pieces : List PieceRow) (i x : ℕ) (runs : List Run) (run : Run) → AreRuns terms pieces i runs →
    i < length pieces → (piece_at pieces i).activity ≡ x → x < length terms → run ≡ run_at runs x →
    (piece_at pieces i).units ≤ MAX_DURATION →
    AreRuns terms pieces (i + 1) (set runs x (record { count = run.count + 1; slope = (piece_at pieces i).slope; units = run.units + (piece_at pieces i).units }))
AreRuns-more terms pieces i x runs run are inside is known read short = record {
  one_each = length-set runs x next ∙ are.one_each;
  each = λ a below. ⊎_elim
      (λ same. subst (λ b. IsRunOf (term_at terms b) (pieces_of (take (i + 1) pieces) b) (run_at (set runs x next) b)) (sym same)
      (subst (IsRunOf (term_at terms x) (pieces_of (take (i + 1) pieces) x)) (sym here)
      (subst (λ own. IsRunOf (term_at terms x) own next) (sym (pieces_of-here pieces i x inside is))
      (IsRunOf-push (term_at terms x) (pieces_of (take i pieces) x) (piece_at pieces i) run (subst (IsRunOf (term_at terms x) (pieces_of (take i pieces) x)) (sym read) (are.each x known))))))
      (λ other. subst (IsRunOf (term_at terms a) (pieces_of (take (i + 1) pieces) a)) (sym (get_or-set_other runs x a next none other))
      (subst (λ own. IsRunOf (term_at terms a) own (run_at runs a)) (sym (pieces_of-elsewhere pieces i a inside (λ e. other (sym e ∙ is)))) (are.each a below)))
      (cases_eq a x);
  small = λ a below. ⊎_elim
      (λ same. omega (arith, ap (λ b. (run_at (set runs x next) b).units) same, ap (λ (r : Run). r.units) here, ap (λ (r : Run). r.units) read, are.small x known))
      (λ other. omega (arith, ap (λ (r : Run). r.units) (get_or-set_other runs x a next none other), are.small a below))
      (cases_eq a x);
}
  where
    none : Run
    none = record { count = 0; slope = 0; units = 0 }

    next : Run
    next = record { count = run.count + 1; slope = (piece_at pieces i).slope; units = run.units + (piece_at pieces i).units }

    here : run_at (set runs x next) x ≡ next
    here = get_or-set_same runs x next none (omega (arith, are.one_each))
