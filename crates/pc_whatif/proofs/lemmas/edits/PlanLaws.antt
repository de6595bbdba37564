-- Numbers that are accepted fit, and those that are taken back are what they were.
use Rattle.std.proofs.Common.{◌≡◌, ℕ, zero, suc, ◌+◌, ◌<◌, ◌≤◌, Bool, true, false, ◌||◌, cond, leb, List, [], ◌∷◌}
use Rattle.std.proofs.Common.{length, set, get_or, Option, Some, None, refl, sym, ◌∙◌, ap, subst, ⊎_elim, add-one, arith}
use Rattle.std.proofs.lemmas.Bool.{cases_eq, ltb-false}
use Rattle.std.proofs.lemmas.Bool.Decides.{nat_tests}
use Rattle.std.proofs.lemmas.List.{get_or-set_same, get_or-set_other, length-set, set-set, same_lists, get_or_default}
use Rattle.pc_model.specs.declared.PieceRow.{PieceRow}
use Rattle.pc_model.specs.declared.Term.{Term}
use Rattle.pc_model.specs.declared.limits.TheConstants.{MAX_COST, MAX_DURATION, MAX_SLOPE}
use Rattle.pc_model.specs.Network.{Network}
use Rattle.pc_model.specs.Pieces.{ArePieces, pieces_of, slope_in, units_of}
use Rattle.pc_model.specs.Schedule.{AreTerms, term_at}
use Rattle.pc_crash.specs.Terms.{AreWithinLimits}
use Rattle.pc_project.specs.declared.activity.Estimates.{Estimates}
use Rattle.pc_whatif.specs.declared.edits.ask.Change.{Change}
use Rattle.pc_whatif.specs.declared.edits.ask.Change.TheVariants.{Estimate, Normal, Crash, Slope}
use Rattle.pc_whatif.specs.declared.edits.ask.Trial.{Trial}
use Rattle.pc_whatif.specs.declared.edits.reason.Reason.{Reason}
use Rattle.pc_whatif.specs.declared.edits.reason.Reason.TheVariants.{OverLimit, CrashAboveNormal, EstimatesOutOfOrder, PieceFault}
use Rattle.pc_whatif.specs.edits.Plans.{Plan, plan_with, term_with, estimates_with, nth_estimates, term_tried}
use Rattle.pc_whatif.specs.inside.edits.Plans.{AreEstimates, IsFitPlan}
use Rattle.pc_whatif.specs.edits.Refusal.{is_over, is_trial_over, is_crash_above, are_disordered, has_flaw, refusal_of}
use Rattle.pc_whatif.specs.inside.edits.Inside.{replaced}
use Rattle.pc_whatif.proofs.lemmas.edits.FlawLaws.{has_flaw-is}

-- what is past the ends of the lists
abbrev pub no_term : Term
no_term = record { normal = 0; crash = 0; cost = 0; slope = 0 }

abbrev pub no_estimates : Estimates
no_estimates = record { optimistic = 0; likely = 0; pessimistic = 0 }

-- ---- one element of a list

-- an element that is set to what it is
pub set-itself : {A : Type 0} (xs : List A) (a : ℕ) (d : A) → set xs a (get_or xs a d) ≡ xs
set-itself {A = A} xs a d = same_lists (set xs a (get_or xs a d)) xs (length-set xs a (get_or xs a d)) same
  where
    same : (k : ℕ) (e : A) → k < length (set xs a (get_or xs a d)) → get_or (set xs a (get_or xs a d)) k e ≡ get_or xs k e
    same k e inside =
        let within : k < length xs = omega (arith, inside, length-set xs a (get_or xs a d)) in
        ⊎_elim
        (λ is. rw is (get_or-set_same xs a (get_or xs a d) e (omega arith) ∙ get_or_default xs a d e (omega arith)))
        (λ other. get_or-set_other xs a k (get_or xs a d) e other)
        (cases_eq k a)

-- an element that is set and set back
pub set-back : {A : Type 0} (xs : List A) (a : ℕ) (y d : A) → set (set xs a y) a (get_or xs a d) ≡ xs
set-back xs a y d = set-set xs a y (get_or xs a d) ∙ set-itself xs a d

-- ---- the numbers of one activity

-- a term fits its pieces, and none of its numbers is above its limit
pub record IsOwnFit (term : Term) (own : List PieceRow) : Type 0 where
  pub ordered : term.crash ≤ term.normal
  pub short : term.normal ≤ MAX_DURATION
  pub cheap : term.cost ≤ MAX_COST
  pub gentle : term.slope ≤ MAX_SLOPE
  pub rising : 0 < length own → term.slope < slope_in term own 1
  pub leaving : 0 < length own → term.crash + units_of own < term.normal

module _ (net : Network) (terms : List Term) (pieces : List PieceRow) (fit : AreTerms net terms) (limits : AreWithinLimits terms)
    (right : ArePieces terms pieces) (a : ℕ) (inside : a < length terms) (new : Term) (own : IsOwnFit new (pieces_of pieces a)) where
  -- what holds of the term of each activity holds where the new one is in place
  each : (P : ℕ → Term → Type 0) → ((b : ℕ) → b < length terms → P b (term_at terms b)) → P a new → (b : ℕ) → b < length (set terms a new) → P b (term_at (set terms a new) b)
  each P were is b below =
      let within : b < length terms = omega (arith, below, length-set terms a new) in
      ⊎_elim
      (λ same. subst (λ c. P c (term_at (set terms a new) c)) (sym same) (subst (P a) (sym (get_or-set_same terms a new no_term inside)) is))
      (λ other. subst (P b) (sym (get_or-set_other terms a b new no_term other)) (were b within))
      (cases_eq b a)

  pub AreTerms-set : AreTerms net (set terms a new)
  AreTerms-set = record {
    one_each = length-set terms a new ∙ fit.one_each;
    ordered = each (λ b t. t.crash ≤ t.normal) fit.ordered own.ordered;
  }

  pub AreWithinLimits-set : AreWithinLimits (set terms a new)
  AreWithinLimits-set = record {
    few = omega (arith, limits.few, length-set terms a new);
    short = each (λ b t. t.normal ≤ MAX_DURATION) limits.short own.short;
    cheap = each (λ b t. t.cost ≤ MAX_COST) limits.cheap own.cheap;
    gentle = each (λ b t. t.slope ≤ MAX_SLOPE) limits.gentle own.gentle;
  }

  -- after the first of its pieces the slopes are those of the pieces alone
  rises : (k : ℕ) → k < length (pieces_of pieces a) → slope_in new (pieces_of pieces a) k < slope_in new (pieces_of pieces a) (k + 1)
  rises zero some = omega (arith, own.rising some)
  rises (suc k) within = omega (
    arith,
    right.rising a (suc k) inside within,
    ap (slope_in new (pieces_of pieces a)) (add-one (suc k)),
    ap (slope_in (term_at terms a) (pieces_of pieces a)) (add-one (suc k)),
  )

  pub ArePieces-set : ArePieces (set terms a new) pieces
  ArePieces-set = record {
    named = λ i below. omega (arith, right.named i below, length-set terms a new);
    few = λ b below. right.few b (omega (arith, length-set terms a new));
    rising = λ b k below. each (λ c t. (j : ℕ) → j < length (pieces_of pieces c) →
        slope_in t (pieces_of pieces c) j < slope_in t (pieces_of pieces c) (j + 1))
        (λ c within j. right.rising c j within) rises b below k;
    leaving = each (λ c t. 0 < length (pieces_of pieces c) → t.crash + units_of (pieces_of pieces c) < t.normal) right.leaving own.leaving;
  }

-- ---- numbers that no reason refuses

-- a reason that was not given, and those after it
unless_given : (test : Bool) (reason : Reason) (others : Option Reason) → cond test (Some reason) others ≡ None → (test ≡ false) × (others ≡ None)
unless_given true reason others e = absurd cc
unless_given false reason others e = (refl, e)

-- no reason refuses the numbers
pub record HasNone (over : Bool) (term : Term) (estimates : Estimates) (own : List PieceRow) : Type 0 where
  pub within : over ≡ false
  pub ordered : is_crash_above term ≡ false
  pub in_order : are_disordered estimates ≡ false
  pub flawless : has_flaw term term.slope 0 own ≡ false

pub HasNone-of : (over : Bool) (term : Term) (estimates : Estimates) (own : List PieceRow) → refusal_of over term estimates own ≡ None → HasNone over term estimates own
HasNone-of over term estimates own e =
    let not_over = unless_given over OverLimit _ e in
    let not_above = unless_given (is_crash_above term) CrashAboveNormal _ (not_over.1) in
    let not_disordered = unless_given (are_disordered estimates) EstimatesOutOfOrder _ (not_above.1) in
    let not_flawed = unless_given (has_flaw term term.slope 0 own) PieceFault _ (not_disordered.1) in
    record { within = not_over.0; ordered = not_above.0; in_order = not_disordered.0; flawless = not_flawed.0 }

-- then the term fits, where its numbers are within their limits, and the slopes of the pieces rose
pub own_fit : (old term : Term) (own : List PieceRow) → ((k : ℕ) → k < length own → slope_in old own k < slope_in old own (k + 1)) →
    is_crash_above term ≡ false → has_flaw term term.slope 0 own ≡ false → term.normal ≤ MAX_DURATION → term.cost ≤ MAX_COST → term.slope ≤ MAX_SLOPE → IsOwnFit term own
own_fit old term [] rises ordered flawless short cheap gentle = record {
  ordered = ltb-false _ _ ordered;
  short = short;
  cheap = cheap;
  gentle = gentle;
  rising = λ some. absurd (omega arith);
  leaving = λ some. absurd (omega arith);
}
own_fit old term (piece ∷ pieces) rises ordered flawless short cheap gentle = record {
  ordered = ltb-false _ _ ordered;
  short = short;
  cheap = cheap;
  gentle = gentle;
  rising = λ some. below.0;
  leaving = λ some. below.1;
}
  where
    parts : (slope first normal most : ℕ) → (leb first slope || leb normal most) ≡ false → (slope < first) × (most < normal)
    parts slope first normal most h = (grind (arith, nat_tests), grind (arith, nat_tests))

    below : (term.slope < piece.slope) × (term.crash + units_of (piece ∷ pieces) < term.normal)
    below = parts term.slope piece.slope term.normal (term.crash + units_of (piece ∷ pieces)) (sym (has_flaw-is old term piece pieces rises) ∙ flawless)

-- a change that is within its limits leaves a term within them
with_short : (change : Change) (term : Term) → is_over change ≡ false → term.normal ≤ MAX_DURATION → (term_with change term).normal ≤ MAX_DURATION
with_short (Normal n) term within was = ltb-false _ _ within
with_short (Crash n) term within was = was
with_short (Slope n) term within was = was
with_short (Estimate new) term within was = was

with_gentle : (change : Change) (term : Term) → is_over change ≡ false → term.slope ≤ MAX_SLOPE → (term_with change term).slope ≤ MAX_SLOPE
with_gentle (Normal n) term within was = was
with_gentle (Crash n) term within was = was
with_gentle (Slope n) term within was = ltb-false _ _ within
with_gentle (Estimate new) term within was = was

with_cost : (change : Change) (term : Term) → (term_with change term).cost ≡ term.cost
with_cost (Normal n) term = refl
with_cost (Crash n) term = refl
with_cost (Slope n) term = refl
with_cost (Estimate new) term = refl

-- so does a trial
tried_short : (trial : Trial) → is_trial_over trial ≡ false → trial.normal ≤ MAX_DURATION
tried_short trial within = grind (arith, nat_tests)

tried_gentle : (trial : Trial) → is_trial_over trial ≡ false → trial.slope ≤ MAX_SLOPE
tried_gentle trial within = grind (arith, nat_tests)

-- and estimates within them
with_estimates : (change : Change) (old : Estimates) → is_over change ≡ false → AreEstimates old → are_disordered (estimates_with change old) ≡ false → AreEstimates (estimates_with change old)
with_estimates (Normal n) old within was in_order = was
with_estimates (Crash n) old within was in_order = was
with_estimates (Slope n) old within was in_order = was
with_estimates (Estimate new) old within was in_order = record {
  optimistic = grind (arith, nat_tests);
  pessimistic = grind (arith, nat_tests);
  short = grind (arith, nat_tests);
}

-- ---- the plan

-- the numbers that were replaced bring back what was there
term_back : (change : Change) (term : Term) (estimates : Estimates) → term_with (replaced change term estimates) (term_with change term) ≡ term
term_back (Normal n) term estimates = refl
term_back (Crash n) term estimates = refl
term_back (Slope n) term estimates = refl
term_back (Estimate new) term estimates = refl

estimates_back : (change : Change) (term : Term) (estimates : Estimates) → estimates_with (replaced change term estimates) (estimates_with change estimates) ≡ estimates
estimates_back (Normal n) term estimates = refl
estimates_back (Crash n) term estimates = refl
estimates_back (Slope n) term estimates = refl
estimates_back (Estimate new) term estimates = refl

module _ (net : Network) (pieces : List PieceRow) (plan : Plan) (change : Change) (a : ℕ) (fit : IsFitPlan net pieces plan) (known : a < length net.arcs) where
  abbrev old : Term
  old = term_at plan.terms a

  abbrev new : Term
  new = term_with change old

  abbrev before : Estimates
  before = nth_estimates plan.estimates a

  abbrev after : Estimates
  after = estimates_with change before

  inside : a < length plan.terms
  inside = omega (arith, known, fit.terms.one_each)

  there : a < length plan.estimates
  there = omega (arith, known, fit.estimates_each)

  -- the plan with a change that no reason refuses fits
  module _ (none : HasNone (is_over change) new after (pieces_of pieces a)) where
    own : IsOwnFit new (pieces_of pieces a)
    own = own_fit old new (pieces_of pieces a) (λ k. fit.pieces.rising a k inside) none.ordered none.flawless
        (with_short change old none.within (fit.limits.short a inside))
        (omega (arith, with_cost change old, fit.limits.cheap a inside))
        (with_gentle change old none.within (fit.limits.gentle a inside))

    fine : AreEstimates after
    fine = with_estimates change before none.within (fit.estimates a known) none.in_order

    pub IsFitPlan-with : IsFitPlan net pieces (plan_with change a plan)
    IsFitPlan-with = record {
      terms = AreTerms-set net plan.terms pieces fit.terms fit.limits fit.pieces a inside new own;
      limits = AreWithinLimits-set net plan.terms pieces fit.terms fit.limits fit.pieces a inside new own;
      pieces = ArePieces-set net plan.terms pieces fit.terms fit.limits fit.pieces a inside new own;
      estimates_each = length-set plan.estimates a after ∙ fit.estimates_each;
      estimates = λ b below. ⊎_elim
          (λ same. subst (λ c. AreEstimates (nth_estimates (set plan.estimates a after) c)) (sym same) (subst AreEstimates (sym (get_or-set_same plan.estimates a after no_estimates there)) fine))
          (λ other. subst AreEstimates (sym (get_or-set_other plan.estimates a b after no_estimates other)) (fit.estimates b below))
          (cases_eq b a);
    }

  -- what a change took the place of brings back what was there
  abbrev was : Change
  was = replaced change old before

  terms_back : (plan_with was a (plan_with change a plan)).terms ≡ plan.terms
  terms_back =
      ap (λ t. set (set plan.terms a new) a (term_with was t)) (get_or-set_same plan.terms a new no_term inside)
      ∙ ap (λ t. set (set plan.terms a new) a t) (term_back change old before)
      ∙ set-back plan.terms a new no_term

  estimates_again : (plan_with was a (plan_with change a plan)).estimates ≡ plan.estimates
  estimates_again =
      ap (λ t. set (set plan.estimates a after) a (estimates_with was t)) (get_or-set_same plan.estimates a after no_estimates there)
      ∙ ap (λ t. set (set plan.estimates a after) a t) (estimates_back change old before)
      ∙ set-back plan.estimates a after no_estimates

  pub plan-back : plan_with was a (plan_with change a plan) ≡ plan
  plan-back = λ i. record { terms = terms_back i; estimates = estimates_again i }

-- the term of a trial that no reason refuses may be tried
module _ (net : Network) (pieces : List PieceRow) (plan : Plan) (a : ℕ) (fit : IsFitPlan net pieces plan) (known : a < length net.arcs) (trial : Trial)
    (none : HasNone (is_trial_over trial) (term_tried trial (term_at plan.terms a)) (nth_estimates plan.estimates a) (pieces_of pieces a)) where
  in_terms : a < length plan.terms
  in_terms = omega (arith, known, fit.terms.one_each)

  tried_own : IsOwnFit (term_tried trial (term_at plan.terms a)) (pieces_of pieces a)
  tried_own = own_fit (term_at plan.terms a) (term_tried trial (term_at plan.terms a)) (pieces_of pieces a) (λ k. fit.pieces.rising a k in_terms) none.ordered none.flawless
      (tried_short trial none.within) (fit.limits.cheap a in_terms) (tried_gentle trial none.within)

  pub tried_terms : AreTerms net (set plan.terms a (term_tried trial (term_at plan.terms a)))
  tried_terms = AreTerms-set net plan.terms pieces fit.terms fit.limits fit.pieces a in_terms (term_tried trial (term_at plan.terms a)) tried_own

  pub tried_limits : AreWithinLimits (set plan.terms a (term_tried trial (term_at plan.terms a)))
  tried_limits = AreWithinLimits-set net plan.terms pieces fit.terms fit.limits fit.pieces a in_terms (term_tried trial (term_at plan.terms a)) tried_own

  pub tried_pieces : ArePieces (set plan.terms a (term_tried trial (term_at plan.terms a))) pieces
  tried_pieces = ArePieces-set net plan.terms pieces fit.terms fit.limits fit.pieces a in_terms (term_tried trial (term_at plan.terms a)) tried_own
