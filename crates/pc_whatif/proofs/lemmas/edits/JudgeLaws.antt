-- What calls that judge numbers find.
use Rattle.std.proofs.Common.{◌≡◌, ℕ, ◌<◌, Bool, List, length, Option, Some, None, sym, ◌∙◌, ap, subst}
use Rattle.std.specs.Option.{option_map_or}
use Rattle.pc_model.specs.declared.PieceRow.{PieceRow}
use Rattle.pc_model.specs.declared.Term.{Term}
use Rattle.pc_model.specs.Pieces.{pieces_of}
use Rattle.pc_model.specs.Schedule.{term_at}
use Rattle.pc_crash.specs.Priced.{PricedNetwork}
use Rattle.pc_project.specs.declared.activity.Estimates.{Estimates}
use Rattle.pc_whatif.specs.declared.edits.ask.Edit.{Edit}
use Rattle.pc_whatif.specs.declared.edits.ask.Trial.{Trial}
use Rattle.pc_whatif.specs.declared.edits.reason.Reason.{Reason}
use Rattle.pc_whatif.specs.declared.edits.reason.Reason.TheVariants.{UnknownActivity}
use Rattle.pc_whatif.specs.edits.Plans.{plan_with, term_with, term_tried, estimates_with, nth_estimates}
use Rattle.pc_whatif.specs.inside.edits.Plans.{IsFitPlan}
use Rattle.pc_whatif.specs.edits.Editing.{activity_named}
use Rattle.pc_whatif.specs.inside.edits.Editing.{MayTry}
use Rattle.pc_whatif.specs.edits.Refusal.{edit_refusal, is_over, is_trial_over, refusal_of, trial_refusal}
use Rattle.pc_whatif.proofs.lemmas.edits.PlanLaws.{HasNone-of, IsFitPlan-with, tried_terms, tried_limits, tried_pieces}

-- the reason that was found of equal numbers
pub reason_same : {over over' : Bool} {term term' : Term} {estimates estimates' : Estimates} (own : List PieceRow) (found : Option Reason) →
    over ≡ over' → term ≡ term' → estimates ≡ estimates' → found ≡ refusal_of over term estimates own → found ≡ refusal_of over' term' estimates' own
reason_same own found o t e is = is ∙ (λ i. refusal_of (o i) (t i) (e i) own)

module _ (net : PricedNetwork) (list : List Estimates)
    (fit : IsFitPlan net.network net.pieces (record { terms = net.terms; estimates = list })) (a : ℕ) (known : a < length net.network.arcs)
    (found : Option Reason) where
  -- for an edit
  module _ (edit : Edit) (named : activity_named net edit.act ≡ Some a)
      (is : found ≡ refusal_of (is_over edit.change) (term_with edit.change (term_at net.terms a)) (estimates_with edit.change (nth_estimates list a)) (pieces_of net.pieces a)) where
    pub edit_refusal-is : edit_refusal net list edit ≡ found
    edit_refusal-is =
        ap (λ o. option_map_or (λ b. refusal_of (is_over edit.change) (term_with edit.change (term_at net.terms b))
        (estimates_with edit.change (nth_estimates list b)) (pieces_of net.pieces b)) o (Some UnknownActivity)) named
        ∙ sym is

    pub edit_fits : found ≡ None → IsFitPlan net.network net.pieces (plan_with edit.change a (record { terms = net.terms; estimates = list }))
    edit_fits none = IsFitPlan-with net.network net.pieces (record { terms = net.terms; estimates = list }) edit.change a fit known (HasNone-of _ _ _ _ (sym is ∙ none))

  -- for a trial
  module _ (trial : Trial) (named : activity_named net trial.act ≡ Some a)
      (is : found ≡ refusal_of (is_trial_over trial) (term_tried trial (term_at net.terms a)) (nth_estimates list a) (pieces_of net.pieces a)) where
    pub trial_refusal-is : trial_refusal net list trial ≡ found
    trial_refusal-is =
        ap (λ o. option_map_or (λ b. refusal_of (is_trial_over trial) (term_tried trial (term_at net.terms b)) (nth_estimates list b) (pieces_of net.pieces b)) o (Some UnknownActivity)) named
        ∙ sym is

    pub MayTry-is : (term : Term) → term ≡ term_tried trial (term_at net.terms a) → found ≡ None → MayTry net (record { activity = a; term = term })
    MayTry-is term same none =
        let clear = HasNone-of _ _ _ _ (sym is ∙ none) in
        subst (λ t. MayTry net (record { activity = a; term = t })) (sym same) (record {
          activity = known;
          terms = tried_terms net.network net.pieces (record { terms = net.terms; estimates = list }) a fit known trial clear;
          limits = tried_limits net.network net.pieces (record { terms = net.terms; estimates = list }) a fit known trial clear;
          pieces = tried_pieces net.network net.pieces (record { terms = net.terms; estimates = list }) a fit known trial clear;
        })
