-- The numbers of a project that edits change, and what a change makes of them.
use Rattle.std.specs.Prelude.{ℕ, List, map, slice_index_or, slice_set}
use Rattle.pc_model.specs.declared.Term.{Term}
use Rattle.pc_model.specs.Schedule.{term_at}
use Rattle.pc_deck.specs.Deck.{Deck}
use Rattle.pc_project.specs.declared.activity.Estimates.{Estimates}
use Rattle.pc_times.specs.Estimates.{expected_time, variance_of}
use Rattle.pc_whatif.specs.declared.edits.ask.Change.{Change}
use Rattle.pc_whatif.specs.declared.edits.ask.Change.TheVariants.{Estimate, Normal, Crash, Slope}
use Rattle.pc_whatif.specs.declared.edits.ask.Trial.{Trial}

-- what each activity may last and costs, and the estimates of how long it lasts, in card order
pub record Plan : Type 0 where
  pub terms : List Term
  pub estimates : List Estimates

-- the estimates of activity a; past the end of the list zeros
abbrev pub nth_estimates : List Estimates → ℕ → Estimates
nth_estimates list a = slice_index_or list a (record { optimistic = 0; likely = 0; pessimistic = 0 })

-- the estimates of the cards of a deck
abbrev pub estimates_in : Deck → List Estimates
estimates_in deck = map (λ act. record { optimistic = act.opt; likely = act.likely; pessimistic = act.pess }) deck.acts

-- a term with a change in place
abbrev pub term_with : Change → Term → Term
term_with (Normal n) term = record term { normal = n }
term_with (Crash n) term = record term { crash = n }
term_with (Slope n) term = record term { slope = n }
term_with (Estimate new) term = term

-- estimates with a change in place
abbrev pub estimates_with : Change → Estimates → Estimates
estimates_with (Estimate new) old = new
estimates_with other old = old

-- the plan with a change of activity a in place; all other numbers stay
abbrev pub plan_with : Change → ℕ → Plan → Plan
plan_with change a plan = record {
  terms = slice_set plan.terms a (term_with change (term_at plan.terms a));
  estimates = slice_set plan.estimates a (estimates_with change (nth_estimates plan.estimates a));
}

-- a term with the three numbers of a trial in place; the cost at the normal duration stays
abbrev pub term_tried : Trial → Term → Term
term_tried trial term = record term { normal = trial.normal; crash = trial.crash; slope = trial.slope }

-- the expected times of activities with these estimates, in sixths of a day, and their variances
abbrev pub expected_times : ℕ → List Estimates → List ℕ
expected_times unit_days estimates = map (λ e. expected_time e.optimistic e.likely e.pessimistic unit_days) estimates

abbrev pub variances : ℕ → List Estimates → List ℕ
variances unit_days estimates = map (λ e. variance_of e.optimistic e.pessimistic unit_days) estimates
