-- The limits of the terms of time, whatever their order.
-- Here is what no clause of a top call and no law reaches.
use Rattle.std.specs.Prelude.{◌≤◌}
use Rattle.pc_model.specs.declared.TimeTerms.{TimeTerms}
use Rattle.pc_model.specs.declared.limits.TheConstants.{MAX_TERMS}

-- each of the terms of time is within its limit; the bonus may be above the penalty
pub record AreTermsOfTime (terms : TimeTerms) : Type 0 where
  pub overhead : terms.overhead ≤ MAX_TERMS
  pub target : terms.target ≤ MAX_TERMS
  pub bonus : terms.bonus ≤ MAX_TERMS
  pub penalty : terms.penalty ≤ MAX_TERMS
