-- What a project's time costs.
use Rattle.std.specs.Prelude.{ℕ, ℤ, pos, ◌+◌, ◌-◌, ◌*◌, ◌≤◌, ◌-ℤ◌}
use Rattle.pc_model.specs.declared.TimeTerms.{TimeTerms}
use Rattle.pc_model.specs.declared.limits.TheConstants.{MAX_TERMS}

-- the terms of time are within their limit, and the bonus is not above the penalty
pub record AreTimeTerms (terms : TimeTerms) : Type 0 where
  pub overhead : terms.overhead ≤ MAX_TERMS
  pub target : terms.target ≤ MAX_TERMS
  pub bonus : terms.bonus ≤ terms.penalty
  pub penalty : terms.penalty ≤ MAX_TERMS

-- what the time of a length costs: the overhead of each of its units, and the penalty of each unit above the target, less
-- the bonus of each unit below it
abbrev pub time_cost_of : TimeTerms → ℕ → ℤ
time_cost_of terms length = pos (terms.overhead * length + terms.penalty * (length - terms.target)) -ℤ pos (terms.bonus * (terms.target - length))
