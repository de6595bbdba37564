-- Which length pays: what a unit of the length costs, against what it saves.
use Rattle.std.specs.Prelude.{ℕ, ◌+◌, ◌-◌, ◌<◌, ◌≤◌, nat_lt, if◌then◌else◌}
use Rattle.pc_model.specs.declared.TimeTerms.{TimeTerms}

-- what the n-th unit of a length costs: the overhead, and the penalty if it is past the target, or else the bonus that
-- it loses
abbrev pub unit_cost : TimeTerms → ℕ → ℕ
unit_cost terms n = terms.overhead + (if nat_lt terms.target n then terms.penalty else terms.bonus)

-- in a segment with this slope it pays to shorten to the stop and no further: if the stop is above the lower end, its
-- last unit costs less than the slope; if it is below the upper end, the next unit costs no less than the slope
pub record IsStop (terms : TimeTerms) (lower upper slope stop : ℕ) : Type 0 where
  pub low : lower ≤ stop
  pub high : stop ≤ upper
  pub saves : lower < stop → unit_cost terms stop < slope
  pub costs : stop < upper → slope ≤ unit_cost terms (stop + 1)

-- one unit more than the length saves this gain
pub record IsGain (curve : ℕ → ℕ → Type 0) (limit gain : ℕ) : Type 0 where
  pub cost : ℕ
  pub here : curve limit (cost + gain)
  pub longer : curve (limit + 1) cost

-- it pays to shorten to the length and no further: its last unit costs less than one unit less would add, and the next
-- unit costs no less than it saves
pub record PaysToStop (curve : ℕ → ℕ → Type 0) (terms : TimeTerms) (shortest longest limit slope gain : ℕ) : Type 0 where
  pub saved : shortest < limit → IsGain curve (limit - 1) slope
  pub saves : shortest < limit → unit_cost terms limit < slope
  pub gained : limit < longest → IsGain curve limit gain
  pub costs : limit < longest → gain ≤ unit_cost terms (limit + 1)
