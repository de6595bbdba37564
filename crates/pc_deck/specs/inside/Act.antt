-- ACT,code,from,to,item,opt,likely,pess,normal,crash,cost,slope,title
-- Here is what no clause of a top call and no law reaches.
use Rattle.std.specs.Prelude.{◌≤◌}
use Rattle.pc_model.specs.declared.limits.TheConstants.{MAX_COST, MAX_DURATION, MAX_SLOPE}
use Rattle.pc_deck.specs.declared.kinds.act.ActCard.{ActCard}

-- the numbers of an activity are within their limits
pub record IsActWithin (act : ActCard) : Type 0 where
  pub opt : act.opt ≤ MAX_DURATION
  pub likely : act.likely ≤ MAX_DURATION
  pub pess : act.pess ≤ MAX_DURATION
  pub normal : act.normal ≤ MAX_DURATION
  pub crash : act.crash ≤ MAX_DURATION
  pub cost : act.cost ≤ MAX_COST
  pub slope : act.slope ≤ MAX_SLOPE
