-- What holds of the parts of a log.
use Rattle.std.specs.Prelude.{◌≤◌, true, false, length}
use Rattle.pc_model.specs.declared.limits.TheConstants.{MAX_ACTIVITIES, MAX_STATUSES}
use Rattle.pc_accounts.specs.declared.status.Log.TheInside.{Inside}
use Rattle.pc_accounts.specs.status.Statuses.{AreKnown}
use Rattle.pc_accounts.specs.inside.status.Statuses.{StatusLog}
use Rattle.pc_accounts.specs.inside.status.Firsts.{AreFirsts}

abbrev pub log_from : Inside → StatusLog
log_from a = record { activities = a.activities; statuses = a.statuses.items }

pub record AreLogParts (a : Inside) : Type 0 where
  pub few_activities : a.activities ≤ MAX_ACTIVITIES
  pub few : length a.statuses.items ≤ MAX_STATUSES
  pub known : AreKnown a.activities a.statuses.items
  pub begun : AreFirsts a.activities a.statuses.items false (length a.statuses.items) a.begun.items
  pub ended : AreFirsts a.activities a.statuses.items true (length a.statuses.items) a.ended.items
