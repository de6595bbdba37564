-- What the lines of a session mean.
-- Here is what no clause of a top call and no law reaches.
use Rattle.std.specs.Prelude.{◌≡◌, ℕ, ◌+◌, ◌-◌, ◌<◌, ◌≤◌, List, length, slice_set, Option, Some, None}
use Rattle.pc_crash.specs.Priced.{PricedNetwork}
use Rattle.pc_project.specs.Project.{Project}
use Rattle.pc_whatif.specs.declared.edits.ask.Ask.{Ask}
use Rattle.pc_whatif.specs.declared.edits.ask.Ask.TheVariants as ask
use Rattle.pc_whatif.specs.declared.edits.ask.Trial.{Trial}
use Rattle.pc_whatif.specs.declared.edits.reason.Reason.{Reason}
use Rattle.pc_whatif.specs.edits.Editing.{Editing, activity_named}
use Rattle.pc_whatif.specs.edits.Plans.{nth_estimates, expected_times, variances}
use Rattle.pc_whatif.specs.edits.Reading.{ask_of}
use Rattle.pc_whatif.specs.edits.Refusal.{trial_refusal}
use Rattle.pc_whatif.specs.inside.trials.SessionRegion.{SessionRegion, IsRegionFor, IsStanding, expected_by, variance_by}
use Rattle.pc_curve.specs.Range.{IsRange}
use Rattle.pc_whatif.specs.inside.trials.Trials.{looks_over}
use Rattle.pc_whatif.specs.Texts.{ok_text}
use Rattle.pc_whatif.specs.Planning.{net_tried, IsLineAnswer, editing_after}

-- what contracts see of a session: the deck's project, that project as it is edited, and the contents of the session's spans
pub record Planning : Type 0 where
  pub project : Project
  pub editing : Editing
  pub region : SessionRegion

-- ---- what a line leaves

-- the standing times are those of the project as it is edited, from scratch: its expected times and variances, the greatest sums of these to
-- each event and from it to the end, and the critical path
pub record HasCurrentTimes (project : Project) (editing : Editing) (region : SessionRegion) : Type 0 where
  pub fits : IsRegionFor project.network region
  pub standing : IsStanding project.network region
  pub expected : region.expected ≡ expected_times editing.unit_days editing.estimates
  pub variances_are : region.variances ≡ variances editing.unit_days editing.estimates

-- the line was answered with the text, and the session is as after it: its standing times are those of the project as it is now, of its
-- spans only an accepted edit or UNDO changes the lists, and no line changes how many cells are free
pub record IsAnswered (old : Planning) (asked : Option Ask) (text : List ℕ) (new : Planning) : Type 0 where
  pub answer : IsLineAnswer old.project old.editing asked text
  pub project : new.project ≡ old.project
  pub editing : new.editing ≡ editing_after old.editing asked
  pub standing : HasCurrentTimes new.project new.editing new.region
  pub lists : (text ≡ ok_text → ⊥) → new ≡ old
  pub cells : new.region.free ≡ old.region.free

abbrev pub AnswersLine : Planning → List ℕ → List ℕ → Planning → Type 0
AnswersLine old line text new = IsAnswered old (ask_of line) text new

-- ---- how often a line looks

-- a trial of the network looks at most so often by its range
abbrev pub LooksOver : PricedNetwork → ℕ → ℕ → Type 0
LooksOver net before after = (shortest longest : ℕ) → IsRange net shortest longest → after ≤ before + looks_over net (longest - shortest)

-- a TRY looks over the network with its numbers in place, or takes no look if it is refused before that
pub record LooksToTry (editing : Editing) (trial : Trial) (before after : ℕ) : Type 0 where
  pub refused : (reason : Reason) → trial_refusal editing.net editing.estimates trial ≡ Some reason → after ≡ before
  pub tried : (a : ℕ) → trial_refusal editing.net editing.estimates trial ≡ None → activity_named editing.net trial.act ≡ Some a
      → LooksOver (net_tried editing trial a) before after

-- CURVE looks over the network as it is edited, and no line other than these two looks at activities
abbrev pub LooksToAnswer : Editing → Option Ask → ℕ → ℕ → Type 0
LooksToAnswer editing None before after = after ≡ before
LooksToAnswer editing (Some (ask.Edit edit)) before after = after ≡ before
LooksToAnswer editing (Some ask.Undo) before after = after ≡ before
LooksToAnswer editing (Some ask.Times) before after = after ≡ before
LooksToAnswer editing (Some ask.Curve) before after = LooksOver editing.net before after
LooksToAnswer editing (Some (ask.Try trial)) before after = LooksToTry editing trial before after

-- ---- the standing times

-- the project as it is edited is of this project: it has its network and its pieces, and its numbers fit
pub record IsEditionOf (project : Project) (editing : Editing) : Type 0 where
  pub network : editing.net.network ≡ project.network
  pub pieces : editing.net.pieces ≡ project.pieces
  pub unit_days : editing.unit_days ≡ project.heading.unit_days

-- the current expected times and variances are those of the project as it is edited, except those of activity a
pub record IsChangedAt (project : Project) (editing : Editing) (a : ℕ) (region : SessionRegion) : Type 0 where
  pub fits : IsRegionFor project.network region
  pub activity : a < length project.network.arcs
  pub expected : expected_times editing.unit_days editing.estimates ≡ slice_set region.expected a (expected_by editing.unit_days (nth_estimates editing.estimates a))
  pub variances_are : variances editing.unit_days editing.estimates ≡ slice_set region.variances a (variance_by editing.unit_days (nth_estimates editing.estimates a))
