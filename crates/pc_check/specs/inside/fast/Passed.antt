-- What passed last of each activity, and when a line that says the same passes again.
use Rattle.std.specs.Prelude.{◌≡◌, ◌≢◌, ℕ, ◌+◌, ◌-◌, ◌^◌, ◌<◌, ◌≤◌, min, true, false, List, [], length, slice_index, slice_index_or, Option, Some}
use Rattle.pc_model.specs.declared.Knee.{Knee}
use Rattle.pc_model.specs.inside.Pieces.{knee_at}
use Rattle.pc_model.specs.Cost.{activity_cost}
use Rattle.pc_model.specs.Schedule.{normal_of, crash_of}
use Rattle.pc_model.specs.Walk.{from_of, to_of}
use Rattle.pc_laws.specs.Segment.{head_at, span, tail_at}
use Rattle.pc_crash.specs.Priced.{PricedNetwork, knees_in}
use Rattle.pc_crash.specs.declared.crash_net.TheConstants.{MAX_ACTIVITY_COST}
use Rattle.pc_check.specs.inside.Crossings.{EndsMoveAlike}
use Rattle.pc_check.specs.declared.fast.passed.Passed.{Passed}
use Rattle.pc_cert.specs.declared.line.CertLine.{CertLine}
use Rattle.pc_cert.specs.declared.line.CertLine.TheVariants.{Act}
use Rattle.pc_cert.specs.inside.Known.{HasText, IsLineTextOf}
use Rattle.pc_check.specs.Conditions.{has_act_code, is_first, is_one_length, is_slack_in, is_within_capacity}
use Rattle.pc_check.specs.Known.{Known, frame}
use Rattle.pc_check.specs.inside.KneeTests.{flow_sum}

-- the gap is from `low` to `high`
pub record IsGapWithin (low high head tail : ℕ) : Type 0 where
  pub above : tail + low ≤ head
  pub below : head ≤ tail + high

-- none of these gaps is below crash, or above it if there is flow on the crash duration; and at the first `count` knees none is
-- below a knee if the flow is not its rise, or above one if something flows
pub record FitsWithin (crash : ℕ) (knees : List Knee) (flows : List ℕ) (count low high : ℕ) : Type 0 where
  pub room : crash ≤ low
  pub beside : slice_index flows (length knees) ≢ 0 → high ≤ crash
  pub full : (k : ℕ) → k < count → slice_index flows k ≢ (knee_at knees k).rise → (knee_at knees k).at ≤ low
  pub empty : (k : ℕ) → k < count → slice_index flows k ≢ 0 → high ≤ (knee_at knees k).at

-- the line is that of activity a, with this duration and these flows
pub record IsLineOf (net : PricedNetwork) (a duration : ℕ) (flows : List ℕ) (line : Option CertLine) : Type 0 where
  pub code : List ℕ
  pub named : has_act_code net a code flows ≡ true
  pub says : line ≡ Some (Act code duration flows)

-- this has passed of activity a: its line was the one of the bytes, no flow is above its rise, conditions 6 and 11 hold at all gaps from
-- `least` to `most`, and at all gaps from `low` to `high`, at each of which the activity also has this duration; and the flow and the cost are those of
-- the flows and the duration
pub record HasPassed (net : PricedNetwork) (a : ℕ) (passed : Passed) : Type 0 where
  pub line : Option CertLine
  pub own : IsLineOf net a passed.duration passed.flows line
  pub text : IsLineTextOf line passed.text
  pub capacity : is_within_capacity net a passed.flows ≡ true
  pub bare : crash_of net.terms a ≤ passed.least
  pub fits : (head tail : ℕ) → IsGapWithin passed.least passed.most head tail → is_slack_in net head tail a passed.flows ≡ true
  pub room : crash_of net.terms a ≤ passed.low
  pub slack : (head tail : ℕ) → IsGapWithin passed.low passed.high head tail → is_slack_in net head tail a passed.flows ≡ true
  pub lasts : (head tail : ℕ) → IsGapWithin passed.low passed.high head tail → passed.duration ≡ min (normal_of net.terms a) (head - tail)
  pub flow : passed.flow ≡ flow_sum passed.flows
  pub small : passed.flow < 2 ^ 67
  pub cost : passed.cost ≡ activity_cost net.terms (knees_in net) a passed.duration
  pub cheap : passed.cost ≤ MAX_ACTIVITY_COST

-- nothing has passed of activity a, or this
pub record IsPassed (net : PricedNetwork) (a : ℕ) (passed : Passed) : Type 0 where
  pub text : (line : Option CertLine) × IsLineTextOf line passed.text
  pub has : HasText passed.text → HasPassed net a passed
  pub small : passed.flow < 2 ^ 67
  pub cheap : passed.cost ≤ MAX_ACTIVITY_COST

-- what has passed of activity a
abbrev pub passed_at : List Passed → ℕ → Passed
passed_at rows a = slice_index_or rows a (record { text = record { cells = []; len = 0 }; duration = 0; flows = []; flow = 0; cost = 0; least = 0; most = 0; low = 0; high = 0 })

-- what flows along activity a, and what it costs, as its line said that passed last
abbrev pub passed_flow : List Passed → ℕ → ℕ
passed_flow rows a = (passed_at rows a).flow

abbrev pub passed_cost : List Passed → ℕ → ℕ
passed_cost rows a = (passed_at rows a).cost

-- what has passed of each activity
pub record ArePassed (net : PricedNetwork) (rows : List Passed) : Type 0 where
  pub one_each : length rows ≡ length net.network.arcs
  pub each : (a : ℕ) → a < length net.network.arcs → IsPassed net a (passed_at rows a)

-- nothing flows and nothing is spent
pub record IsNothing (net : PricedNetwork) (rows : List Passed) : Type 0 where
  pub flow : (a : ℕ) → a < length net.network.arcs → passed_flow rows a ≡ 0
  pub cost : (a : ℕ) → a < length net.network.arcs → passed_cost rows a ≡ 0

-- what passed last of the next activity passes again: the segment is not the first and has two ends, the activity does not cross the cut,
-- and its gap is within those at which it passed
pub record ComesAgain (net : PricedNetwork) (known : Known) (passed : Passed) : Type 0 where
  pub still : EndsMoveAlike net.network.arcs known.moves known.acts
  pub within : IsGapWithin passed.low passed.high (known.time (to_of net.network.arcs known.acts)) (known.time (from_of net.network.arcs known.acts))
  pub later : is_first known ≡ false
  pub long : is_one_length known ≡ false

-- the same wherever the activity leads: its gap at the upper end is within those at which it passed, and its gap at the lower end is within those
-- that its flows fit
pub record PassesAcross (net : PricedNetwork) (known : Known) (passed : Passed) : Type 0 where
  pub upper : IsGapWithin passed.low passed.high (head_at net.network.arcs (frame known) 0 known.acts) (tail_at net.network.arcs (frame known) 0 known.acts)
  pub lower : IsGapWithin passed.least passed.most
      (head_at net.network.arcs (frame known) (span (frame known)) known.acts) (tail_at net.network.arcs (frame known) (span (frame known)) known.acts)
  pub later : is_first known ≡ false
  pub long : is_one_length known ≡ false
