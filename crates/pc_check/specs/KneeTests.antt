-- What is asked of an activity's flow and gap at a knee.
use Rattle.std.specs.Prelude.{ℕ, ◌+◌, ◌==◌, Bool, not, ◌&&◌, ◌||◌, nat_lt}

-- at one knee: if the gap is above it the flow is 0, if it is below it the flow is the rise
abbrev pub is_slack_at_knee : ℕ → ℕ → ℕ → ℕ → ℕ → Bool
is_slack_at_knee head tail knee rise flow =
    (not (nat_lt (tail + knee) head) || flow == 0) && (not (nat_lt head (tail + knee)) || flow == rise)
