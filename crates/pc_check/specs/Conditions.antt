-- The fifteen conditions, as a table: at each line the conditions that are reported there, in the order of their numbers.
use Rattle.std.specs.Prelude.{ℕ, ◌+◌, ◌==◌, Bool, not, ◌&&◌, ◌||◌, nat_lt, nat_le, bytes_eq, List, [], ◌∷◌, length, slice_index, if◌then◌else◌}
use Rattle.pc_model.specs.Codes.{text_at}
use Rattle.pc_model.specs.Network.{Network}
use Rattle.pc_model.specs.Schedule.{normal_of, crash_of, lesser_of}
use Rattle.pc_crash.specs.Priced.{PricedNetwork, knees_in}
use Rattle.pc_cert.specs.declared.line.CertLine.{CertLine}
use Rattle.pc_cert.specs.declared.line.CertLine.TheVariants.{Head, Segment, Event, Act, Close, End}
use Rattle.pc_check.specs.Walks.{is_through}
use Rattle.pc_laws.specs.Segment.{Segment as Stretch, span, head_at, tail_at}
use Rattle.pc_check.specs.Known.{Known, each_below, frame}
use Rattle.pc_check.specs.KneeTests.{is_slack_at_knee}

-- a condition at a line: its number, and whether it holds
pub record Condition : Type 0 where
  pub number : ℕ
  pub holds : Bool

abbrev pub condition : ℕ → Bool → Condition
condition number holds = record { number = number; holds = holds }

-- whether the two ends of the segment are equal
abbrev pub is_one_length : Known → Bool
is_one_length known = known.upper == known.lower

-- whether no segment is complete yet
abbrev pub is_first : Known → Bool
is_first known = known.segments == 0

-- ---- the first line

-- 1: the version, the project's code, and the numbers of events and activities
abbrev pub has_head : PricedNetwork → ℕ → List ℕ → ℕ → ℕ → Bool
has_head net version project events activities =
    version == (if length net.pieces == 0 then 1 else 2)
    && (bytes_eq project net.project && (events == net.network.events && activities == length net.network.arcs))

-- ---- the ends of a segment

-- 15, at a SEGMENT line: the first segment has its lower end below the upper one, or they are equal and its slope is 0;
-- each later one has its upper end at the lower end before it, which is below the upper end before it, and its own lower
-- end below it
abbrev pub has_joined_ends : Known → ℕ → ℕ → ℕ → Bool
has_joined_ends known upper lower slope =
    if is_first known then nat_lt lower upper || (lower == upper && slope == 0)
    else upper == known.lower && (nat_lt known.lower known.upper && nat_lt lower upper)

-- ---- an event

-- whether the code is the i-th of `count` codes
abbrev pub is_code_at : ℕ → List (List ℕ) → ℕ → List ℕ → Bool
is_code_at count codes i code = nat_lt i count && bytes_eq code (text_at codes i)

-- 5: the start has time 0 and rests
abbrev pub is_right_start : Network → ℕ → ℕ → Bool → Bool
is_right_start net e time moves = not (e == net.start) || (time == 0 && not moves)

-- 5: the end has the upper end as its time, and moves unless the segment has one length
abbrev pub is_right_end : Network → Known → ℕ → Bool → Bool
is_right_end net known time moves =
    not (known.events == net.end) || (time == known.upper && (moves || is_one_length known))

-- 15, at an EVENT line: nothing moves in a segment of one length
abbrev pub rests_in_one_length : Known → Bool → Bool
rests_in_one_length known moves = not (is_one_length known && moves)

-- ---- an activity

-- 4, at an ACT line: the code is that of activity a, and it has a flow for each of its knees and one on its crash
-- duration
abbrev pub has_act_code : PricedNetwork → ℕ → List ℕ → List ℕ → Bool
has_act_code net a code flows =
    is_code_at (length net.network.arcs) net.activities a code && length flows == (knees_in net).count a + 1

-- 6, at one of the ends: the gap is at least crash
abbrev pub has_room : PricedNetwork → Stretch → ℕ → ℕ → Bool
has_room net seg fall a = nat_le (tail_at net.network.arcs seg fall a + crash_of net.terms a) (head_at net.network.arcs seg fall a)

-- 7: the duration is the lesser of normal and the gap at the upper end, and in the first segment it is normal
abbrev pub has_duration : PricedNetwork → Known → ℕ → ℕ → Bool
has_duration net known a duration =
    duration == lesser_of net.network net.terms known.time a && (not (is_first known) || duration == normal_of net.terms a)

-- 8: the flow at each knee is at most its capacity, the rise
abbrev pub is_within_capacity : PricedNetwork → ℕ → List ℕ → Bool
is_within_capacity net a flows = each_below ((knees_in net).count a) (λ k. nat_le (slice_index flows k) ((knees_in net).rise a k))

-- 11, at a gap: at each knee, and if the gap is above crash there is no flow on the crash duration
abbrev pub is_slack_in : PricedNetwork → ℕ → ℕ → ℕ → List ℕ → Bool
is_slack_in net head tail a flows =
    each_below ((knees_in net).count a) (λ k. is_slack_at_knee head tail ((knees_in net).knee a k) ((knees_in net).rise a k) (slice_index flows k))
    && (not (nat_lt (tail + crash_of net.terms a) head) || slice_index flows ((knees_in net).count a) == 0)

-- 11, at one of the ends
abbrev pub is_slack : PricedNetwork → Stretch → ℕ → ℕ → List ℕ → Bool
is_slack net seg fall a flows =
    is_slack_in net (head_at net.network.arcs seg fall a) (tail_at net.network.arcs seg fall a) a flows

-- 15, at an ACT line: nothing flows in a segment of one length
abbrev pub is_still_in_one_length : PricedNetwork → Known → ℕ → List ℕ → Bool
is_still_in_one_length net known a flows =
    not (is_one_length known) || each_below ((knees_in net).count a + 1) (λ k. slice_index flows k == 0)

-- ---- the end of a segment

-- 9: what enters an event but the start and the end leaves it
abbrev pub is_conserved : Network → Known → Bool
is_conserved net known =
    each_below net.events (λ e. e == net.start || (e == net.end || known.inflow e == known.outflow e))

-- 13: unless the segment has one length, its cut gain is its slope
abbrev pub has_cut_gain : Known → Bool
has_cut_gain known = is_one_length known || known.forward == known.backward + known.slope

-- 14: unless the segment has one length, some activity stops at its lower end
abbrev pub has_stop : Known → Bool
has_stop known = is_one_length known || known.stops

-- ---- the table

-- the conditions that are reported at a line, in the order of their numbers, given what is known of the lines before it
abbrev pub conditions : PricedNetwork → Known → CertLine → List Condition
conditions net known (Head version project events activities) =
    condition 1 (has_head net version project events activities) ∷ []
conditions net known (Segment upper lower cost slope) =
    -- 2: the normal walk is a through walk whose normal durations sum to the first upper end
    condition 2 (not (is_first known) || is_through net.network upper known.normal)
    ∷ condition 15 (has_joined_ends known upper lower slope)
    ∷ []
conditions net known (Event code time moves) =
    -- 4, at an EVENT line: the code is that of the next event
    condition 4 (is_code_at net.network.events net.events known.events code)
    ∷ condition 5 (is_right_start net.network known.events time moves && is_right_end net.network known time moves)
    ∷ condition 15 (rests_in_one_length known moves)
    ∷ []
conditions net known (Act code duration flows) =
    let a = known.acts in
    let seg = frame known in
    condition 4 (has_act_code net a code flows)
    ∷ condition 6 (has_room net seg 0 a && has_room net seg (span seg) a)
    ∷ condition 7 (has_duration net known a duration)
    ∷ condition 8 (is_within_capacity net a flows)
    ∷ condition 11 (is_slack net seg 0 a flows && is_slack net seg (span seg) a flows)
    ∷ condition 15 (is_still_in_one_length net known a flows)
    ∷ []
conditions net known Close =
    condition 9 (is_conserved net.network known)
    -- 10: the slope leaves the start
    ∷ condition 10 (known.outflow net.network.start == known.slope)
    -- 12: the cost is that of the durations
    ∷ condition 12 (known.spent == known.cost)
    ∷ condition 13 (has_cut_gain known)
    ∷ condition 14 (has_stop known)
    ∷ []
conditions net known End =
    -- 3: the crash walk is a through walk whose crash durations sum to the last lower end
    condition 3 (is_through net.network known.lower known.crash) ∷ []
conditions net known other = []
