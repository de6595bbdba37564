-- The lines of a certificate: what its writer says of a network, of two walks along it, and of the segments of its curve.
use Rattle.std.specs.Prelude.{ℕ, ◌<◌, ◌==◌, List, [], ◌∷◌, ◌++◌, length, map, if◌then◌else◌}
use Rattle.std.specs.List.{flat_map}
use Rattle.pc_model.specs.Codes.{text_at}
use Rattle.pc_laws.specs.Segment.{Segment as Stretch}
use Rattle.pc_crash.specs.Priced.{PricedNetwork, knees_in}
use Rattle.pc_cert.specs.declared.line.CertLine.{CertLine}
use Rattle.pc_cert.specs.declared.line.CertLine.TheVariants.{Head, Normal, Step, Crash, Segment, Event, Act, Close, End}
use Rattle.pc_cert.specs.Lines.{IsSmall}
use Rattle.pc_cert.specs.Listed.{listed}

-- ---- the lines before the segments

-- the version: 2 where the cost of some activity has further pieces
abbrev pub version_of : PricedNetwork → ℕ
version_of net = if length net.pieces == 0 then 1 else 2

-- the first line
abbrev pub first_line : PricedNetwork → CertLine
first_line net = Head (version_of net) net.project net.network.events (length net.network.arcs)

-- a step for each activity of a walk
abbrev pub steps : PricedNetwork → List ℕ → List CertLine
steps net walk = map (λ a. Step (text_at net.activities a)) walk

-- the first line, the normal walk and the crash walk
abbrev pub head_lines : PricedNetwork → List ℕ → List ℕ → List CertLine
head_lines net normal crash = first_line net ∷ Normal ∷ (steps net normal ++ Crash ∷ steps net crash)

-- ---- the lines of a segment

-- the ends of the segment, its cost at the upper end, and its slope
abbrev pub ends_line : Stretch → CertLine
ends_line seg = Segment seg.upper seg.lower seg.cost seg.slope

-- event e, its time at the upper end, and whether it moves
abbrev pub event_line : PricedNetwork → Stretch → ℕ → CertLine
event_line net seg e = Event (text_at net.events e) (seg.time e) (seg.moves e)

-- the flow along activity a at each of its knees, and the one on its crash duration
abbrev pub flows_along : PricedNetwork → Stretch → ℕ → List ℕ
flows_along net seg a = listed ((knees_in net).count a) (seg.flow a) ++ seg.beside a ∷ []

-- activity a, its duration at the upper end, and its flows
abbrev pub act_line : PricedNetwork → Stretch → ℕ → CertLine
act_line net seg a = Act (text_at net.activities a) (seg.duration a) (flows_along net seg a)

-- its ends, all events and all activities in card order, and its last line
abbrev pub segment_lines : PricedNetwork → Stretch → List CertLine
segment_lines net seg =
    ends_line seg ∷ (listed net.network.events (event_line net seg) ++ (listed (length net.network.arcs) (act_line net seg) ++ Close ∷ []))

-- the numbers of a segment have at most 18 digits
pub record HasSmallNumbers (net : PricedNetwork) (seg : Stretch) : Type 0 where
  pub upper : IsSmall seg.upper
  pub lower : IsSmall seg.lower
  pub cost : IsSmall seg.cost
  pub slope : IsSmall seg.slope
  pub times : (e : ℕ) → e < net.network.events → IsSmall (seg.time e)
  pub durations : (a : ℕ) → a < length net.network.arcs → IsSmall (seg.duration a)
  pub flows : (a k : ℕ) → a < length net.network.arcs → k < (knees_in net).count a → IsSmall (seg.flow a k)
  pub beside : (a : ℕ) → a < length net.network.arcs → IsSmall (seg.beside a)

-- ---- the complete certificate

-- the last line
abbrev pub end_lines : List CertLine
end_lines = End ∷ []

-- all lines
abbrev pub document_lines : PricedNetwork → List ℕ → List ℕ → List Stretch → List CertLine
document_lines net normal crash segments = head_lines net normal crash ++ (flat_map (segment_lines net) segments ++ end_lines)
