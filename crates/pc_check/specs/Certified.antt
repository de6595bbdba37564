-- The segments in a certificate's lines, and what lines prove if none of them fails.
use Rattle.std.specs.Prelude.{◌≡◌, ℕ, ◌≤◌, List, map, Some, None}
use Rattle.pc_model.specs.Schedule.{IsAllNormalLength, IsAllCrashLength}
use Rattle.pc_laws.specs.Segment.{Segment}
use Rattle.pc_laws.specs.Cover.{IsCovering, IsReadRight}
use Rattle.pc_cert.specs.declared.line.CertLine.{CertLine}
use Rattle.pc_cert.specs.declared.place.Place.TheVariants.{Start, Ended}
use Rattle.pc_cert.specs.Text.{ran}
use Rattle.pc_crash.specs.Priced.{PricedNetwork, knees_in}
use Rattle.pc_check.specs.Draft.{draft_of}
use Rattle.pc_check.specs.Segments.{segment_in}
use Rattle.pc_check.specs.Failures.{failure_of}

-- the segments that lines say
abbrev pub segments_of : PricedNetwork → List CertLine → List Segment
segments_of net lines = map (segment_in net) (draft_of lines).segments

-- segments that are the complete curve of a network: they are complete and join, the first upper end is the all-normal length and
-- the last lower end the all-crash length, and for every length between them what is read is right: it is a schedule for
-- the length, costs what is said, no schedule for the length costs less, the flow has the slope as its value and the cost
-- as its bound, and the slope is the cut gain
pub record AreCurve (net : PricedNetwork) (segments : List Segment) : Type 0 where
  pub high : ℕ
  pub low : ℕ
  pub covering : IsCovering net.network net.terms (knees_in net) segments high low
  pub longest : IsAllNormalLength net.network net.terms high
  pub shortest : IsAllCrashLength net.network net.terms low
  pub read : (limit : ℕ) → low ≤ limit → limit ≤ high → IsReadRight net.network net.terms (knees_in net) segments limit

-- the lines are those of a complete certificate, and none of them fails
pub record AreCertified (net : PricedNetwork) (lines : List CertLine) : Type 0 where
  pub whole : ran Start lines ≡ Some Ended
  pub none : failure_of net lines ≡ None
