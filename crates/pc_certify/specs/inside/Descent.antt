-- A solver on its way down the curve, and the segments that it gave so far.
-- Here is what no clause of a top call and no law reaches.
use Rattle.std.specs.Prelude.{◌≡◌, ℕ, false, List, All}
use Rattle.pc_model.specs.Schedule.{IsAllNormalLength, IsAllCrashLength}
use Rattle.pc_laws.specs.Segment.{Segment}
use Rattle.pc_laws.specs.Cover.{IsFront}
use Rattle.pc_cert.specs.Text.{text_of, AreWritable}
use Rattle.pc_crash.specs.Priced.{PricedNetwork, knees_in}
use Rattle.pc_edges.specs.inside.page.Puts.{Desk, Adds}
use Rattle.pc_cert.specs.Document.{head_lines, segment_lines}
use Rattle.pc_certify.specs.Complete.{begun_lines}
use Rattle.pc_flow.specs.Courses.{Course, lower_of}

-- the course goes along the curve of the network, from its all-normal length down to its all-crash length
pub record IsAlong (net : PricedNetwork) (course : Course) : Type 0 where
  pub same_net : course.net ≡ net
  pub longest : IsAllNormalLength net.network net.terms course.longest
  pub shortest : IsAllCrashLength net.network net.terms course.shortest

-- no segment was given, and the course is at the all-normal length
pub record IsAtTop (net : PricedNetwork) (course : Course) : Type 0 where
  pub along : IsAlong net course
  pub none : course.given ≡ false
  pub top : lower_of course ≡ course.longest

-- each segment's lines can be written
abbrev pub CanBeSpelled : PricedNetwork → List Segment → Type 0
CanBeSpelled net segments = All (λ seg. AreWritable (segment_lines net seg)) segments

-- a certificate's head was put on a page, and segments from the all-normal length down to the all-crash length
pub record IsPutDown (net : PricedNetwork) (normal crash : List ℕ) (old new : Desk) : Type 0 where
  pub high : ℕ
  pub low : ℕ
  pub longest : IsAllNormalLength net.network net.terms high
  pub shortest : IsAllCrashLength net.network net.terms low
  pub segments : List Segment
  pub front : IsFront net.network net.terms (knees_in net) segments high low
  pub text : Adds old new (text_of (begun_lines net normal crash segments))
  pub head_fits : AreWritable (head_lines net normal crash)
  pub fit : CanBeSpelled net segments
