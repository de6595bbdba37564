-- The lines of a certificate with some segments written, and what has to be written so that a certificate is certified.
use Rattle.std.specs.Prelude.{◌≡◌, ℕ, List, ◌++◌}
use Rattle.std.specs.List.{flat_map}
use Rattle.pc_model.specs.Walk.{IsWalk, walk_sum}
use Rattle.pc_model.specs.Network.{Network}
use Rattle.pc_model.specs.Schedule.{normals, crashes}
use Rattle.pc_laws.specs.Segment.{Segment}
use Rattle.pc_laws.specs.Cover.{IsFront}
use Rattle.pc_crash.specs.Priced.{PricedNetwork, knees_in}
use Rattle.pc_cert.specs.declared.line.CertLine.{CertLine}
use Rattle.pc_cert.specs.Document.{head_lines, segment_lines}

-- the lines of a certificate with these segments written
abbrev pub begun_lines : PricedNetwork → List ℕ → List ℕ → List Segment → List CertLine
begun_lines net normal crash segments = head_lines net normal crash ++ flat_map (segment_lines net) segments

-- the walk leads from the start to the end, and its lengths add up to a number
pub record IsThrough (net : Network) (lengths walk : List ℕ) (sum : ℕ) : Type 0 where
  pub leads : IsWalk net.arcs net.start walk net.end
  pub adds : walk_sum lengths walk ≡ sum

-- complete segments that join, with all durations normal in the first one; a walk whose normal durations add up to the
-- first upper end, and one whose crash durations add up to the last lower end
pub record IsComplete (net : PricedNetwork) (normal crash : List ℕ) (segments : List Segment) : Type 0 where
  pub high : ℕ
  pub low : ℕ
  pub front : IsFront net.network net.terms (knees_in net) segments high low
  pub normal_walk : IsThrough net.network (normals net.terms) normal high
  pub crash_walk : IsThrough net.network (crashes net.terms) crash low
