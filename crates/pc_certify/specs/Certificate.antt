-- The certificate of a network, as it is written.
use Rattle.std.specs.Prelude.{◌≡◌, ℕ, List, length}
use Rattle.pc_model.specs.Schedule.{normals, crashes}
use Rattle.pc_laws.specs.Segment.{Segment}
use Rattle.pc_cert.specs.Text.{text_of}
use Rattle.pc_crash.specs.Priced.{PricedNetwork}
use Rattle.pc_times.specs.Picked.{IsPickedWalk}
use Rattle.pc_check.specs.Texts.{IsCertified}
use Rattle.pc_cert.specs.Document.{document_lines}

-- the text is a certified one of the network; its normal walk is the picked one at normal durations, its crash walk the
-- picked one at crash durations, and its other lines are those of segments
pub record IsCertificate (net : PricedNetwork) (text : List ℕ) : Type 0 where
  pub normal : List ℕ
  pub crash : List ℕ
  pub segments : List Segment
  pub picked_normal : IsPickedWalk net.network (normals net.terms) normal
  pub picked_crash : IsPickedWalk net.network (crashes net.terms) crash
  pub spelled : text ≡ text_of (document_lines net normal crash segments)
  pub certified : IsCertified net text (length segments)
