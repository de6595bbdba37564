-- What was put down to the all-crash length is a certificate.
use Rattle.std.proofs.Common.{ℕ, List, length, refl, ◌∙◌}
use Rattle.pc_model.specs.Network.{Network, IsLongest}
use Rattle.pc_model.proofs.Walks.WalkLaws.{greatest_unique}
use Rattle.pc_cert.specs.Text.{text_of}
use Rattle.pc_crash.specs.Priced.{PricedNetwork}
use Rattle.pc_edges.specs.inside.page.Puts.{Desk}
use Rattle.pc_times.specs.inside.Picked.{LongestWalk}
use Rattle.pc_cert.specs.Document.{document_lines}
use Rattle.pc_certify.specs.Complete.{IsComplete, IsThrough}
use Rattle.pc_check.specs.Texts.{IsCertified}
use Rattle.pc_certify.specs.inside.Walks.{IsPicked, ArePicked}
use Rattle.pc_certify.specs.inside.Descent.{IsPutDown}
use Rattle.pc_certify.specs.Certificate.{IsCertificate}

-- the picked walk has the greatest sum
through-longest : (net : Network) (lengths : List ℕ) (found : LongestWalk) (n : ℕ) → IsPicked net lengths found → IsLongest net lengths n → IsThrough net lengths found.path n
through-longest net lengths found n is longest = record {
  leads = is.through.leads;
  adds = is.through.adds ∙ greatest_unique _ _ _ is.longest longest;
}

module _ (net : PricedNetwork) (normal crash : LongestWalk) (picked : ArePicked net normal crash) (old new : Desk) (down : IsPutDown net normal.path crash.path old new) where
  pub complete : IsComplete net normal.path crash.path down.segments
  complete = record {
    high = down.high;
    low = down.low;
    front = down.front;
    normal_walk = through-longest net.network _ normal down.high picked.at_normal down.longest;
    crash_walk = through-longest net.network _ crash down.low picked.at_crash down.shortest;
  }

  pub certificate : IsCertified net (text_of (document_lines net normal.path crash.path down.segments)) (length down.segments)
      → IsCertificate net (text_of (document_lines net normal.path crash.path down.segments))
  certificate certified = record {
    normal = normal.path;
    crash = crash.path;
    segments = down.segments;
    picked_normal = picked.at_normal.picked;
    picked_crash = picked.at_crash.picked;
    spelled = refl;
    certified = certified;
  }
