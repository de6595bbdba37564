-- The certificate of a network, as it is written.
-- Here is what no clause of a top call and no law reaches.
use Rattle.std.specs.Prelude.{ℕ, ◌+◌, ◌*◌, ◌≤◌, List, length, Option}
use Rattle.pc_cells.specs.inside.Spans.{free_of}
use Rattle.pc_edges.specs.Writes.{Wrote, Stopped}
use Rattle.pc_crash.specs.Priced.{PricedNetwork}
use Rattle.pc_certify.specs.Certificate.{IsCertificate}
use Rattle.pc_certify.specs.declared.certificate.Certificate.{Certificate}
use Rattle.pc_certify.specs.inside.fast.Spelled.{AreActsSpelled, AreEventsSpelled}
use Rattle.pc_certify.specs.inside.Walks.{ArePicked}

-- the certificate is one of the network: its walks are the picked ones, its lines are those of the network's events and activities, and a
-- solver of the network has enough cells
pub record IsReadyToCertify (net : PricedNetwork) (certificate : Certificate) : Type 0 where
  pub walks : ArePicked net certificate.walks.normal certificate.walks.crash
  pub events : AreEventsSpelled net certificate.lines.events.items
  pub acts : AreActsSpelled net certificate.lines.acts.items
  pub cells : 8 * net.network.events + 6 * length net.network.arcs + 2 * length net.pieces + 16 ≤ free_of certificate.region

-- the sink took a complete certificate of the network
abbrev pub TookCertificate : PricedNetwork → Option (List ℕ) → Option (List ℕ) → ℕ → ℕ → Type 0
TookCertificate net old new before after = (text : List ℕ) × IsCertificate net text × Wrote old new before after text

-- a fault of the sink came when it had taken a front of one
abbrev pub TookFrontOfOne : PricedNetwork → Option (List ℕ) → Option (List ℕ) → ℕ → ℕ → Type 0
TookFrontOfOne net old new before after = (text : List ℕ) × IsCertificate net text × Stopped old new before after text
