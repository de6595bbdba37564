-- Rows that are taken as they are read.
use Rattle.std.specs.Prelude.{◌≡◌, ℕ, List, Some, None}
use Rattle.pc_cert.specs.declared.line.CertLine.{CertLine}
use Rattle.pc_cert.specs.declared.place.Place.{Place}
use Rattle.pc_cert.specs.Grammar.{next}
use Rattle.pc_cert.specs.inside.Grammar.{IsRow}
use Rattle.pc_cert.specs.inside.Known.{IsAgain}
use Rattle.pc_crash.specs.Priced.{PricedNetwork}
use Rattle.pc_check.specs.declared.cut.Cut.{Cut}
use Rattle.pc_check.specs.declared.fast.event_rows.EndEvents.{EndEvents}
use Rattle.pc_check.specs.declared.kept.Kept.{Kept}
use Rattle.pc_check.specs.inside.Advances.{AddsToKept}
use Rattle.pc_check.specs.inside.Checking.{Checking}
use Rattle.pc_check.specs.Conditions.{conditions}
use Rattle.pc_check.specs.Failures.{first_failing}
use Rattle.pc_check.specs.inside.Kept.{known_by}

-- a row is at the front of the piece, of `count` bytes with its end, which is allowed in this place and does not fail,
-- and was added to the state
pub record AddsLine (net : PricedNetwork) (piece : List ℕ) (count : ℕ) (before after : Place) (old new : Kept) : Type 0 where
  pub line : CertLine
  pub row : IsRow line
  pub again : IsAgain (Some line) piece count
  pub goes : next before line ≡ Some after
  pub none : first_failing (conditions net (known_by old) line) ≡ None
  pub adds : AddsToKept net line old new

-- the state after `a` activities, with this cut
abbrev pub across_at : Kept → ℕ → Cut → Kept
across_at kept a cut = record kept { tally = record kept.tally { acts = a; cut = cut } }

-- a checker that keeps this and has found no failure
abbrev pub going : PricedNetwork → Kept → Checking
going net kept = record { net = net; kept = kept; fail = None }

-- the start and the end are those of the network
pub record AreNetworkEnds (net : PricedNetwork) (ends : EndEvents) : Type 0 where
  pub start : ends.start ≡ net.network.start
  pub last : ends.end ≡ net.network.end
