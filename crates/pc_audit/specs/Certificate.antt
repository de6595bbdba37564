-- Certificates of a deck's project, and the verdicts on them.
use Rattle.std.specs.Prelude.{◌≡◌, ℕ, List, [], ◌∷◌, ◌++◌, codes, decimal, Option}
use Rattle.pc_crash.specs.Priced.{PricedNetwork}
use Rattle.pc_check.specs.declared.checker.Verdict.{Verdict}
use Rattle.pc_check.specs.declared.checker.Verdict.TheVariants.{Yes, No}
use Rattle.pc_edges.specs.declared.loading.TheConstants.{STREAM_ROOM}
use Rattle.pc_check.specs.Texts.{Finds}
use Rattle.pc_cert.specs.declared.line.CertLine.{CertLine}
use Rattle.pc_cert.specs.Reader.{IsWhole}
use Rattle.pc_check.specs.Headline.{PrintsWholeCurve}
use Rattle.pc_check.specs.Stops.{IsSettled, IsUnsettled}
use Rattle.pc_check.specs.OwnLines.{KeepsToOwnLines}
use Rattle.pc_deck.specs.Deck.{Deck}
use Rattle.pc_project.specs.Project.{Project}
use Rattle.pc_project.specs.shell.Priced.{priced_in, priced_of}
use Rattle.pc_project.specs.shell.Sides.{Side}
use Rattle.pc_project.specs.shell.Verdict.{IsAccepted, IsProjectOf}

-- ---- lines

-- the line that says which words are asked for
abbrev pub check_usage_text : List ℕ
check_usage_text = codes "usage: pert_check DECK" ++ 10 ∷ []

-- the line for a certified certificate with this many segments
abbrev pub certified_text : ℕ → List ℕ
certified_text segments = codes "certified " ++ (decimal segments ++ 10 ∷ [])

-- the line of one whose first failing point is this
abbrev pub failing_text : ℕ → ℕ → List ℕ
failing_text line reason = (((codes "not certified line " ++ decimal line) ++ codes " reason ") ++ decimal reason) ++ 10 ∷ []

-- the line of a verdict
abbrev pub verdict_text : Verdict → List ℕ
verdict_text (Yes segments) = certified_text segments
verdict_text (No line reason) = failing_text line reason

-- ---- what certificates mean

-- the deck is accepted, and this is the verdict on the text for its project: certified, with a number of segments, or
-- failing, first at a line for a reason
pub record HasVerdict (deck text : List ℕ) (verdict : Verdict) : Type 0 where
  pub project : Project
  pub accepted : IsProjectOf deck project
  pub finds : Finds (priced_in project) text verdict

-- the text is a certificate of the deck's project, with some number of segments
abbrev pub Certifies : List ℕ → List ℕ → Type 0
Certifies deck text = (segments : ℕ) × HasVerdict deck text (Yes segments)

-- the text has a first failing point as a certificate of the deck's project
abbrev pub FailsAsCertificate : List ℕ → List ℕ → Type 0
FailsAsCertificate deck text = (line reason : ℕ) × HasVerdict deck text (No line reason)

-- the bytes are those of an accepted deck, and the text states the complete time-cost curve of its network; it is the
-- text of no other lines, so these are what it states
pub record ProvesCurve (bytes text : List ℕ) : Type 0 where
  pub deck : Deck
  pub accepted : IsAccepted bytes deck
  pub prints : PrintsWholeCurve (priced_of deck) text
  pub once : (others : List CertLine) → IsWhole others text → others ≡ prints.lines

-- ---- what a check leaves

-- the bytes that were taken of the certificate have this verdict for the network, and nothing was pulled after the
-- first failing line or after the end
abbrev pub IsSettledIn : {X : Type 0} → PricedNetwork → Verdict → Side X → Type 0
IsSettledIn net verdict cert =
    IsSettled net verdict STREAM_ROOM cert.bytes cert.faults cert.pulls cert.old cert.new

-- the deck is accepted, and this holds for the network of its project
pub record IsSettledFor {X : Type 0} (deck : List ℕ) (cert : Side X) (verdict : Verdict) : Type 0 where
  pub project : Project
  pub accepted : IsProjectOf deck project
  pub settled : IsSettledIn (priced_in project) verdict cert

-- no line fails in the bytes that were taken of the certificate, and nothing was pulled after the pull that failed
abbrev pub IsUnsettledIn : {X : Type 0} → PricedNetwork → Side X → Type 0
IsUnsettledIn net cert = IsUnsettled net cert.bytes cert.faults cert.pulls cert.old cert.new

-- the deck is accepted, and this holds for the network of its project
pub record IsUnsettledFor {X : Type 0} (deck : List ℕ) (cert : Side X) : Type 0 where
  pub project : Project
  pub accepted : IsProjectOf deck project
  pub unsettled : IsUnsettledIn (priced_in project) cert

-- the pulls are bounded by the first upper end of the certificate's own segments, for the network of the deck's project
abbrev pub KeepsToOwnLinesFor : Option ℕ → Option ℕ → List ℕ → List ℕ → Type 0
KeepsToOwnLinesFor pulls pulls_after deck text =
    (project : Project) → IsProjectOf deck project → KeepsToOwnLines (priced_in project) text pulls pulls_after
