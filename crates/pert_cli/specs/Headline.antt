-- The purpose of the program: the complete time-cost curve of an accepted deck, printed with its proof.
use Rattle.std.specs.Prelude.{◌≡◌, ℕ, List}
use Rattle.pc_cert.specs.declared.line.CertLine.{CertLine}
use Rattle.pc_cert.specs.Reader.{IsWhole}
use Rattle.pc_check.specs.Headline.{PrintsWholeCurve}
use Rattle.pc_deck.specs.Deck.{Deck}
use Rattle.pc_project.specs.shell.Priced.{priced_of}
use Rattle.pc_project.specs.shell.Sides.{Side, Took}
use Rattle.pc_project.specs.shell.Verdict.{IsAccepted}

-- the bytes are those of an accepted deck, and the output took a text that prints the complete time-cost curve of its
-- network: for every length from the all-crash to the all-normal length a schedule of that length, its cost, that none
-- costs less, and why. The text is that of no other lines, so these are what it states
pub record TookWholeCurve {X : Type 0} (out : Side X) (bytes : List ℕ) : Type 0 where
  pub deck : Deck
  pub accepted : IsAccepted bytes deck
  pub text : List ℕ
  pub took : Took out text
  pub prints : PrintsWholeCurve (priced_of deck) text
  pub once : (others : List CertLine) → IsWhole others text → others ≡ prints.lines
