-- Texts of lines, and lines in the order in which they may come.
use Rattle.std.specs.Prelude.{◌≡◌, ℕ, List, [], ◌∷◌, ◌++◌, Option, Some}
use Rattle.pc_cert.specs.declared.line.CertLine.{CertLine}
use Rattle.pc_cert.specs.declared.place.Place.{Place}
use Rattle.pc_cert.specs.declared.place.Place.TheVariants.{Start}
use Rattle.pc_text.specs.Fields.{◌>>=◌}
use Rattle.pc_cert.specs.Lines.{spelling, IsWritable}
use Rattle.pc_cert.specs.Grammar.{next}

-- the lines one after the other, each with its end (10)
abbrev pub text_of : List CertLine → List ℕ
text_of [] = []
text_of (line ∷ lines) = spelling line ++ 10 ∷ text_of lines

-- each line can be written
abbrev pub AreWritable : List CertLine → Type 0
AreWritable [] = Unit {0}
AreWritable (line ∷ lines) = IsWritable line × AreWritable lines

-- the place after lines that begin at a place; none if one of them is not allowed at its place
abbrev pub ran : Place → List CertLine → Option Place
ran place [] = Some place
ran place (line ∷ lines) = next place line >>= (λ behind. ran behind lines)

-- the lines can be written, they are allowed in this order from the beginning, and this is the place after them
pub record LeadTo (place : Place) (lines : List CertLine) : Type 0 where
  pub fit : AreWritable lines
  pub order : ran Start lines ≡ Some place
