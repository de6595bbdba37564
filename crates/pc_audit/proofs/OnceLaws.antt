-- A text is that of one list of lines.
use Rattle.std.proofs.Common.{◌≡◌, ℕ, List, [], append-nil, sym, ◌∙◌}
use Rattle.pc_cert.specs.Reader.{IsWhole}
use Rattle.pc_cert.specs.Text.{text_of}
use Rattle.pc_cert.specs.declared.line.CertLine.{CertLine}
use Rattle.pc_cert.proofs.TextLaws.{text_once}

-- the lines of a complete certificate are those of its text
pub whole_once : (lines others : List CertLine) (text : List ℕ) → IsWhole lines text → IsWhole others text → others ≡ lines
whole_once lines others text is also =
    (text_once others lines [] [] also.led.fit is.led.fit tt tt
    (append-nil (text_of others) ∙ (sym also.whole ∙ (is.whole ∙ sym (append-nil (text_of lines)))))).0
