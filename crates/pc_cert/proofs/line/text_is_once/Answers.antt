use Rattle.std.proofs.Common.{[], append-nil, sym, ◌∙◌}
use Rattle.pc_cert.specs.Text.{text_of}
use Rattle.pc_cert.proofs.TextLaws.{text_once}
use Rattle.pc_cert.proofs.line.text_is_once.Goals as goal

pub returns : goal.returns
returns c = λ lines others p q same. (text_once lines others [] [] p q tt tt (append-nil (text_of lines) ∙ same ∙ sym (append-nil (text_of others)))).0
