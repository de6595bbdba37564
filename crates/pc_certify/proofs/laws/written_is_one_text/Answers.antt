use Rattle.pc_certify.proofs.CertifiedLaws.{text_begins, text_goes_on, text_ends}
use Rattle.pc_certify.proofs.laws.written_is_one_text.Goals as goal

pub returns : goal.returns
returns c = record { begins = text_begins; goes_on = text_goes_on; ends = text_ends }
