use Rattle.pc_cert.specs.Document.{document_lines}
use Rattle.pc_certify.proofs.CertifiedLaws.{document_fits}
use Rattle.pc_certify.proofs.laws.written_fits.Goals as goal

pub returns : goal.returns
returns c = record {
  fit = document_fits;
  once = λ net normal crash segments lines fit others same. c.text_is_once.ensures lines (document_lines net normal crash segments) others fit same;
}
