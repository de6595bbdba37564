use Rattle.pc_cert.proofs.LineLaws.{read_spelled, read_again}
use Rattle.pc_cert.proofs.line.CertLine.read.Goals as goal

pub returns-clause-spelled : goal.returns-clause-spelled
returns-clause-spelled c = read_spelled _ _ c.line_of.ensures

pub returns-clause-read : goal.returns-clause-read
returns-clause-read c = λ line fits is. read_again _ _ line c.line_of.ensures fits is
