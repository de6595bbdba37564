use Rattle.pc_cert.proofs.TextLaws.{spelling_once}
use Rattle.pc_cert.proofs.LineLengths.{spelling_lacks_end, length-spelling}
use Rattle.pc_cert.proofs.line.spelling_is_once.Goals as goal

pub returns : goal.returns
returns c = record { once = spelling_once; without_end = spelling_lacks_end; short = length-spelling }
