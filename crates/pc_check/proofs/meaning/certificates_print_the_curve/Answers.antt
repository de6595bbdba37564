use Rattle.pc_check.proofs.HeadlineLaws.{prints_whole_curve}
use Rattle.pc_check.proofs.meaning.certificates_print_the_curve.Goals as goal

pub returns : goal.returns
returns c = prints_whole_curve
