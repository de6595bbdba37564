use Rattle.pc_check.proofs.OwnLineLaws.{are_few}
use Rattle.pc_check.proofs.meaning.lines_are_few.Goals as goal

pub returns : goal.returns
returns c = are_few
