use Rattle.pc_check.proofs.TextLaws.{not_both, one_number}
use Rattle.pc_check.proofs.OnceLaws.{one_failure}
use Rattle.pc_check.proofs.meaning.one_verdict.Goals as goal

pub returns-clause-not_both : goal.returns-clause-not_both
returns-clause-not_both c = not_both

pub returns-clause-one_number : goal.returns-clause-one_number
returns-clause-one_number c = one_number

pub returns-clause-one_failure : goal.returns-clause-one_failure
returns-clause-one_failure c = one_failure
