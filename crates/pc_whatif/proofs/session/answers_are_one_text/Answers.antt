use Rattle.pc_whatif.proofs.OneTextLaws.{one_text}
use Rattle.pc_whatif.proofs.session.answers_are_one_text.Goals as goal

pub returns : goal.returns
returns c = one_text
