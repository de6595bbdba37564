use Rattle.pc_certify.proofs.ExactLaws.{found_certified}
use Rattle.pc_certify.proofs.laws.certified_is_found.Goals as goal

pub returns : goal.returns
returns c = λ net text segments verdict certified finds. found_certified net text segments certified verdict finds
