use Rattle.pc_project.proofs.lemmas.deck_text.AgainLaws.{makes_again}
use Rattle.pc_project.proofs.lemmas.deck_text.WrittenLaws.{kept_by_text}
use Rattle.pc_project.proofs.laws.text_makes_the_project.Goals as goal

pub returns : goal.returns
returns c = record { kept = kept_by_text; alike = λ deck other same makes. makes_again deck other same makes }
