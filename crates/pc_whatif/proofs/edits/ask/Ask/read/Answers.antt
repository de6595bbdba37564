use Rattle.pc_whatif.proofs.lemmas.edits.AskLaws.{read_asked, read_again}
use Rattle.pc_whatif.proofs.edits.ask.Ask.read.Goals as goal

pub returns-clause-asked : goal.returns-clause-asked
returns-clause-asked c = read_asked _ _ c.ask_of.ensures

pub returns-clause-read : goal.returns-clause-read
returns-clause-read c = λ ask asks. read_again _ _ ask c.ask_of.ensures asks
