use Rattle.pc_whatif.proofs.lemmas.edits.InsideLaws.{net_in-is}
use Rattle.pc_whatif.proofs.edits.Edits.net.Goals as goal

pub returns : goal.returns
returns c = rw (← c.self.view_is) (net_in-is c.self.inside)
