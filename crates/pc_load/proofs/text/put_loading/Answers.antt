use Rattle.std.proofs.Common.{ap}
use Rattle.pc_edges.proofs.lemmas.page.PageLaws.{Adds-as}
use Rattle.pc_load.specs.LoadText.{load_text}
use Rattle.pc_load.proofs.text.put_loading.Goals as goal

pub returns : goal.returns
returns g c = Adds-as _ (ap (load_text c.args.project.now) c.printed.ensures) c.put_load.ensures
