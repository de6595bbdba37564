use Rattle.std.proofs.Common.{ap, arith, ◌∙◌}
use Rattle.std.proofs.lemmas.List.{take-replicate}
use Rattle.pc_text.specs.Line.{spaces}
use Rattle.pc_edges.proofs.lemmas.page.PageLaws.{Adds-as}
use Rattle.pc_edges.proofs.page.cells.put_spaces.Goals as goal

pub returns : goal.returns
returns g c = Adds-as _ (take-replicate c.saturating_sub.result 255 32 (omega (arith, c.saturating_sub.ensures)) ∙ ap spaces c.saturating_sub.ensures) c.put.ensures
