use Rattle.std.proofs.Common.{codes, ap}
use Rattle.pc_edges.specs.page.Lines.{number_line}
use Rattle.pc_edges.specs.inside.page.Puts.{desk}
use Rattle.pc_edges.proofs.lemmas.page.PageLaws.{Adds-as}
use Rattle.pc_whatif.specs.Texts.{refused_text}
use Rattle.pc_whatif.proofs.session.refuse.Goals as goal

pub returns-clause-text : goal.returns-clause-text
returns-clause-text g c =
    c.finish.ensures.text (desk g.O.Sink.taken g.O.Sink.faults c.args.page.now c.args.out.now) (refused_text c.args.reason) c.requires
    (Adds-as _ (ap (number_line (codes "NO ")) c.number.ensures.number) c.put_number.ensures)
