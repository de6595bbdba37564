use Rattle.pc_edges.specs.inside.page.Puts.{desk}
use Rattle.pc_curve.proofs.curve_text.write_curve.Goals as goal

pub returns-clause-text : goal.returns-clause-text
returns-clause-text g c =
    let (text, is, put) = c.put_curve.ensures.text in
    (text, is, c.finish.ensures.text (desk g.O.Sink.taken g.O.Sink.faults c.args.page.now c.args.sink.now) text c.requires.fresh put)
