use Rattle.pc_certify.proofs.FlowLaws.{filled-is}
use Rattle.pc_certify.proofs.segment.whole_along.Goals as goal

pub returns : goal.returns
returns g c =
    let seg = g.V.SegmentView.segment c.args.view.now in
    filled-is c.args.net.now seg c.args.a c.whole.result (rw c.requires.net at c.whole.ensures.at_knees) (rw c.requires.net at c.whole.ensures.beside)
