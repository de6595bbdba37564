use Rattle.std.proofs.Common.{◌≡◌, ◌<◌, [], ◌∷◌, ◌++◌, decimal, ap, ◌∙◌, arith}
use Rattle.pc_edges.specs.inside.page.Puts.{desk}
use Rattle.pc_edges.proofs.lemmas.page.PageLaws.{Adds-as, Adds-nil, ◌⨾◌}
use Rattle.pc_crash.specs.Priced.{knees_in}
use Rattle.pc_text.specs.Fields.{spaced}
use Rattle.pc_cert.specs.Lines.{numbers}
use Rattle.pc_cert.specs.Listed.{listed}
use Rattle.pc_cert.proofs.WordLaws.{numbers-more, numbers-with_last}
use Rattle.pc_cert.proofs.segment.put_flows.Goals as goal

pub loop-k-init : goal.loop-k-init
loop-k-init g c = Adds-nil (desk g.O.Sink.taken g.O.Sink.faults c.args.page.now c.args.sink.now)

pub loop-k-preserved : goal.loop-k-preserved
loop-k-preserved g c =
    let seg = g.V.SegmentView.segment c.args.view.now in
    let same = ap (λ net. (knees_in net).count c.args.a) c.requires.net in
    let below : c.loop-k.k < (knees_in (g.V.SegmentView.net c.args.view.now)).count c.args.a = omega (arith, same, c.len-knees.ensures, c.knees.ensures.count, c.loop-k-test.true) in
    Adds-as _ (numbers-more c.loop-k.k (seg.flow c.args.a))
    (c.loop-k.invariant ⨾ Adds-as _ (ap (λ n. spaced (decimal n) []) (c.flow.ensures.at_knee below)) c.put_number.ensures)

pub returns : goal.returns
returns g c =
    let seg = g.V.SegmentView.segment c.args.view.now in
    let net = c.args.net.now in
    let same = ap (λ n. (knees_in n).count c.args.a) c.requires.net in
    let all : c.loop-k.k ≡ (knees_in net).count c.args.a = omega (arith, c.len-knees.ensures, c.knees.ensures.count, c.loop-k-test.false, c.loop-k.auto.k-end) in
    let last = c.flow-2.ensures.beside (omega (arith, same, c.len-knees.ensures, c.knees.ensures.count)) in
    Adds-as _ (numbers-with_last c.loop-k.k (seg.flow c.args.a) (seg.beside c.args.a) ∙ ap (λ n. numbers (listed n (seg.flow c.args.a) ++ seg.beside c.args.a ∷ [])) all)
    (c.loop-k.invariant ⨾ Adds-as _ (ap (λ n. spaced (decimal n) []) last) c.put_number-2.ensures)
