use Rattle.std.proofs.Common.{◌≡◌, ◌+◌, ◌*◌, length, subst, arith}
use Rattle.pc_flow.specs.inside.search.Labelling.{IsUnderWay, Rises}
use Rattle.pc_flow.proofs.lemmas.search.LabelLaws.{under_way-begins, rises-joins, labelled-ends, looks-whole}
use Rattle.pc_flow.proofs.board.board.Board.label.Goals as goal

pub grow-requires-clause-settled : goal.grow-requires-clause-settled
grow-requires-clause-settled g c =
    c.settle.ensures.settled.settled

pub raise_all-rise-requires : goal.raise_all-rise-requires
raise_all-rise-requires g c =
    let net = c.args.net.now in
    let t = c.settle.new.self in
    let u = c.grow.new.self in
    let begun : IsUnderWay net u × Rises net c.args.self.now u 0 =
    under_way-begins net c.args.self.now t u c.requires.between c.requires.above c.settle.ensures.settled c.grow.ensures.grown in
    record { under_way = begun.0 }

pub choose-fall-requires-clause-settled : goal.choose-fall-requires-clause-settled
choose-fall-requires-clause-settled g c =
    c.raise_all-rise.ensures.under_way.settled

pub returns-clause-counted : goal.returns-clause-counted
returns-clause-counted g c =
    let net = c.args.net.now in
    let under_way = c.raise_all-rise.ensures.under_way in
    omega (
      arith,
      c.settle.ensures.counted,
      c.requires.between.search.waiting.few,
      c.requires.between.search.fits.activities,
      c.grow.ensures.counted,
      c.raise_all-rise.ensures.counted,
      c.choose-fall.ensures.counted,
      under_way.between.search.waiting.few,
      under_way.between.search.fits.activities,
      looks-whole (4 * length net.network.arcs) c.raise_all-rise.result,
    )

pub returns-clause-labelled : goal.returns-clause-labelled
returns-clause-labelled g c =
    let net = c.args.net.now in
    let s = c.args.self.now in
    let t = c.settle.new.self in
    let u = c.grow.new.self in
    let v = c.raise_all-rise.new.self in
    let w = c.choose-fall.new.self in
    let rise = c.raise_all-rise.result in
    let begun : IsUnderWay net u × Rises net s u 0 =
    under_way-begins net s t u c.requires.between c.requires.above c.settle.ensures.settled c.grow.ensures.grown in
    let zero_more : 0 + rise ≡ rise = omega arith in
    let rises : Rises net s v rise = subst (λ n. Rises net s v n) zero_more (rises-joins net s u v 0 rise begun.1 c.raise_all-rise.ensures.rises) in
    labelled-ends net s v w rise c.choose-fall.result c.facts.ensures.priced c.requires.between rises c.raise_all-rise.ensures.under_way c.choose-fall.ensures.chosen
