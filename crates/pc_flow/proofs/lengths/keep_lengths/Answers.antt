use Rattle.std.proofs.Common.{length, sym, ap, subst, arith}
use Rattle.pc_model.specs.Network.{Network}
use Rattle.pc_flow.specs.board.Sheets.{Sheet, flow_of}
use Rattle.pc_flow.specs.inside.board.Labelling.{IsFor}
use Rattle.pc_flow.proofs.OpeningLaws.{reach-small}
use Rattle.pc_flow.proofs.lemmas.search.LengthLaws.{keeping-begins, keeping-goes_on}
use Rattle.pc_flow.proofs.lengths.keep_lengths.Goals as goal

pub loop-a-init : goal.loop-a-init
loop-a-init c = keeping-begins c.args.net.now c.args.board.now

pub renew_lengths-requires-clause-known : goal.renew_lengths-requires-clause-known
renew_lengths-requires-clause-known c =
    omega (arith, c.loop-a-test.true, c.activities-a-end.ensures.activities, ap (λ (n : Network). length n.arcs) c.net-shape.ensures.network)

pub renew_lengths-requires-clause-fits : goal.renew_lengths-requires-clause-fits
renew_lengths-requires-clause-fits c =
    subst (λ s. IsFor c.args.net.now.network s) (sym c.loop-a.invariant.rest)
    (record { events = c.requires.fits.events; activities = c.requires.fits.activities })

pub renew_lengths-requires-clause-reach : goal.renew_lengths-requires-clause-reach
renew_lengths-requires-clause-reach c =
    let shape = c.facts.ensures in
    reach-small c.args.net.now shape.priced shape.limits shape.pieces shape.piece_limits c.loop-a.a
    (omega (arith, c.loop-a-test.true, c.activities-a-end.ensures.activities, ap (λ (n : Network). length n.arcs) c.net-shape.ensures.network))

pub renew_lengths-requires-clause-small : goal.renew_lengths-requires-clause-small
renew_lengths-requires-clause-small c =
    omega (arith, ap (λ (v : Sheet). flow_of v c.loop-a.a) c.loop-a.invariant.rest, c.requires.empty c.loop-a.a)

pub loop-a-preserved : goal.loop-a-preserved
loop-a-preserved c =
    keeping-goes_on c.args.net.now c.args.board.now c.loop-a.board c.renew_lengths.new.board c.loop-a.a c.loop-a.invariant c.renew_lengths.ensures

pub returns : goal.returns
returns c =
    record {
      rest = c.loop-a.invariant.rest;
      lengths = λ a known.
          c.loop-a.invariant.lengths a
          (omega (arith, known, c.loop-a-test.false, c.activities-a-end.ensures.activities, ap (λ (n : Network). length n.arcs) c.net-shape.ensures.network));
    }
