use Rattle.std.proofs.Common.{sym, ap, subst, arith}
use Rattle.pc_flow.specs.board.Sheets.{Sheet, rank_of}
use Rattle.pc_flow.specs.inside.board.Labelling.{HasStep}
use Rattle.pc_flow.specs.inside.board.Raising.{IsRaised, IsRaisedBy}
use Rattle.pc_flow.specs.inside.search.Searches.{IsSearch}
use Rattle.pc_flow.specs.inside.search.Lengths.{IsRenewedBack}
use Rattle.pc_flow.specs.inside.search.Labelling.{IsBetweenLabellings, HasRaised}
use Rattle.pc_flow.proofs.lemmas.board.AfterRaising.{raised-for, raised-back, raised-steps}
use Rattle.pc_flow.proofs.lemmas.search.StateLaws.{IsKnown, end-stepped}
use Rattle.pc_flow.proofs.lemmas.search.LengthLaws.{raised-renewed, stand-renewed, lengths-renewed}
use Rattle.pc_flow.proofs.lemmas.search.LevelLaws.{level-back}
use Rattle.pc_flow.proofs.lemmas.search.MeasureLaws.{
  search-measured,
  have_room-measured,
  between-measured,
  above-measured,
  settled-measured,
  raised-measured,
}
use Rattle.pc_flow.proofs.lemmas.search.RaisedLaws.{has_raised, stairs-raised}
use Rattle.pc_flow.proofs.board.board.Board.augment.Goals as goal

pub measure_back-requires-clause-known : goal.measure_back-requires-clause-known
measure_back-requires-clause-known c =
    let end = rw c.net-shape.ensures.network at c.end-end.ensures.end in
    let search = c.requires.between.search in
    omega (arith, end, search.in_range.end_in, search.fits.events)

-- the board with the measured rooms

pub raise-raised-requires-clause-ranked : goal.raise-raised-requires-clause-ranked
raise-raised-requires-clause-ranked c =
    (search-measured c.args.net.now c.args.self.now c.measure_back.new.self c.measure_back.ensures c.requires.between.search).ranked

pub raise-raised-requires-clause-back : goal.raise-raised-requires-clause-back
raise-raised-requires-clause-back c =
    (search-measured c.args.net.now c.args.self.now c.measure_back.new.self c.measure_back.ensures c.requires.between.search).back

pub raise-raised-requires-clause-steps : goal.raise-raised-requires-clause-steps
raise-raised-requires-clause-steps c =
    (search-measured c.args.net.now c.args.self.now c.measure_back.new.self c.measure_back.ensures c.requires.between.search).steps

pub raise-raised-requires-clause-room : goal.raise-raised-requires-clause-room
raise-raised-requires-clause-room c =
    have_room-measured c.args.net.now c.args.self.now c.measure_back.new.self c.measure_back.ensures

pub raise-raised-requires-clause-known : goal.raise-raised-requires-clause-known
raise-raised-requires-clause-known c =
    let end = rw c.net-shape.ensures.network at c.end-end.ensures.end in
    let search = c.requires.between.search in
    omega (arith, end, search.in_range.end_in, search.fits.events, ap (λ (v : Sheet). v.events) c.measure_back.ensures.rest)

pub raise-raised-requires-clause-led : goal.raise-raised-requires-clause-led
raise-raised-requires-clause-led c =
    let net = c.args.net.now in
    let m = c.measure_back.new.self in
    let end = rw c.net-shape.ensures.network at c.end-end.ensures.end in
    subst (λ e. HasStep m e) (sym end)
    (end-stepped net m (search-measured net c.args.self.now m c.measure_back.ensures c.requires.between.search)
    (omega (arith, c.requires.reached, ap (λ (v : Sheet). rank_of v net.network.end) c.measure_back.ensures.rest)))

-- the board with the raised flows, on which the lengths are still those of before

pub renew_back-requires-clause-known : goal.renew_back-requires-clause-known
renew_back-requires-clause-known c =
    let end = rw c.net-shape.ensures.network at c.end-end.ensures.end in
    let search = c.requires.between.search in
    omega (
      arith,
      end,
      search.in_range.end_in,
      search.fits.events,
      ap (λ (v : Sheet). v.events) c.measure_back.ensures.rest,
      ap (λ (v : Sheet). v.events) c.raise-raised.ensures.lengths,
    )

pub renew_back-requires-clause-fits : goal.renew_back-requires-clause-fits
renew_back-requires-clause-fits c =
    let net = c.args.net.now in
    let m = c.measure_back.new.self in
    let search : IsSearch net m = search-measured net c.args.self.now m c.measure_back.ensures c.requires.between.search in
    let raised = c.raise-raised.ensures.raised in
    raised-for m c.raise-raised.new.self _ c.raise-raised.result.by raised.0 search.steps raised.1 net.network search.fits

pub renew_back-requires-clause-back : goal.renew_back-requires-clause-back
renew_back-requires-clause-back c =
    let net = c.args.net.now in
    let m = c.measure_back.new.self in
    let search : IsSearch net m = search-measured net c.args.self.now m c.measure_back.ensures c.requires.between.search in
    let raised = c.raise-raised.ensures.raised in
    raised-back m c.raise-raised.new.self _ c.raise-raised.result.by raised.0 search.steps raised.1 search.back

pub renew_back-requires-clause-steps : goal.renew_back-requires-clause-steps
renew_back-requires-clause-steps c =
    let net = c.args.net.now in
    let m = c.measure_back.new.self in
    let search : IsSearch net m = search-measured net c.args.self.now m c.measure_back.ensures c.requires.between.search in
    let raised = c.raise-raised.ensures.raised in
    raised-steps m c.raise-raised.new.self _ c.raise-raised.result.by raised.0 search.steps raised.1

pub renew_back-requires-clause-stairs : goal.renew_back-requires-clause-stairs
renew_back-requires-clause-stairs c =
    let net = c.args.net.now in
    let s = c.args.self.now in
    let m = c.measure_back.new.self in
    let on = c.measure_back.ensures in
    let end = rw c.net-shape.ensures.network at c.end-end.ensures.end in
    let known : IsKnown net = record {
      priced = c.facts.ensures.priced;
      limits = c.facts.ensures.limits;
      pieces = c.facts.ensures.pieces;
      piece_limits = c.facts.ensures.piece_limits;
    } in
    let order = rw c.net-shape.ensures.network at c.facts-2.ensures.ordered in
    let raised : IsRaised m c.raise-raised.new.self net.network.end c.raise-raised.result.by =
    subst (λ e. IsRaised m c.raise-raised.new.self e c.raise-raised.result.by) end c.raise-raised.ensures.raised in
    stairs-raised net known order.0 order.1 m c.raise-raised.new.self c.raise-raised.result.by raised.0
    (between-measured net s m on c.requires.between) (above-measured net s m on c.requires.above) raised.1

pub renew_back-requires-clause-level : goal.renew_back-requires-clause-level
renew_back-requires-clause-level c =
    let net = c.args.net.now in
    let m = c.measure_back.new.self in
    let t = c.raise-raised.new.self in
    let search : IsSearch net m = search-measured net c.args.self.now m c.measure_back.ensures c.requires.between.search in
    let raised = c.raise-raised.ensures.raised in
    level-back net m t c.end-end.result c.raise-raised.result.by raised.0 search raised.1 c.raise-raised.ensures.lengths

pub returns-clause-raised : goal.returns-clause-raised
returns-clause-raised c =
    let net = c.args.net.now in
    let s = c.args.self.now in
    let m = c.measure_back.new.self in
    let t = c.raise-raised.new.self in
    let u = c.renew_back.new.self in
    let by = c.raise-raised.result.by in
    let on = c.measure_back.ensures in
    let end = rw c.net-shape.ensures.network at c.end-end.ensures.end in
    let known : IsKnown net = record {
      priced = c.facts.ensures.priced;
      limits = c.facts.ensures.limits;
      pieces = c.facts.ensures.pieces;
      piece_limits = c.facts.ensures.piece_limits;
    } in
    let order = rw c.net-shape.ensures.network at c.facts-2.ensures.ordered in
    let between : IsBetweenLabellings net m = between-measured net s m on c.requires.between in
    let raised : IsRaised m t net.network.end by = subst (λ e. IsRaised m t e by) end c.raise-raised.ensures.raised in
    let renewed : IsRenewedBack net t u net.network.end = subst (λ e. IsRenewedBack net t u e) end c.renew_back.ensures in
    let now : IsRaisedBy m u net.network.end by raised.0 = raised-renewed m t u renewed.rest net.network.end by raised.0 raised.1 in
    let whole : HasRaised net m u by =
    has_raised net known order.0 order.1 m u by raised.0 between (above-measured net s m on c.requires.above) now
    (lengths-renewed net m t u net.network.end by raised.0 between.search.lengths raised.1 c.raise-raised.ensures.lengths renewed)
    (settled-measured net s m on c.requires.settled) in
    raised-measured net s m on u by whole

pub returns-clause-stand : goal.returns-clause-stand
returns-clause-stand c =
    stand-renewed c.measure_back.new.self c.raise-raised.new.self c.renew_back.new.self c.renew_back.ensures.rest c.raise-raised.result.standing
    c.raise-raised.ensures.stand
