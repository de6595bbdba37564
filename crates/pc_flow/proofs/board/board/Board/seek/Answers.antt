use Rattle.std.proofs.Common.{ℕ, List, length, ap, inr, arith}
use Rattle.pc_model.specs.Greatest.{StandsBelow}
use Rattle.pc_crash.specs.inside.Links.{activities_of}
use Rattle.pc_flow.specs.inside.search.Growing.{IsAt}
use Rattle.pc_flow.specs.inside.search.Ways.{near_in, far_in}
use Rattle.pc_flow.specs.declared.search.way.Way.TheVariants.{Along, Against}
use Rattle.pc_flow.proofs.lemmas.search.GrowingLaws.{goes_on-joins}
use Rattle.pc_flow.proofs.lemmas.search.LinkLaws.{links_count}
use Rattle.pc_flow.proofs.lemmas.search.WayLaws.{links-listed, links-at}
use Rattle.pc_flow.proofs.lemmas.search.SeekLaws.{goes_on-labelled}
use Rattle.pc_flow.proofs.board.board.Board.seek.Goals as goal

pub seek_links-requires-clause-links : goal.seek_links-requires-clause-links
seek_links-requires-clause-links g c =
    links-listed c.args.net.now (far_in c.args.net.now Against) (near_in c.args.net.now Against) c.args.e c.out_links.result.now c.out_links.ensures.listed
    c.out_links.ensures.others

pub seek_links-requires-then-rank-eq0-clause-links : goal.seek_links-requires-then-rank-eq0-clause-links
seek_links-requires-then-rank-eq0-clause-links g c =
    links-listed c.args.net.now (far_in c.args.net.now Along) (near_in c.args.net.now Along) c.args.e c.in_links.result.now c.in_links.ensures.listed
    c.in_links.ensures.others

pub returns-then-rank-eq0-clause-counted : goal.returns-then-rank-eq0-clause-counted
returns-then-rank-eq0-clause-counted g c =
    omega (
      arith,
      c.seek_links.ensures.counted,
      c.seek_links-then-rank-eq0.ensures.counted,
      ap (λ (xs : List ℕ). length xs) c.out_links.ensures.places,
      ap (λ (xs : List ℕ). length xs) c.in_links.ensures.places,
      links_count c.out_links.result.now,
      links_count c.in_links.result.now,
    )

pub returns-then-rank-eq0-clause-goes_on : goal.returns-then-rank-eq0-clause-goes_on
returns-then-rank-eq0-clause-goes_on g c =
    goes_on-joins c.args.net.now (StandsBelow (activities_of c.out_links.result.now) (length c.out_links.result.now))
    (StandsBelow (activities_of c.in_links.result.now) (length c.in_links.result.now)) (IsAt c.args.net.now c.args.e) c.args.self.now c.seek_links.new.self
    c.seek_links-then-rank-eq0.new.self (links-at c.args.net.now c.args.e c.out_links.result.now c.in_links.result.now c.out_links.ensures.listed c.in_links.ensures.listed)
    c.seek_links.ensures.goes_on c.seek_links-then-rank-eq0.ensures.goes_on

pub returns-else-rank-eq0-clause-counted : goal.returns-else-rank-eq0-clause-counted
returns-else-rank-eq0-clause-counted g c =
    omega (arith, c.seek_links.ensures.counted, ap (λ (xs : List ℕ). length xs) c.out_links.ensures.places, links_count c.out_links.result.now)

pub returns-else-rank-eq0-clause-goes_on : goal.returns-else-rank-eq0-clause-goes_on
returns-else-rank-eq0-clause-goes_on g c =
    goes_on-labelled c.args.net.now (StandsBelow (activities_of c.out_links.result.now) (length c.out_links.result.now)) (IsAt c.args.net.now c.args.e)
    c.args.self.now c.seek_links.new.self c.args.e (λ a known at. inr at) c.requires.unlabelled
    (omega (arith, c.if-rank-eq0.false, c.rank.ensures)) c.seek_links.ensures.goes_on
