use Rattle.std.proofs.Common.{ℕ, List, length, ap, arith}
use Rattle.pc_model.specs.Greatest.{StandsBelow}
use Rattle.pc_crash.specs.inside.Links.{activities_of}
use Rattle.pc_flow.specs.inside.search.Growing.{IsAt}
use Rattle.pc_flow.specs.inside.search.Ways.{near_in, far_in}
use Rattle.pc_flow.specs.declared.search.way.Way.TheVariants.{Along, Against}
use Rattle.pc_flow.proofs.lemmas.search.GrowingLaws.{goes_on-joins, grows-labelled}
use Rattle.pc_flow.proofs.lemmas.search.LinkLaws.{links_count}
use Rattle.pc_flow.proofs.lemmas.search.WayLaws.{links-listed, links-at}
use Rattle.pc_flow.proofs.board.board.Board.scan.Goals as goal

pub scan_links-requires-clause-links : goal.scan_links-requires-clause-links
scan_links-requires-clause-links g c =
    links-listed c.args.net.now (near_in c.args.net.now Along) (far_in c.args.net.now Along) c.args.e c.out_links.result.now c.out_links.ensures.listed
    c.out_links.ensures.others

pub scan_links-requires-2-clause-links : goal.scan_links-requires-2-clause-links
scan_links-requires-2-clause-links g c =
    links-listed c.args.net.now (near_in c.args.net.now Against) (far_in c.args.net.now Against) c.args.e c.in_links.result.now c.in_links.ensures.listed
    c.in_links.ensures.others

pub scan_links-requires-2-clause-labelled : goal.scan_links-requires-2-clause-labelled
scan_links-requires-2-clause-labelled g c =
    grows-labelled c.args.self.now c.scan_links.new.self c.scan_links.ensures.goes_on.grows c.args.e c.requires.labelled

pub returns-clause-counted : goal.returns-clause-counted
returns-clause-counted g c =
    omega (
      arith,
      c.scan_links.ensures.counted,
      c.scan_links-2.ensures.counted,
      ap (λ (xs : List ℕ). length xs) c.out_links.ensures.places,
      ap (λ (xs : List ℕ). length xs) c.in_links.ensures.places,
      links_count c.out_links.result.now,
      links_count c.in_links.result.now,
    )

pub returns-clause-goes_on : goal.returns-clause-goes_on
returns-clause-goes_on g c =
    goes_on-joins c.args.net.now (StandsBelow (activities_of c.out_links.result.now) (length c.out_links.result.now))
    (StandsBelow (activities_of c.in_links.result.now) (length c.in_links.result.now)) (IsAt c.args.net.now c.args.e) c.args.self.now c.scan_links.new.self
    c.scan_links-2.new.self (links-at c.args.net.now c.args.e c.out_links.result.now c.in_links.result.now c.out_links.ensures.listed c.in_links.ensures.listed)
    c.scan_links.ensures.goes_on c.scan_links-2.ensures.goes_on
