use Rattle.std.proofs.Common.{◌≡◌, ◌+◌, length, sym, ◌∙◌, ap, subst, inr, arith}
use Rattle.pc_model.specs.Greatest.{StandsBelow}
use Rattle.pc_crash.specs.inside.Links.{activities_of, link_at}
use Rattle.pc_flow.specs.inside.search.Ways.{far_in}
use Rattle.pc_flow.specs.inside.search.Growing.{GoesOn}
use Rattle.pc_flow.proofs.lemmas.search.GrowingLaws.{goes_on-begins, goes_on-visits}
use Rattle.pc_flow.proofs.lemmas.search.SeekLaws.{goes_on-labelled, unlabelled-still}
use Rattle.pc_flow.proofs.lemmas.search.LinkLaws.{activity_at}
use Rattle.pc_flow.proofs.lemmas.search.WayLaws.{far-at}
use Rattle.pc_flow.proofs.board.board.Board.seek_links.Goals as goal

pub loop-link-init : goal.loop-link-init
loop-link-init g c = record {
  counted = omega arith;
  unlabelled = c.requires.unlabelled;
  goes_on = goes_on-begins c.args.net.now (StandsBelow (activities_of c.args.links.now) 0) c.args.self.now c.requires.search c.requires.room
      (λ a stands. omega (arith, stands.1));
}

pub loop-link-preserved : goal.loop-link-preserved
loop-link-preserved g c =
    let on = c.loop-link.invariant in
    record {
      counted = omega (arith, c.visit_to.ensures.counted, on.counted);
      unlabelled = unlabelled-still c.visit_to.result c.visit_to.new.self c.args.e c.visit_to.ensures.labelled c.if-visit_to.false;
      goes_on = goes_on-visits c.args.net.now (activities_of c.args.links.now) c.loop-link.link-index (link_at c.args.links.now c.loop-link.link-index).activity
          c.args.self.now c.loop-link.self c.visit_to.new.self on.goes_on (activity_at c.args.links.now c.loop-link.link-index c.loop-link-test.true) c.visit_to.ensures.visited;
    }

pub returns-then-visit_to-clause-goes_on : goal.returns-then-visit_to-clause-goes_on
returns-then-visit_to-clause-goes_on g c =
    let on = c.loop-link.invariant in
    let net = c.args.net.now in
    let links = c.args.links.now in
    let xs = activities_of links in
    let u = c.visit_to.new.self in
    goes_on-labelled net (StandsBelow xs (c.loop-link.link-index + 1)) (StandsBelow xs (length links)) c.args.self.now u c.args.e
    (λ a known stands. inr (far-at net c.args.way a c.args.e (ap (far_in net c.args.way) (sym stands.2 ∙ activity_at links stands.0 stands.1) ∙ c.requires.links.here stands.0 stands.1)))
    c.requires.unlabelled (c.visit_to.ensures.labelled.0 c.if-visit_to.true)
    (goes_on-visits net xs c.loop-link.link-index (link_at links c.loop-link.link-index).activity c.args.self.now c.loop-link.self u on.goes_on
    (activity_at links c.loop-link.link-index c.loop-link-test.true) c.visit_to.ensures.visited)

pub returns-clause-goes_on : goal.returns-clause-goes_on
returns-clause-goes_on g c =
    let xs = activities_of c.args.links.now in
    let all : c.loop-link.link-index ≡ length c.args.links.now = omega (arith, c.loop-link-test.false, c.loop-link.auto.link-index-end) in
    subst (λ n. GoesOn c.args.net.now (StandsBelow xs n) c.args.self.now c.loop-link.self) all c.loop-link.invariant.goes_on
