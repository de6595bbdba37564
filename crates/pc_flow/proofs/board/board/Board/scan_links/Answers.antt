use Rattle.std.proofs.Common.{◌≡◌, length, subst, arith}
use Rattle.pc_model.specs.Greatest.{StandsBelow}
use Rattle.pc_crash.specs.inside.Links.{activities_of, link_at}
use Rattle.pc_flow.specs.inside.search.Growing.{GoesOn}
use Rattle.pc_flow.proofs.lemmas.search.GrowingLaws.{goes_on-begins, goes_on-visits, grows-labelled}
use Rattle.pc_flow.proofs.lemmas.search.LinkLaws.{activity_at}
use Rattle.pc_flow.proofs.board.board.Board.scan_links.Goals as goal

pub loop-link-init : goal.loop-link-init
loop-link-init g c = record {
  counted = omega arith;
  goes_on = goes_on-begins c.args.net.now (StandsBelow (activities_of c.args.links.now) 0) c.args.self.now c.requires.search c.requires.room
      (λ a stands. omega (arith, stands.1));
}

pub visit_from-requires-clause-labelled : goal.visit_from-requires-clause-labelled
visit_from-requires-clause-labelled g c =
    grows-labelled c.args.self.now c.loop-link.self c.loop-link.invariant.goes_on.grows c.args.e c.requires.labelled

pub loop-link-preserved : goal.loop-link-preserved
loop-link-preserved g c =
    let on = c.loop-link.invariant in
    record {
      counted = omega (arith, c.visit_from.ensures.counted, on.counted);
      goes_on = goes_on-visits c.args.net.now (activities_of c.args.links.now) c.loop-link.link-index (link_at c.args.links.now c.loop-link.link-index).activity
          c.args.self.now c.loop-link.self c.visit_from.new.self on.goes_on (activity_at c.args.links.now c.loop-link.link-index c.loop-link-test.true) c.visit_from.ensures.visited;
    }

pub returns-clause-goes_on : goal.returns-clause-goes_on
returns-clause-goes_on g c =
    let xs = activities_of c.args.links.now in
    let all : c.loop-link.link-index ≡ length c.args.links.now = omega (arith, c.loop-link-test.false, c.loop-link.auto.link-index-end) in
    subst (λ n. GoesOn c.args.net.now (StandsBelow xs n) c.args.self.now c.loop-link.self) all c.loop-link.invariant.goes_on
