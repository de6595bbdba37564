use Rattle.std.proofs.Common.{◌≡◌, true, false, [], ◌∷◌, ◌++◌, sym, ◌∙◌}
use Rattle.std.proofs.lemmas.List.Elements.{All-nil, All-push}
use Rattle.pc_cert.specs.Text.{AreWritable}
use Rattle.pc_edges.proofs.lemmas.page.PageLaws.{Adds-as, ◌⨾◌}
use Rattle.pc_cert.specs.Document.{segment_lines}
use Rattle.pc_certify.proofs.CertifiedLaws.{text_begins, text_goes_on, walk_known}
use Rattle.pc_flow.specs.inside.Courses.{present, HasEnded}
use Rattle.pc_certify.proofs.DescentLaws.{given-none, given-more, given-all, come-less, small-next}
use Rattle.pc_certify.proofs.certificate.put_segments.Goals as goal

pub put_head-requires-clause-normal : goal.put_head-requires-clause-normal
put_head-requires-clause-normal g c = rw c.path.ensures (walk_known _ _ _ _ c.requires.walks.at_normal.through.leads)

pub put_head-requires-clause-crash : goal.put_head-requires-clause-crash
put_head-requires-clause-crash g c = rw c.path-2.ensures (walk_known _ _ _ _ c.requires.walks.at_crash.through.leads)

pub loop-page-init : goal.loop-page-init
loop-page-init g c = record {
  put = record {
    segments = [];
    given = given-none _ _ c.requires.solver;
    text = Adds-as _ (sym (text_begins c.args.net.now c.args.walks.now.normal.path c.args.walks.now.crash.path)) (rw (← c.path.ensures, ← c.path-2.ensures) c.put_head.ensures.text);
    fit = All-nil (λ seg. AreWritable (segment_lines c.args.net.now seg));
  };
  events = c.requires.events;
  acts = c.requires.acts;
}

pub loop-page-smaller : goal.loop-page-smaller
loop-page-smaller g c = come-less c.args.net.now c.loop-page.solver c.next_segment.new.self c.loop-page.invariant.put.segments c.loop-page.invariant.put.given
    (λ ended. let both : true ≡ false = sym c.loop-page-test.true ∙ c.next_segment.ensures.ended.1 ended in cc)
    c.next_segment.ensures.same (c.next_segment.ensures.next c.loop-page-test.true)

pub loop-page-preserved : goal.loop-page-preserved
loop-page-preserved g c =
    let net = c.args.net.now in
    let had = c.loop-page.invariant.put in
    let next = c.next_segment.ensures.next c.loop-page-test.true in
    let goes_on : HasEnded c.loop-page.solver → ⊥ = λ ended. let both : true ≡ false = sym c.loop-page-test.true ∙ c.next_segment.ensures.ended.1 ended in cc in
    let seg = present c.next_segment.new.self in
    let small = small-next net c.loop-page.solver c.next_segment.new.self had.segments had.given goes_on c.next_segment.ensures.same next in
    record {
      put = record {
        segments = had.segments ++ seg ∷ [];
        given = given-more net c.loop-page.solver c.next_segment.new.self had.segments had.given goes_on c.next_segment.ensures.same next;
        text = Adds-as _ (text_goes_on net c.args.walks.now.normal.path c.args.walks.now.crash.path had.segments seg) (had.text ⨾ c.put_segment_by.ensures.text);
        fit = All-push (λ seg. AreWritable (segment_lines net seg)) had.segments seg had.fit (c.put_segment_by.ensures.fit small);
      };
      events = c.put_segment_by.ensures.events;
      acts = c.put_segment_by.ensures.acts;
    }

pub returns : goal.returns
returns g c =
    let put = c.loop-page.invariant.put in
    record {
      high = c.loop-page.solver.longest;
      low = c.loop-page.solver.shortest;
      longest = put.given.along.longest;
      shortest = put.given.along.shortest;
      segments = put.segments;
      front = given-all c.args.net.now c.loop-page.solver put.segments put.given (c.next_segment.ensures.ended.0 c.loop-page-test.false);
      text = put.text;
      head_fits = rw (← c.path.ensures, ← c.path-2.ensures) c.put_head.ensures.fit;
      fit = put.fit;
    }
