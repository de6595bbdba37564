use Rattle.std.proofs.Common.{◌≡◌, slice_index, below_more, sym, ◌∙◌, ap, arith}
use Rattle.std.proofs.lemmas.List.{get_or_read}
use Rattle.pc_model.specs.Walk.{from_of, to_of}
use Rattle.pc_net.specs.Cycles.{LiesOnCycle}
use Rattle.pc_net.proofs.LabelLaws.{apart_off_cycle}
use Rattle.pc_net.proofs.SearchLaws.{off_cycle, way_round, IsFirstCycle-from_round}
use Rattle.pc_net.proofs.cycle.first_cycle.Goals as goal

pub index-requires : goal.index-requires
index-requires c = omega (arith, c.from.ensures.known, c.in_ok-labels.ensures.sized, c.in_ok-labels.labels.ok.0)

pub index-requires-in-loop-a : goal.index-requires-in-loop-a
index-requires-in-loop-a c = omega (arith, c.to.ensures.known, c.in_ok-labels.ensures.sized, c.in_ok-labels.labels.ok.0)

pub search-requires-clause-sized : goal.search-requires-clause-sized
search-requires-clause-sized c = c.loop-a.invariant.0

pub search-requires-clause-few : goal.search-requires-clause-few
search-requires-clause-few c = omega (arith, c.loop-a.invariant.0, c.events.ensures.events, c.events.ensures.limit)

pub index-requires-in-loop-a-2 : goal.index-requires-in-loop-a-2
index-requires-in-loop-a-2 c = omega (arith, c.to-in-loop-a.ensures.known, c.search.ensures.sized)

pub loop-a-preserved-then-index : goal.loop-a-preserved-then-index
loop-a-preserved-then-index c =
    let arcs = c.args.graph.now.arcs in
    let labels = c.in_ok-labels.labels.items in
    let sized = c.in_ok-labels.ensures.sized in
    let from_label : c.index.result.now
    ≡ slice_index labels (from_of arcs c.loop-a.a) =
    get_or_read labels c.from.result _ (omega (arith, c.from.ensures.known, sized, c.in_ok-labels.labels.ok.0)) c.index.ensures 0
    ∙ ap (slice_index labels) c.from.ensures.event in
    let to_label : c.index-in-loop-a.result.now
    ≡ slice_index labels (to_of arcs c.loop-a.a) =
    get_or_read labels c.to.result _ (omega (arith, c.to.ensures.known, sized, c.in_ok-labels.labels.ok.0)) c.index-in-loop-a.ensures 0
    ∙ ap (slice_index labels) c.to.ensures.event in (
      c.loop-a.invariant.0,
      below_more (λ b. LiesOnCycle arcs b → ⊥) c.loop-a.a c.loop-a.invariant.1
          (apart_off_cycle arcs labels c.loop-a.a c.in_ok-labels.ensures.never_falls
          (λ same. c.if-index.true (from_label ∙ same ∙ sym to_label))),
    )

pub returns-then-index-ne0 : goal.returns-then-index-ne0
returns-then-index-ne0 c =
    IsFirstCycle-from_round c.args.graph.now.arcs c.loop-a.a c.in_ok-cycle.cycle.items c.in_ok-cycle.ensures c.loop-a.invariant.1

pub loop-a-preserved : goal.loop-a-preserved
loop-a-preserved c =
    let net = c.args.graph.now in
    let ranks = c.search.new.ranks.items in
    let search = c.in_ok-search.ensures.searched in
    let end = c.to-in-loop-a in
    let read : c.index-in-loop-a-2.result.now ≡ slice_index ranks end.result = get_or_read ranks end.result _ (omega (arith, end.ensures.known, search.ranks_len)) c.index-in-loop-a-2.ensures 0 in
    let none : slice_index ranks (to_of net.arcs c.loop-a.a) ≡ 0 = ap (slice_index ranks) (sym end.ensures.event) ∙ omega (arith, read, c.if-index-ne0.false) in
    (omega (arith, c.search.ensures.sized), below_more (λ b. LiesOnCycle net.arcs b → ⊥) c.loop-a.a c.loop-a.invariant.1 (off_cycle net c.loop-a.a c.search.new.steps.items ranks search none))

pub returns : goal.returns
returns c = λ a lies. c.loop-a.invariant.1 a (omega (arith, (way_round c.args.graph.now.arcs a lies).0, c.activities-a-end.ensures.activities)) lies
