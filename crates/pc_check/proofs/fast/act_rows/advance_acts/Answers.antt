use Rattle.std.proofs.Common.{◌≡◌, ◌+◌, ◌<◌, ◌≤◌, drop, length, sym, ap, subst, ◌∙◌, arith}
use Rattle.std.proofs.lemmas.List.{take_all, length-drop}
use Rattle.pc_check.specs.inside.fast.Rows.{across_at}
use Rattle.pc_check.proofs.lemmas.fast.AlongLaws.{IsAlong, along_begins, along_ends, along_more, none_taken}
use Rattle.pc_check.proofs.lemmas.fast.PassedLaws.{safe_again}
use Rattle.pc_check.proofs.fast.act_rows.advance_acts.Goals as goal

pub loop-same-init : goal.loop-same-init
loop-same-init c =
    let kept = c.args.kept.now in
    subst (λ p. IsAlong c.args.net.now c.args.piece.now c.args.piece.now c.args.reader.now kept kept p 0) (sym c.place-place.ensures)
    (along_begins c.args.piece.now c.requires (c.is_between.ensures c.if-not-is_between.false) (λ e. absurd (omega (arith, e, c.if-kept.false))))

pub slice_bounds-rest-count : goal.slice_bounds-rest-count
slice_bounds-rest-count c = (c.pass_same-same.ensures.adds c.loop-same.cut (omega (arith, c.if-same-eq0.false))).again.within

pub slice_bounds-rest-start : goal.slice_bounds-rest-start
slice_bounds-rest-start c = (c.pass_same-same.ensures.adds c.loop-same.cut (omega (arith, c.if-same-eq0.false))).again.within

pub loop-same-2-smaller : goal.loop-same-2-smaller
loop-same-2-smaller c =
    let rest = c.loop-same-2.rest.now in
    let used = c.pass_same-same.result in
    let some : 0 < used = omega (arith, c.if-same-eq0.false) in
    subst (λ t. length t < length rest) (sym (take_all _ (drop used rest) (omega (arith, length-drop used rest))))
    (omega (arith, length-drop used rest, some, (c.pass_same-same.ensures.adds c.loop-same.cut some).again.within))

pub loop-same-2-preserved : goal.loop-same-2-preserved
loop-same-2-preserved c =
    let net = c.args.net.now in
    let rest = c.loop-same-2.rest.now in
    let used = c.pass_same-same.result in
    let along = c.loop-same-2.invariant.0 in
    let some : 0 < used = omega (arith, c.if-same-eq0.false) in
    subst (λ t. IsAlong net c.args.piece.now t c.args.reader.now c.args.kept.now
    (across_at c.args.kept.now (c.loop-same-2.a + 1) c.loop-same.cut) c.pass_same-same.new.place (c.loop-same-2.count + 1) × (length t ≤ length c.loop-same.rest.now))
    (sym (take_all _ (drop used rest) (omega (arith, length-drop used rest)))) (
      along_more used c.facts.ensures.events c.facts.ensures.activities along (c.pass_same-same.ensures.adds c.loop-same.cut some) (safe_again along.safe (c.pass_same-same.ensures.known some)),
      omega (arith, length-drop used rest, c.loop-same-2.invariant.1),
    )

pub loop-same-preserved : goal.loop-same-preserved
loop-same-preserved c =
    let net = c.args.net.now in
    let rest = c.loop-same-2.rest.now in
    let used = c.pass_across-used.result in
    let some : 0 < used = omega (arith, c.if-used-eq0.false) in
    let along = subst (λ p. IsAlong net c.args.piece.now rest c.args.reader.now c.args.kept.now (across_at c.args.kept.now c.loop-same-2.a c.loop-same.cut) p c.loop-same-2.count)
    (sym (c.pass_same-same.ensures.same_place (omega (arith, c.if-same-eq0.true)))) c.loop-same-2.invariant.0 in
    subst (λ t. IsAlong net c.args.piece.now t c.args.reader.now c.args.kept.now
    (across_at c.args.kept.now (c.loop-same-2.a + 1) c.pass_across-used.new.cut) c.pass_across-used.new.place (c.loop-same-2.count + 1))
    (sym (take_all _ (drop used rest) (omega (arith, length-drop used rest))))
    (along_more used c.facts.ensures.events c.facts.ensures.activities along (c.pass_across-used.ensures.adds some) (c.pass_across-used.ensures.safe some))

pub returns : goal.returns
returns c =
    let none : c.pass_same-same.result ≡ 0 = omega (arith, c.if-same-eq0.true) in
    let nothing : c.pass_across-used.result ≡ 0 = omega (arith, c.if-used-eq0.true) in
    along_ends c.go_on.new.self c.pass_across-used.new.place (across_at c.args.kept.now c.loop-same-2.a c.pass_across-used.new.cut) c.loop-same-2.invariant.0
    (c.pass_across-used.ensures.same_place nothing ∙ c.pass_same-same.ensures.same_place none)
    (ap (across_at c.args.kept.now c.loop-same-2.a) (c.pass_across-used.ensures.same_cut nothing)) c.go_on.ensures

pub returns-then-not-is_between : goal.returns-then-not-is_between
returns-then-not-is_between c = none_taken c.args.piece.now c.requires
