use Rattle.std.proofs.Common.{◌≡◌, ◌+◌, ◌<◌, drop, sym, ap, subst, arith}
use Rattle.std.proofs.lemmas.List.{take_all, length-drop}
use Rattle.pc_check.proofs.lemmas.fast.AlongLaws.{IsAlong, along_begins, along_ends, along_more, none_taken}
use Rattle.pc_check.proofs.fast.event_rows.advance_events.Goals as goal

pub loop-ends-init : goal.loop-ends-init
loop-ends-init c =
    let kept = c.args.kept.now in
    subst (λ p. IsAlong c.args.net.now c.args.piece.now c.args.piece.now c.args.reader.now kept kept p 0) (sym c.place-place.ensures)
    (along_begins c.args.piece.now c.requires (c.is_between.ensures c.if-not-is_between.false) (λ e. absurd (omega (arith, e, c.if-kept.false))))

pub overflow_add-count : goal.overflow_add-count
overflow_add-count c = omega (arith, c.loop-ends.invariant.left.run.few)

pub add_row-used-requires-clause-safe : goal.add_row-used-requires-clause-safe
add_row-used-requires-clause-safe c = c.loop-ends.invariant.safe

pub add_row-used-requires-clause-long : goal.add_row-used-requires-clause-long
add_row-used-requires-clause-long c = c.loop-ends.invariant.long

pub add_row-used-requires-clause-moves : goal.add_row-used-requires-clause-moves
add_row-used-requires-clause-moves c = c.loop-ends.invariant.bounded.moves

pub loop-ends-preserved : goal.loop-ends-preserved
loop-ends-preserved c =
    let net = c.args.net.now in
    let rest = c.loop-ends.rest.now in
    let used = c.add_row-used.result in
    let some : 0 < used = omega (arith, c.if-used-eq0.false) in
    subst (λ t. IsAlong net c.args.piece.now t c.args.reader.now c.args.kept.now c.add_row-used.new.kept c.add_row-used.new.place
    (c.loop-ends.count + 1)) (sym (take_all _ (drop used rest) (omega (arith, length-drop used rest))))
    (along_more used c.facts.ensures.events c.facts.ensures.activities c.loop-ends.invariant (c.add_row-used.ensures.adds some) c.add_row-used.ensures.safe)

pub go_on-requires : goal.go_on-requires
go_on-requires c = omega (arith, c.requires.alike, c.loop-ends.invariant.left.run.alike, c.loop-ends.invariant.left.run.few)

pub overflow_add-kept : goal.overflow_add-kept
overflow_add-kept c = omega (arith, c.loop-ends.invariant.left.run.few, ap (λ k. k.lines) (c.add_row-used.ensures.same_kept (omega (arith, c.if-used-eq0.true))))

pub overflow_sub-result : goal.overflow_sub-result
overflow_sub-result c = omega (arith, c.loop-ends.invariant.left.long)

pub returns : goal.returns
returns c =
    let nothing : c.add_row-used.result ≡ 0 = omega (arith, c.if-used-eq0.true) in
    along_ends c.go_on.new.self c.add_row-used.new.place c.add_row-used.new.kept c.loop-ends.invariant
    (c.add_row-used.ensures.same_place nothing) (c.add_row-used.ensures.same_kept nothing) c.go_on.ensures

pub returns-then-not-is_between : goal.returns-then-not-is_between
returns-then-not-is_between c = none_taken c.args.piece.now c.requires

pub add_row-used-requires-clause-ends : goal.add_row-used-requires-clause-ends
add_row-used-requires-clause-ends c = c.ends_of-ends.ensures

pub add_row-used-requires-clause-fronts : goal.add_row-used-requires-clause-fronts
add_row-used-requires-clause-fronts c = c.requires.fronts
