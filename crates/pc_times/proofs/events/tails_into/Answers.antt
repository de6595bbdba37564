use Rattle.std.proofs.Common.{◌≡◌, ℕ, List, refl, subst, sym, arith}
use Rattle.std.specs.Slice.Iter.{iter_rest}
use Rattle.std.specs.Iterator.Adapters.{rev_source}
use Rattle.std.proofs.lemmas.List.{length_push, length-reverse}
use Rattle.std.proofs.lemmas.Iterator.Adapters.{YieldsList-from_rev_slice}
use Rattle.std.proofs.lemmas.Iterator.Consumers.{YieldsList-turn, YieldsList-end}
use Rattle.pc_model.specs.Network.{IsOrder}
use Rattle.pc_model.proofs.Walks.PlaceLaws.{place_from_end}
use Rattle.pc_times.specs.inside.Passes.{AreTailsAfter}
use Rattle.pc_times.proofs.TimesLaws.{has_bounded_walks, tails_none, tails_after, tails_more, tails_all}
use Rattle.pc_times.proofs.LateLaws.{tails_limit}
use Rattle.pc_times.proofs.events.tails_into.Goals as goal

pub loop-event-init : goal.loop-event-init
loop-event-init c =
    tails_none _ _ _ _ c.requires.places

pub longest_departure-requires-clause-walks : goal.longest_departure-requires-clause-walks
longest_departure-requires-clause-walks c =
    has_bounded_walks _ _ _ c.order.ensures.in_range c.order.ensures.sound c.order.ensures.order (omega arith) c.requires.lengths

pub longest_departure-requires-clause-after : goal.longest_departure-requires-clause-after
longest_departure-requires-clause-after c =
    let order = iter_rest (rev_source c.into_iter-event-iterator.result) in
    let same : order ≡ c.order.result.now = cc in
    let ordered : IsOrder c.args.net.now order = subst (λ (xs : List ℕ). IsOrder c.args.net.now xs) (sym same) c.order.ensures.order in
    let turn = YieldsList-turn (YieldsList-from_rev_slice order refl) c.loop-event.yielded _ c.loop-event.yielded_by _ _ c.in-Some.field-0 c.in-Some.is c.next.ensures.steps in
    let (i, in_order, place, at) = place_from_end order _ _ turn.0 turn.1 in
    (subst (λ (e : ℕ). AreTailsAfter c.args.net.now c.args.lengths.now c.loop-event.tails e) at (tails_after _ _ _ _ i _ c.order.ensures.in_range ordered c.loop-event.invariant in_order place))

pub loop-event-preserved : goal.loop-event-preserved
loop-event-preserved c =
    let order = iter_rest (rev_source c.into_iter-event-iterator.result) in
    let same : order ≡ c.order.result.now = cc in
    let ordered : IsOrder c.args.net.now order = subst (λ (xs : List ℕ). IsOrder c.args.net.now xs) (sym same) c.order.ensures.order in
    let turn = YieldsList-turn (YieldsList-from_rev_slice order refl) c.loop-event.yielded _ c.loop-event.yielded_by _ _ c.in-Some.field-0 c.in-Some.is c.next.ensures.steps in
    let (i, in_order, place, at) = place_from_end order _ _ turn.0 turn.1 in
    tails_more _ _ _ order i _ _ ordered c.loop-event.invariant in_order place at (length_push c.loop-event.yielded c.in-Some.field-0) c.longest_departure.ensures

pub returns-clause-tails : goal.returns-clause-tails
returns-clause-tails c =
    let order = iter_rest (rev_source c.into_iter-event-iterator.result) in
    let same : order ≡ c.order.result.now = cc in
    let ordered : IsOrder c.args.net.now order = subst (λ (xs : List ℕ). IsOrder c.args.net.now xs) (sym same) c.order.ensures.order in
    let end = YieldsList-end (YieldsList-from_rev_slice order refl) c.loop-event.yielded _ c.loop-event.yielded_by _ _ c.in-None.is c.next.ensures.steps in
    tails_all _ _ _ order _ ordered c.loop-event.invariant (omega (arith, end.1, length-reverse order))

pub returns-clause-limit : goal.returns-clause-limit
returns-clause-limit c =
    let order = iter_rest (rev_source c.into_iter-event-iterator.result) in
    let same : order ≡ c.order.result.now = cc in
    let ordered : IsOrder c.args.net.now order = subst (λ (xs : List ℕ). IsOrder c.args.net.now xs) (sym same) c.order.ensures.order in
    let end = YieldsList-end (YieldsList-from_rev_slice order refl) c.loop-event.yielded _ c.loop-event.yielded_by _ _ c.in-None.is c.next.ensures.steps in
    let walks = has_bounded_walks _ _ _ c.order.ensures.in_range c.order.ensures.sound c.order.ensures.order (omega arith) c.requires.lengths in
    tails_limit c.args.net.now c.args.lengths.now _ walks (tails_all _ _ _ order _ ordered c.loop-event.invariant (omega (arith, end.1, length-reverse order)))

pub returns-clause-walks : goal.returns-clause-walks
returns-clause-walks c =
    has_bounded_walks _ _ _ c.order.ensures.in_range c.order.ensures.sound c.order.ensures.order (omega arith) c.requires.lengths
