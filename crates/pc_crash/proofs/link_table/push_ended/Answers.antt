use Rattle.std.proofs.Common.{ℕ, ◌++◌, List, slice_index, sym, ◌∙◌, ap, arith}
use Rattle.std.proofs.lemmas.List.{append-nil, take_all}
use Rattle.pc_model.specs.Walk.{from_of}
use Rattle.pc_crash.specs.inside.Links.{links_of}
use Rattle.pc_crash.proofs.LinkLaws.{link_to, links_of-push}
use Rattle.pc_crash.proofs.link_table.push_ended.Goals as goal

pub loop-a-init : goal.loop-a-init
loop-a-init c = sym (append-nil c.args.links.now.items)

pub loop-a-preserved : goal.loop-a-preserved
loop-a-preserved c =
    rw c.in_ok-push.ensures.items
    (links_of-push (from_of c.args.net.now.arcs) c.args.links.now.items c.loop-a.links.items c.in_arcs-a-items.result.now c.loop-a.a-index _
    c.loop-a.invariant (omega (arith, c.loop-a-test.true)) (ap (λ (e : ℕ). link_to (slice_index c.in_arcs-a-items.result.now c.loop-a.a-index) e) c.from.ensures.event))

pub returns : goal.returns
returns c =
    let xs = c.in_arcs-a-items.result.now in
    c.loop-a.invariant ∙ ap (λ (ys : List ℕ). c.args.links.now.items ++ links_of (from_of c.args.net.now.arcs) ys)
    (take_all c.loop-a.a-index xs (omega (arith, c.loop-a-test.false)) ∙ c.in_arcs-a-items.ensures.places)
