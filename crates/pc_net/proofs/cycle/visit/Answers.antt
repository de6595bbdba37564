use Rattle.std.proofs.Common.{◌≡◌, ℕ, ◌<◌, ◌+◌, List, length, slice_index, slice_index_or, refl, sym, ◌∙◌, ap, subst, arith}
use Rattle.std.proofs.lemmas.List.{get_or_read}
use Rattle.pc_model.specs.inside.Greatest.{IsListed}
use Rattle.pc_model.specs.Network.{Network}
use Rattle.pc_model.specs.Walk.{from_of, to_of}
use Rattle.pc_net.proofs.SearchLaws.{IsVisit-skip, IsVisit-find, IsSearchBack-short}
use Rattle.pc_net.proofs.cycle.visit.Goals as goal
use Rattle.pc_net.proofs.cycle.visit.Goals.{then-index-eq0+in_ok-push, else-index-eq0}

-- the activities listed at the event that was read are those that end where the step at this place begins
entering : (net : Network) (steps : List ℕ) (at step event : ℕ) (xs : List ℕ) → at < length steps → step ≡ slice_index_or steps at step →
    event ≡ from_of net.arcs step → IsListed (λ b. to_of net.arcs b ≡ event) (length net.arcs) xs →
    IsListed (λ b. to_of net.arcs b ≡ from_of net.arcs (slice_index steps at)) (length net.arcs) xs
entering net steps at step event xs queued read is listed =
    subst (λ (e : ℕ). IsListed (λ b. to_of net.arcs b ≡ e) (length net.arcs) xs) (is ∙ ap (from_of net.arcs) (get_or_read steps at step queued read 0)) listed

pub overflow_cast-len : goal.overflow_cast-len
overflow_cast-len c =
    omega (
      arith,
      c.len.ensures,
      c.in_ok-push.ensures.len,
      c.loop-step.steps.ok.0,
      c.loop-step.ranks.ok.0,
      IsSearchBack-short c.args.graph.now c.args.a c.loop-step.steps.items c.loop-step.ranks.items c.args.at c.loop-step.invariant.1.search,
      c.loop-step.invariant.1.search.ranks_len,
      c.loop-step.invariant.0,
      c.requires.few,
    )

pub loop-step-preserved : goal.loop-step-preserved
loop-step-preserved c =
    let net = c.args.graph.now in
    let steps = c.loop-step.steps.items in
    let ranks = c.loop-step.ranks.items in
    let j = c.loop-step.step-index in
    let listed = entering net c.args.steps.now.items c.args.at _ _ _ c.requires.queued c.index.ensures c.from.ensures.event c.in_arcs-step-items.ensures.listed in
    let at_j = listed.each j c.loop-step-test.true in
    let v = c.from-before.result in
    let visit = c.loop-step.invariant.1 in
    let read : c.index-in-loop-step.result.now ≡ slice_index ranks v = get_or_read ranks v _ (omega (arith, c.from-before.ensures.known, visit.search.ranks_len)) c.index-in-loop-step.ensures 0 in
    elim c.if-index-eq0.branch [
      | then-index-eq0+in_ok-push w ↦
          let b = slice_index c.in_arcs-step-items.result.now j in
          let rank : w.len.result ≡ length steps + 1 = omega (arith, w.len.ensures, w.in_ok-push.ensures.len, c.loop-step.steps.ok.0) in
          let found = IsVisit-find net c.args.a steps ranks c.args.at _ _ j visit b v refl at_j.0 at_j.1
          (sym c.from-before.ensures.event) c.from-before.ensures.known (sym read ∙ w.if-index-eq0.true) in
          rw (w.steps-is, w.ranks-is) (rw (w.in_ok-push.ensures.items, rank) (c.loop-step.invariant.0, found))
      | else-index-eq0 w ↦ rw (w.steps-is, w.ranks-is) (
        c.loop-step.invariant.0,
        IsVisit-skip net c.args.a steps ranks c.args.at _ _ j visit
            (λ none. w.if-index-eq0.false (read ∙ ap (slice_index ranks) c.from-before.ensures.event ∙ none)),
      )
    ]
