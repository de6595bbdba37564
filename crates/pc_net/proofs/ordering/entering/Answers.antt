use Rattle.std.proofs.Common.{◌≡◌, ℕ, ◌<◌, ◌+◌, ◌==◌, length, slice_index, slice_set, count_by, take, cond, sym, ◌∙◌, ap, ⊎_elim, arith, length-take}
use Rattle.std.proofs.lemmas.Bool.{cases_eq}
use Rattle.std.proofs.lemmas.List.{get_or_read, get_or-set_same, get_or-set_other, length-set}
use Rattle.std.proofs.lemmas.List.Sums.{sum_by_more, count_by-le-length}
use Rattle.pc_net.specs.declared.graph.Side.TheVariants.{Ends}
use Rattle.pc_net.specs.inside.Sides.{events_of}
use Rattle.pc_net.proofs.SideLaws.{events_of_at, length-events_of}
use Rattle.pc_net.proofs.CountLaws.{one_at_same, one_at_other}
use Rattle.pc_net.proofs.ordering.entering.Goals as goal

pub overflow_add-index_mut : goal.overflow_add-index_mut
overflow_add-index_mut c =
    let xs = events_of Ends c.args.graph.now.arcs in
    let x = c.to.result in
    let read : c.index_mut.result.now
    ≡ slice_index c.loop-a.counts.items x =
    get_or_read c.loop-a.counts.items x _ (omega (arith, c.to.ensures.known, c.loop-a.invariant.0)) c.index_mut.ensures.value 0 in
    omega (arith, read, c.loop-a.invariant.1 x c.to.ensures.known, count_by-le-length (λ w. w == x) (take c.loop-a.a xs), length-take c.loop-a.a xs, c.activities-a-end.ensures.limit)

pub loop-a-preserved : goal.loop-a-preserved
loop-a-preserved c =
    let arcs = c.args.graph.now.arcs in
    let xs = events_of Ends arcs in
    let a = c.loop-a.a in
    let x = c.to.result in
    let counts = c.loop-a.counts.items in
    let x_in : x < length counts = omega (arith, c.to.ensures.known, c.loop-a.invariant.0) in
    let a_in : a < length arcs = omega (arith, c.activities-a-end.ensures.activities) in
    let read : c.index_mut.result.now ≡ slice_index counts x = get_or_read counts x _ x_in c.index_mut.ensures.value 0 in
    let here : slice_index xs a ≡ x = events_of_at Ends arcs a a_in ∙ sym c.to.ensures.event in
    let more : (v : ℕ) → count_by (λ w. w == v) (take (a + 1) xs)
    ≡ count_by (λ w. w == v) (take a xs) + cond (x == v) 1 0 =
    λ v. sum_by_more (λ w. cond {A = ℕ} (w == v) 1 0) xs a 0 (omega (arith, length-events_of Ends arcs))
    ∙ ap (λ y. count_by (λ w. w == v) (take a xs) + cond (y == v) 1 0) here in (
      length-set counts x _ ∙ c.loop-a.invariant.0,
      λ v v_known. ⊎_elim
          (λ same. ap (slice_index (slice_set counts x (c.index_mut.result.now + 1))) same ∙ get_or-set_same counts x _ 0 x_in
          ∙ omega (arith, read, more v, one_at_same v x (sym same), c.loop-a.invariant.1 v v_known, ap (slice_index counts) same))
          (λ other. get_or-set_other counts x v _ 0 other ∙ omega (arith, more v, one_at_other v x (λ e. other (sym e)), c.loop-a.invariant.1 v v_known))
          (cases_eq v x),
    )
