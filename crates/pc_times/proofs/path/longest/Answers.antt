use Rattle.std.proofs.Common.{◌≡◌, ℕ, ◌<◌, slice_index, length, subst, sym, ◌∙◌, ap, arith}
use Rattle.std.proofs.lemmas.List.{get_or_read}
use Rattle.pc_model.specs.Network.{IsLongest}
use Rattle.pc_times.proofs.path.longest.Goals as goal

pub returns-clause-length : goal.returns-clause-length
returns-clause-length c =
    let early = c.in_ok-times.ensures.times in
    let times = c.in_ok-times.times.items in
    let in_range : c.end.result < length times = omega (arith, c.end.ensures.known, early.one_each) in
    let read : c.index.result.now ≡ slice_index times c.args.net.now.end =
    get_or_read times c.end.result c.index.result.now in_range c.index.ensures 0 ∙ ap (slice_index times) c.end.ensures.end in
    subst (λ (n : ℕ). IsLongest c.args.net.now c.args.lengths.now n) (sym read) (early.each c.args.net.now.end (omega (arith, c.end.ensures.known, c.end.ensures.end)))
