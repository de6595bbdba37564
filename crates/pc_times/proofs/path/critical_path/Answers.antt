use Rattle.std.proofs.Common.{◌≡◌, ℕ, List, subst, sym, ap}
use Rattle.pc_model.specs.Network.{IsLongest}
use Rattle.pc_times.specs.Picked.{IsLongestWalk}
use Rattle.pc_times.specs.inside.Picked.{LongestWalk}
use Rattle.pc_times.proofs.path.critical_path.Goals as goal

pub returns-clause-longest : goal.returns-clause-longest
returns-clause-longest c =
    let same : c.result.inside.path.items ≡ c.in_ok-longest.field-0.path = ap (λ (found : LongestWalk). found.path) c.result.view_is in
    let longest : IsLongestWalk c.args.net.now c.args.lengths.now c.in_ok-longest.field-0.path =
    (c.in_ok-longest.ensures.through, subst (λ (n : ℕ). IsLongest c.args.net.now c.args.lengths.now n) (sym c.in_ok-longest.ensures.sum) c.in_ok-longest.ensures.length) in
    subst (λ (path : List ℕ). IsLongestWalk c.args.net.now c.args.lengths.now path) (sym same) longest
