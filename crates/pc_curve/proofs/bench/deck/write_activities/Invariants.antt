use Rattle.std.proofs.Common.{◌≡◌, ◌≤◌, ◌++◌, ◌+◌, ◌*◌, string_bytes}
use Rattle.pc_edges.specs.Texts.{texts_to}
use Rattle.pc_model.specs.Sums.{sum_to}
use Rattle.pc_curve.specs.bench.Draws.{drawn}
use Rattle.pc_curve.specs.bench.Recipe.{activity, draws_to}
use Rattle.pc_curve.specs.bench.Deck.{activity_line}
use Rattle.pc_curve.proofs.bench.deck.write_activities.Given as goal

abbrev pub invariant-loop-k : goal.invariant-loop-k
invariant-loop-k l = record {
  draws : l.draws ≡ drawn l.n (draws_to l.n l.k);
  text : string_bytes l.deck ≡ string_bytes l.fn.deck ++ texts_to l.k (λ k. activity_line (k + 1) (activity l.n (k + 1)));
  costs : l.costs ≡ sum_to l.k (λ k. (activity l.n (k + 1)).cost);
  small : l.costs ≤ 100 * l.k;
}
