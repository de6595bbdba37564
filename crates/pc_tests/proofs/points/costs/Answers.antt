use Rattle.std.proofs.Common.{◌≡◌, ◌∙◌, sym, true, false, arith}
use Rattle.pc_tests.proofs.points.costs.Goals as goal

pub cost_at-seven-requires : goal.cost_at-seven-requires
cost_at-seven-requires g c = record {
  above = omega (arith, c.shortest.ensures.shortest, c.if-shortest-gt6.false);
  within = omega (arith, c.longest.ensures.longest, c.if-longest-lt7.false);
  below = λ given. let both : true ≡ false = sym given ∙ c.in_ok-solver.ensures.before in cc;
}
