-- What the benchmark prints.
use Rattle.std.specs.Prelude.{◌≡◌, ℕ, List, ◌++◌, codes, decimal}
use Rattle.pc_edges.specs.page.Lines.{number_line, named_line}
use Rattle.pc_crash.specs.Priced.{PricedNetwork}
use Rattle.pc_curve.specs.declared.bench.figures.CurveFigures.{CurveFigures}
use Rattle.pc_curve.specs.bench.Figures.{IsFiguresOf}

-- a name, a length and its cost
abbrev pub point_line : List ℕ → ℕ → ℕ → List ℕ
point_line name length cost = named_line name (decimal length) cost

-- the lines of the benchmark of n activities
abbrev pub bench_text : ℕ → CurveFigures → List ℕ
bench_text n f =
    number_line (codes "BENCH ") n
    ++ (point_line (codes "NORMAL ") f.longest f.longest_cost
    ++ (point_line (codes "CRASH ") f.shortest f.shortest_cost ++ (number_line (codes "BREAKS ") f.breaks ++ number_line (codes "SUM ") f.sum)))

-- the text is that of the figures of the network's curve
pub record IsBenchText (n : ℕ) (net : PricedNetwork) (text : List ℕ) : Type 0 where
  pub figures : CurveFigures
  pub right : IsFiguresOf net figures
  pub is : text ≡ bench_text n figures
