use Rattle.std.proofs.Common.{refl}
use Rattle.pc_curve.specs.bench.Report.{bench_text}
use Rattle.pc_curve.proofs.bench.report.put_bench.Goals as goal

pub returns-clause-text : goal.returns-clause-text
returns-clause-text g c =
    let figures = c.figures_of-figures.result in
    (bench_text c.args.n figures, record { figures = figures; right = c.figures_of-figures.ensures.figures; is = refl }, c.put_figures.ensures)
