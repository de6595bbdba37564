use Rattle.pc_rollup.proofs.lemmas.figures.FigureLaws.{lines_have_charges}
use Rattle.pc_rollup.proofs.figures.summary.each_charge_counts_once.Goals as goal

pub returns : goal.returns
returns c = record { once = lines_have_charges }
