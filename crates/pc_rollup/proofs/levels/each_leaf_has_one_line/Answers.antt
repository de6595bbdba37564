use Rattle.pc_rollup.proofs.LineLaws.{line_of_leaf}
use Rattle.pc_rollup.proofs.levels.each_leaf_has_one_line.Goals as goal

pub returns : goal.returns
returns c = record {
  one = λ rows level x ranged tree some lt leaf. let (y, line) = line_of_leaf rows level x ranged tree some lt leaf in (y, (line.known, line.line, line.at, line.only));
}
