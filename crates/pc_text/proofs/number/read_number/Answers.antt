use Rattle.std.proofs.Common.{◌∙◌}
use Rattle.pc_text.proofs.NumberLemmas.{number_spelled, number_read}
use Rattle.pc_text.proofs.number.read_number.Goals as goal

pub returns-clause-spelled : goal.returns-clause-spelled
returns-clause-spelled c = number_spelled c.args.field.now c.read_numeral.result c.read_numeral.ensures

pub returns-clause-read : goal.returns-clause-read
returns-clause-read c = λ n h. c.read_numeral.ensures ∙ number_read c.args.field.now n h
