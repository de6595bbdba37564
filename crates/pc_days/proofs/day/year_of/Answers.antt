use Rattle.std.proofs.Common.{arith}
use Rattle.pc_days.proofs.Form.{form, are_digits-true}
use Rattle.pc_days.proofs.day.year_of.Goals as goal

pub number_at-requires-clause-within : goal.number_at-requires-clause-within
number_at-requires-clause-within c = omega (arith, (form c.args.field.now c.requires).long)

pub number_at-requires-clause-digits : goal.number_at-requires-clause-digits
number_at-requires-clause-digits c =
    are_digits-true c.args.field.now 0 (form c.args.field.now c.requires).century

pub number_at-requires-2-clause-within : goal.number_at-requires-2-clause-within
number_at-requires-2-clause-within c = omega (arith, (form c.args.field.now c.requires).long)

pub number_at-requires-2-clause-digits : goal.number_at-requires-2-clause-digits
number_at-requires-2-clause-digits c =
    are_digits-true c.args.field.now 2 (form c.args.field.now c.requires).year
