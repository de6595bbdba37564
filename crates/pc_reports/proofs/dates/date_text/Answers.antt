use Rattle.std.proofs.Common.{refl, ◌∙◌, arith}
use Rattle.std.proofs.lemmas.Int.{ints}
use Rattle.pc_reports.specs.Times.{printed}
use Rattle.pc_reports.proofs.DateLaws.{date_of-printed, date_of-past}
use Rattle.pc_reports.proofs.dates.date_text.Goals as goal

pub returns-in-Some-clause-date : goal.returns-in-Some-clause-date
returns-in-Some-clause-date c =
    printed c.in-Some.day (omega (arith, ints, c.in-Some.ensures.after.0), omega (arith, ints, c.in-Some.ensures.after.1))
    c.in-Some.ensures.printed c.day_text.ensures.named

pub returns-in-Some-clause-value : goal.returns-in-Some-clause-value
returns-in-Some-clause-value c =
    c.day_text.ensures.text ∙ date_of-printed c.args.start c.args.sixths c.in-Some.day
    (omega (arith, ints, c.in-Some.ensures.after.0), omega (arith, ints, c.in-Some.ensures.after.1)) c.in-Some.ensures.printed

pub returns-in-None-clause-value : goal.returns-in-None-clause-value
returns-in-None-clause-value c =
    date_of-past c.args.start c.args.sixths (λ day after. c.in-None.ensures.none refl day (omega (arith, ints, after.0), omega (arith, ints, after.1)))
