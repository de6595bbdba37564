use Rattle.pc_curve.specs.Points.{curve_in}
use Rattle.pc_curve.proofs.ListLaws.{list-begins, list-grows, list-whole}
use Rattle.pc_curve.proofs.breaks.breaks_make_the_list.Goals as goal

pub returns-clause-begins : goal.returns-clause-begins
returns-clause-begins c net shortest longest = list-begins (curve_in net) shortest longest

pub returns-clause-grows : goal.returns-clause-grows
returns-clause-grows c net shortest longest last points point so_far next = list-grows (curve_in net) shortest longest last points point so_far next

pub returns-clause-whole : goal.returns-clause-whole
returns-clause-whole c net shortest longest points ordered all = list-whole (curve_in net) shortest longest points ordered all
