use Rattle.std.proofs.Common.{◌≡◌, None, refl, sym, subst}
use Rattle.pc_whatif.specs.declared.edits.Edits.TheInside.{Inside}
use Rattle.pc_project.specs.shell.Priced.{priced_in}
use Rattle.pc_project.proofs.lemmas.shell.PricedLaws.{priced_is}
use Rattle.pc_whatif.specs.edits.Standing.{IsEditedBy, empty}
use Rattle.pc_whatif.proofs.lemmas.edits.BegunLaws.{begun_whole, editing_is}
use Rattle.pc_whatif.proofs.lemmas.edits.StandingLaws.{IsEditedBy-begun}
use Rattle.pc_whatif.proofs.edits.Edits.build.Goals as goal

-- the priced network is the project's
net_is : (c : goal.In_ok-priced) → c.in_ok-priced.field-0 ≡ priced_in c.args.project.now
net_is c =
    let is = c.in_ok-priced.ensures in
    priced_is c.in_ok-priced.field-0 c.args.project.now is.network is.terms is.pieces is.project is.events is.activities

-- the fields
abbrev fields : goal.In_ok-priced → Inside
fields c = record { net = c.in_ok-priced.field-0; estimates = c.in_ok-estimates_of.field-0; unit_days = c.unit_days.result; kept = c.in_ok-with_capacity.field-0; aside = None }

pub invariant_of-result : goal.invariant_of-result
invariant_of-result c =
    begun_whole c.args.project.now c.facts.ensures.planned (fields c)
    (net_is c) c.in_ok-estimates_of.ensures c.unit_days.ensures.unit c.in_ok-with_capacity.ensures refl

pub returns-clause-standing : goal.returns-clause-standing
returns-clause-standing c =
    subst (IsEditedBy c.args.project.now empty)
    (sym (editing_is c.args.project.now c.facts.ensures.planned (fields c) (net_is c) c.in_ok-estimates_of.ensures c.unit_days.ensures.unit c.in_ok-with_capacity.ensures refl))
    (IsEditedBy-begun c.args.project.now)
