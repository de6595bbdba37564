use Rattle.std.proofs.Common.{None, refl, subst, sym, ap, replicate, ◌∙◌, length}
use Rattle.pc_check.specs.inside.fast.Passed.{ArePassed, IsNothing}
use Rattle.pc_check.specs.declared.fast.passed.Passed.{Passed}
use Rattle.pc_check.proofs.lemmas.fast.PassedLaws.{nothing_passed, nothing_flows}
use Rattle.pc_check.proofs.fast.passed.none_passed.Goals as goal

pub returns-clause-passed : goal.returns-clause-passed
returns-clause-passed c =
    let net = c.args.net.now in
    let nothing : Passed = record { text = c.new.result; duration = 0; flows = c.new-2.result; flow = 0; cost = 0; least = 0; most = 0; low = 0; high = 0 } in
    let count = c.activities-activities.ensures.activities ∙ ap (λ n. length n.arcs) c.net.ensures.network in
    subst (ArePassed net) (sym (c.in_ok-rows.ensures.items_if_clones_equal (λ y is. cc) ∙ ap (λ n. replicate n nothing) count))
    (nothing_passed net nothing c.new.ensures.none (c.new.ensures.text None) refl refl)

pub returns-clause-nothing : goal.returns-clause-nothing
returns-clause-nothing c =
    let net = c.args.net.now in
    let nothing : Passed = record { text = c.new.result; duration = 0; flows = c.new-2.result; flow = 0; cost = 0; least = 0; most = 0; low = 0; high = 0 } in
    let count = c.activities-activities.ensures.activities ∙ ap (λ n. length n.arcs) c.net.ensures.network in
    subst (IsNothing net) (sym (c.in_ok-rows.ensures.items_if_clones_equal (λ y is. cc) ∙ ap (λ n. replicate n nothing) count))
    (nothing_flows net nothing refl refl)
