use Rattle.std.proofs.Common.{◌∙◌, subst, sym}
use Rattle.pc_crash.specs.Priced.{PricedNetwork}
use Rattle.pc_curve.specs.Range.{IsRange}
use Rattle.pert_cli.proofs.solving.solve.Goals as goal

pub begin-solver-requires : goal.begin-solver-requires
begin-solver-requires g c = rw c.requires c.in_ok-solver_region.ensures

pub run_counted-requires-clause-start : goal.run_counted-requires-clause-start
run_counted-requires-clause-start g c =
    let begun = c.begin-solver.ensures in
    record {
      net = begun.net ∙ c.requires;
      before = begun.given;
      range = subst (λ (net : PricedNetwork). IsRange net c.begin-solver.result.shortest c.begin-solver.result.longest) (sym begun.net)
          (record { all_crash = begun.shortest; all_normal = begun.longest });
    }
