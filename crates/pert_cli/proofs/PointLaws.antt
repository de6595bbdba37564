-- Lengths of a network's range and their schedules.
use Rattle.std.proofs.Common.{◌≡◌, ℕ, List, ◌++◌, sym, subst}
use Rattle.pc_faults.specs.declared.fault.Fault.{Fault}
use Rattle.pc_crash.specs.Priced.{PricedNetwork}
use Rattle.pc_project.specs.Project.{Project}
use Rattle.pc_rollup.specs.figures.Outlook.{amounts_at, IsWholeOutlook, Outlook as TheOutlook}
use Rattle.pc_reports.specs.OutlookText.{IsOutlook, outlook_text}
use Rattle.pc_reports.specs.inside.OutlookText.{TellsTop}
use Rattle.pert_cli.specs.declared.forms.Form.TheVariants.{Point, Outlook}
use Rattle.pc_project.specs.shell.Priced.{priced_in}
use Rattle.pert_cli.specs.Handing.{IsReply}
use Rattle.pert_cli.specs.Normal.{Printed, printed_text}
use Rattle.pc_curve.specs.Range.{IsLengthInRange}
use Rattle.pc_curve.proofs.RangeLaws.{outside_range}
use Rattle.pert_cli.specs.Point.{IsCheapestFor, IsOutside}

-- no length is both one of the network and none
pub within_not_outside : (net : PricedNetwork) (limit : ℕ) (fault : Fault) → IsLengthInRange net limit → IsOutside net limit fault → ⊥
within_not_outside net limit fault inside out = outside_range net out.shortest out.longest limit out.range out.outside inside

-- the text of a schedule of least cost for the length answers `point`
pub point_reply : (project : Project) (limit : ℕ) (printed : Printed) (text : List ℕ) → IsCheapestFor (priced_in project) limit printed →
    text ≡ printed_text project printed → IsReply (Point limit) project text
point_reply project limit printed text right is = record {
  right = record { printed = printed; right = right; is = is };
  fits = λ fault. within_not_outside (priced_in project) limit fault right.within;
}

-- so does the text of one with the outlook of the items at its durations answer `outlook`
pub outlook_reply : (project : Project) (limit : ℕ) (printed : Printed) (outlook : TheOutlook) (text : List ℕ) →
    IsCheapestFor (priced_in project) limit printed → IsOutlook project printed.durations outlook →
    TellsTop project printed.durations outlook
    → text ≡ printed_text project printed ++ outlook_text project outlook → IsReply (Outlook limit) project text
outlook_reply project limit printed outlook text right at top is = record {
  right = record {
    printed = printed;
    right = right;
    outlook = outlook;
    at = at;
    whole = λ k of_tree. subst (λ cost. IsWholeOutlook project.places project.accounts project.entries cost (amounts_at outlook.amounts k).outlook) (sym right.cheapest.cost) (top k of_tree);
    is = is;
  };
  fits = λ fault. within_not_outside (priced_in project) limit fault right.within;
}
