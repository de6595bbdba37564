use Rattle.std.proofs.Common.{◌≡◌, ◌++◌, subst, sym}
use Rattle.pc_certify.specs.Certificate.{IsCertificate}
use Rattle.pc_load.specs.LoadText.{load_text}
use Rattle.pc_project.specs.deck_text.Written.{IsDeckText}
use Rattle.pc_reports.specs.OutlookText.{outlook_text}
use Rattle.pc_project.specs.shell.Priced.{priced_in}
use Rattle.pc_project.specs.shell.Sides.{side}
use Rattle.pert_cli.specs.Normal.{printed_text}
use Rattle.pert_cli.specs.declared.curve.CurveLines.{CurveLines}
use Rattle.pert_cli.specs.declared.forms.Form.TheVariants.{Curve, Certify, Point, Outlook, Bench, Migrate, Arrows, Load}
use Rattle.pert_cli.specs.inside.Solving.{IsLinesOf}
use Rattle.pert_cli.proofs.HandingLaws.{replies}
use Rattle.pert_cli.proofs.LoadLaws.{load_reply}
use Rattle.pert_cli.proofs.PointLaws.{outlook_reply, point_reply}
use Rattle.pert_cli.proofs.forms.Form.report.Goals as goal

pub returns-in_ok-report-in-Curve : goal.returns-in_ok-report-in-Curve
returns-in_ok-report-in-Curve g c =
    let o = g.O.Sink in
    let net = priced_in c.args.project.now in
    let built = c.in_ok-report-in-Curve in
    rw c.in-Curve.is (replies Curve c.args.project.now (IsLinesOf built.report.lines net)
    (side o.taken o.faults c.args.out.now c.deliver-in-Curve.new.out) c.deliver-in-Curve.result
    (λ text is. record { right = subst (λ (lines : CurveLines). IsLinesOf lines net text) built.ensures.lines is; fits = λ fault denied. denied })
    c.deliver-in-Curve.ensures)

pub returns-in_ok-report-in-Certify : goal.returns-in_ok-report-in-Certify
returns-in_ok-report-in-Certify g c =
    let o = g.O.Sink in
    rw c.in-Certify.is (replies Certify c.args.project.now (IsCertificate (priced_in c.args.project.now))
    (side o.taken o.faults c.args.out.now c.deliver-in-Certify.new.out) c.deliver-in-Certify.result
    (λ text is. record { right = is; fits = λ fault denied. denied })
    c.deliver-in-Certify.ensures)

pub returns-in_ok-schedule-in-Point : goal.returns-in_ok-schedule-in-Point
returns-in_ok-schedule-in-Point g c =
    let o = g.O.Sink in
    let project = c.args.project.now in
    let built = c.in_ok-schedule-in-Point in
    rw c.in-Point.is (replies (Point c.in-Point.limit) c.args.project.now (λ text. text ≡ printed_text project built.schedule)
    (side o.taken o.faults c.args.out.now c.deliver-in-Point.new.out) c.deliver-in-Point.result
    (λ text is. point_reply project c.in-Point.limit built.schedule text built.ensures.cheapest is)
    c.deliver-in-Point.ensures)

pub returns-in_ok-report-in-Outlook : goal.returns-in_ok-report-in-Outlook
returns-in_ok-report-in-Outlook g c =
    let o = g.O.Sink in
    let project = c.args.project.now in
    let has = c.in_ok-report-in-Outlook.ensures in
    let schedule = c.in_ok-report-in-Outlook.report.schedule in
    let outlook = c.in_ok-report-in-Outlook.report.report in
    rw c.in-Outlook.is (replies (Outlook c.in-Outlook.limit) c.args.project.now (λ text. text ≡ printed_text project schedule ++ outlook_text project outlook)
    (side o.taken o.faults c.args.out.now c.deliver-in-Outlook.new.out) c.deliver-in-Outlook.result
    (λ text is. outlook_reply project c.in-Outlook.limit schedule outlook text has.cheapest has.outlook has.top is)
    c.deliver-in-Outlook.ensures)

pub returns-in_ok-report-in-Bench : goal.returns-in_ok-report-in-Bench
returns-in_ok-report-in-Bench g c =
    let o = g.O.Sink in
    let net = priced_in c.args.project.now in
    let built = c.in_ok-report-in-Bench in
    rw c.in-Bench.is (replies (Bench c.in-Bench.n) c.args.project.now (IsLinesOf built.report.lines net)
    (side o.taken o.faults c.args.out.now c.deliver-in-Bench.new.out) c.deliver-in-Bench.result
    (λ text is. record { right = subst (λ (lines : CurveLines). IsLinesOf lines net text) built.ensures.lines is; fits = λ fault denied. denied })
    c.deliver-in-Bench.ensures)

pub returns-in_ok-build-in-Migrate : goal.returns-in_ok-build-in-Migrate
returns-in_ok-build-in-Migrate g c =
    let o = g.O.Sink in
    let built = c.in_ok-build-in-Migrate in
    rw c.in-Migrate.is (replies Migrate c.args.project.now (λ text. text ≡ built.field-0.text.items)
    (side o.taken o.faults c.args.out.now c.deliver-in-Migrate.new.out) c.deliver-in-Migrate.result
    (λ text is. record { right = subst (IsDeckText c.args.project.now) (sym is) built.ensures; fits = λ fault denied. denied })
    c.deliver-in-Migrate.ensures)

pub returns-in_ok-build-in-Arrows : goal.returns-in_ok-build-in-Arrows
returns-in_ok-build-in-Arrows g c =
    let o = g.O.Sink in
    let built = c.in_ok-build-in-Arrows in
    rw c.in-Arrows.is (replies Arrows c.args.project.now (λ text. text ≡ built.field-0.text.items)
    (side o.taken o.faults c.args.out.now c.deliver-in-Arrows.new.out) c.deliver-in-Arrows.result
    (λ text is. record { right = subst (IsDeckText c.args.project.now) (sym is) built.ensures; fits = λ fault denied. denied })
    c.deliver-in-Arrows.ensures)

pub returns-in_ok-report-in-Load : goal.returns-in_ok-report-in-Load
returns-in_ok-report-in-Load g c =
    let o = g.O.Sink in
    let project = c.args.project.now in
    let built = c.in_ok-report-in-Load in
    rw c.in-Load.is (replies (Load c.in-Load.days) c.args.project.now (λ text. text ≡ load_text project built.report.loading)
    (side o.taken o.faults c.args.out.now c.deliver-in-Load.new.out) c.deliver-in-Load.result
    (λ text is. load_reply project c.in-Load.days built.report.loading text built.ensures.loading is)
    c.deliver-in-Load.ensures)
