use Rattle.std.proofs.Common.{refl}
use Rattle.pc_edges.proofs.lemmas.page.PageLaws.{◌⨾◌, Adds-as}
use Rattle.pert_cli.proofs.outlook.OutlookAnswerReport.put_on.Goals as goal

pub put_on-requires : goal.put_on-requires
put_on-requires g c = record { events = c.requires.0.time_each; activities = c.requires.0.duration_each }

pub returns : goal.returns
returns g c =
    let (schedule, schedule_is, put) = c.put_on.ensures in
    let (outlook, outlook_is, put_then) = c.put_on-2.ensures in
    (_, refl, Adds-as _ schedule_is put ⨾ Adds-as _ outlook_is put_then)
