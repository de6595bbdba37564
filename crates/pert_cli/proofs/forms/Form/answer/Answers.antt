use Rattle.pert_cli.proofs.HandingLaws.{refuses}
use Rattle.pert_cli.proofs.forms.Form.answer.Goals as goal

pub returns-in-Err-Refused : goal.returns-in-Err-Refused
returns-in-Err-Refused g c =
    let (told, denied, unused) = rw c.in-Err-Refused.field-0-is at c.in-Err-Refused.ensures in
    refuses c.args.self c.args.project.now _ _ _ _ _ c.in-Err-Refused.fault-is denied c.refuse.ensures unused
