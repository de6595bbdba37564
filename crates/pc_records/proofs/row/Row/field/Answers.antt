-- A field that is there, or an empty one.
use Rattle.std.proofs.Common.{refl}
use Rattle.pc_records.proofs.FieldFacts.{now-unwrap_or}
use Rattle.pc_records.proofs.row.Row.field.Goals as goal

pub returns : goal.returns
returns c = rw c.unwrap_or.ensures (now-unwrap_or c.get.result _ c.args.self.now c.args.i refl c.get.ensures)
