-- `csv` counts the fields as a slice does its elements.
use Rattle.csv.specs.Records.{fields_of}
use Rattle.pc_records.proofs.FieldFacts.{field_at-slice_get}
use Rattle.pc_records.proofs.row.Row.get.Goals as goal

pub returns : goal.returns
returns c = rw (← c.self.view_is, c.get.ensures.value) (field_at-slice_get (fields_of c.self.inside.fields) c.args.i)
