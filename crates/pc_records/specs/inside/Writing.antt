-- What a writer of records has put.
use Rattle.std.specs.Prelude.{◌≡◌, ◌++◌, ℕ, true, false, if◌then◌else◌, List, []}
use Rattle.csv.specs.Writing.{default_writer, fields_written, has_written, with_flexible, writer_pending, writer_setup, writer_under}
use Rattle.csv.specs.declared.writer.Writer.{Writer}
use Rattle.csv.specs.declared.writer.WriterBuilder.{WriterBuilder}
use Rattle.pc_records.specs.declared.writer.RowWriter.TheInside.{Inside}

-- `csv`'s defaults, but that records may be of any length
abbrev pub any_length : WriterBuilder
any_length = with_flexible default_writer true

-- the text that was put: none after an error
abbrev pub text_put : Inside → List ℕ
text_put rows = if rows.has_failed then [] else (writer_under rows.writer).items ++ writer_pending rows.writer

-- the writer is between two records of any length
pub record IsBetweenRecords {W : Type 0} (writer : Writer W) : Type 0 where
  pub setup : writer_setup writer ≡ any_length
  pub fields : fields_written writer ≡ 0
  pub clean : has_written writer ≡ false

-- the writer puts one record after the other until an error
abbrev pub PutsOn : Inside → Type 0
PutsOn rows = rows.has_failed ≡ false → IsBetweenRecords rows.writer
