-- What a reader of a deck has left to give.
use Rattle.std.specs.Prelude.{◌≡◌, ◌+◌, ℕ, true, false, if◌then◌else◌, List, [], length, Option, Some, None, IsSome}
use Rattle.std.specs.Borrow.{Bor}
use Rattle.csv.specs.Machine.{ends_at_end}
use Rattle.csv.specs.Reading.{default_config, is_flexible, reader_config, reader_state, reader_trim, records_from, Ready, source_of}
use Rattle.csv.specs.declared.parser.State.{State}
use Rattle.csv.specs.declared.reader.Reader.{Reader}
use Rattle.csv.specs.declared.reader.Trim.TheVariants as trim
use Rattle.pc_records.specs.declared.rows.RowReader.TheInside.{Inside}

-- a `csv` reader over bytes in memory
abbrev pub ByteReader : Type 0
ByteReader = Reader (Bor (List ℕ))

-- the bytes that it has not read, if it has not failed
abbrev pub unread_bytes : ByteReader → Option (List ℕ)
unread_bytes reader = source_of (λ bytes. Some bytes.now) reader

-- the records of the bytes that are left, from the reader's state on
abbrev pub records_after : State → Option (List ℕ) → List (List (List ℕ))
records_after state None = []
records_after state (Some bytes) = records_from default_config (length bytes + 1) state bytes

-- the records that are left: none once the last was given
abbrev pub rows_left : Inside → List (List (List ℕ))
rows_left rows = if rows.is_done then [] else records_after (reader_state rows.reader) (unread_bytes rows.reader)

-- the reader gives one record after the other: it takes no header row, changes no field, refuses no number of fields,
-- has not failed, and is between two records
pub record GivesRecords (reader : ByteReader) : Type 0 where
  pub untrimmed : reader_trim reader ≡ trim.None
  pub ready : Ready reader
  pub config : reader_config reader ≡ default_config
  pub flexible : is_flexible reader ≡ true
  pub known : IsSome (unread_bytes reader)
  pub between : ends_at_end (reader_state reader) ≡ false

-- the reader goes until its last record was given
abbrev pub GoesUntilDone : Inside → Type 0
GoesUntilDone rows = rows.is_done ≡ false → GivesRecords rows.reader
