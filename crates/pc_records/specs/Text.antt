-- The text of records, as `csv` writes them.
use Rattle.std.specs.Prelude.{ℕ, List, flat_map}
use Rattle.csv.specs.Writing.{default_writer, row_text}

-- the text of a record, as `csv` writes it by its defaults: the fields with commas between them, in quotes where they
-- have a comma, a quote or a line's end, each quote in them written twice, and a line feed at the end; a record of one
-- empty field is two quotes
unfoldable pub record_text : List (List ℕ) → List ℕ
record_text fields = row_text default_writer fields

-- the text of records, one after the other
abbrev pub records_text : List (List (List ℕ)) → List ℕ
records_text rows = flat_map record_text rows
