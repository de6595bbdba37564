-- The records of a deck: the list of its rows of fields.
use Rattle.std.specs.Prelude.{◌==◌, if◌then◌else◌, ℕ, Bool, nat_eq, List, [], ◌∷◌, drop, length}
use Rattle.std.specs.List.{starts_with, list_all}
use Rattle.csv.specs.Reading.{default_config, records, strip_bom}

-- the byte order mark that spreadsheets put in front of a text
abbrev pub mark : List ℕ
mark = 0xEF ∷ 0xBB ∷ 0xBF ∷ []

-- the bytes without the mark in front, dropped once
abbrev pub without_mark : List ℕ → List ℕ
without_mark bytes = if starts_with nat_eq bytes mark then drop (length mark) bytes else bytes

-- the records of a deck: what `csv` reads from its bytes without the mark, with commas, double quotes, doubled
-- quotes, no header, records of any length and no trimming. `csv` itself drops a mark that follows once more
abbrev pub deck_records : List ℕ → List (List (List ℕ))
deck_records bytes = records default_config (strip_bom (without_mark bytes))

-- whether a field has no byte
abbrev pub is_empty : List ℕ → Bool
is_empty field = length field == 0

-- whether all fields are empty
abbrev pub is_blank : List (List ℕ) → Bool
is_blank fields = list_all is_empty fields
