-- Lines of reports with a code and what belongs to it.
use Rattle.std.specs.Prelude.{ℕ, ℤ, List, [], slice_index, slice_index_or}
use Rattle.pc_days.specs.Calendar.{text_of_day}
use Rattle.pc_edges.specs.page.Lines.{pair_line, named_line}

-- the line of the i-th code and the i-th number
abbrev pub named_line_at : List ℕ → List (List ℕ) → List ℕ → ℕ → List ℕ
named_line_at word names numbers i = named_line word (slice_index_or names i []) (slice_index numbers i)

-- the word, the code, a space, the date of the day, and the end of the line
abbrev pub dated_line : List ℕ → List ℕ → ℤ → List ℕ
dated_line word code day = pair_line word code (text_of_day day)
