-- What a call of a reader gave and used.
use Rattle.std.specs.Prelude.{ℕ, List, [], take, Option, Result, Ok, Err, option_to_list}
use Rattle.pc_cert.specs.declared.line.CertLine.{CertLine}
use Rattle.pc_cert.specs.declared.reader.Malformed.{Malformed}
use Rattle.pc_cert.specs.declared.reader.Fed.{Fed}

-- the line that was given, if one was
abbrev pub given : Result Fed Malformed → List CertLine
given (Ok fed) = option_to_list fed.line
given (Err malformed) = []

-- the bytes of a piece that were used: all of it, where a line is malformed
abbrev pub used : Result Fed Malformed → List ℕ → List ℕ
used (Ok fed) piece = take fed.used piece
used (Err malformed) piece = piece

-- the line that was stored in what is known, if one ended
abbrev pub left_in : Option CertLine → Result ℕ Malformed → List CertLine
left_in line (Ok used) = option_to_list line
left_in line (Err malformed) = []

-- the bytes of a piece that were used: all of it, if a line is malformed
abbrev pub used_of : Result ℕ Malformed → List ℕ → List ℕ
used_of (Ok used) piece = take used piece
used_of (Err malformed) piece = piece
