-- Spaces on a line.
use Rattle.std.specs.Prelude.{ℕ, List, replicate}

-- this many spaces
abbrev pub spaces : ℕ → List ℕ
spaces count = replicate count 32
