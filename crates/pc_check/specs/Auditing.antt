-- How much of a text may come before something in it fails.
use Rattle.std.specs.Prelude.{ℕ, ◌+◌, ◌*◌, length}
use Rattle.pc_cert.specs.declared.line.TheConstants.{MAX_LINE}
use Rattle.pc_check.specs.Bounds.{lines_of_all}
use Rattle.pc_crash.specs.Priced.{PricedNetwork}

-- the most bytes that may come of a text before something is malformed or fails: those of the most lines that a certificate of
-- the network may have, and of one line more
abbrev pub most_bytes : PricedNetwork → ℕ
most_bytes net = lines_of_all net.network.events (length net.network.arcs) * MAX_LINE + MAX_LINE
