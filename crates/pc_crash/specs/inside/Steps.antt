-- A ledger that a counter of steps writes in.
use Rattle.std.specs.Prelude.{◌≡◌, ℕ, ◌<◌}

-- a blank with this name and this many parts is that of the ledger, and has some part
pub record IsBlankOf (ledger_name ledger_parts name parts : ℕ) : Type 0 where
  pub same_name : name ≡ ledger_name
  pub same_parts : parts ≡ ledger_parts
  pub some : 0 < parts
