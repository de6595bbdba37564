-- What a sink in memory holds.
use Rattle.std.specs.Prelude.{ℕ, List}

pub record Intake : Type 0 where
  -- the bytes taken so far
  pub taken : List ℕ
  -- how many bytes it takes in all
  pub room : ℕ
  -- how many bytes a push takes at most
  pub piece : ℕ
  -- the calls that fail, counted from 1
  pub failing : List ℕ
  -- how many pushes of pieces that are not empty, and flushes, there were
  pub calls : ℕ
  -- how many of them failed
  pub faults : ℕ
