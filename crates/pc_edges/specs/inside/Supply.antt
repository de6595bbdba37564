-- What a source in memory holds.
use Rattle.std.specs.Prelude.{ℕ, List}

pub record Supply : Type 0 where
  -- the bytes still to come
  pub left : List ℕ
  -- how many bytes a pull gives at most
  pub piece : ℕ
  -- the pulls that fail, counted from 1
  pub failing : List ℕ
  -- how many pulls there were with a buffer that is not empty
  pub pulls : ℕ
  -- how many of them failed
  pub faults : ℕ
