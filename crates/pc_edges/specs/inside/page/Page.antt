-- What contracts see of a page.
use Rattle.std.specs.Prelude.{ℕ, List, [], Bool, false}

-- the bytes that were put and not pushed yet, and whether a push failed
pub record Page : Type 0 where
  pub pending : List ℕ
  pub failed : Bool

-- a page on which no text was begun
abbrev pub fresh : Page
fresh = record { pending = []; failed = false }
