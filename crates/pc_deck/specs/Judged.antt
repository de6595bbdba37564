-- What counts of the cards before one.
use Rattle.std.specs.Prelude.{ℕ, Bool, List}
use Rattle.pc_faults.specs.declared.kind.Kind.{Kind}
use Rattle.pc_cards.specs.declared.sort.Sort.{Sort}

-- what counts of the cards before one: the sort of their deck, whether there are none, the version of the deck, how many cards there are of
-- each kind, the codes that each kind's cards have of their own, and whether an END card is among them
pub record Seen : Type 0 where
  pub sort : Sort
  pub is_first : Bool
  pub version : ℕ
  pub count : Kind → ℕ
  pub codes : Kind → List (List ℕ)
  pub has_ended : Bool
