use Rattle.std.proofs.Common.{◌≡◌, ◌++◌, drop}
use Rattle.pc_cards.proofs.lists.Named.add_all.Given as goal

-- the cards that are left follow those that were added as in the complete list
abbrev pub invariant-loop-card : goal.invariant-loop-card
invariant-loop-card g l = l.self ++ drop l.card-index l.cards ≡ l.fn.self ++ l.cards
