use Rattle.std.proofs.Common.{◌≡◌, ◌+◌, ◌^◌, ◌<◌, length}
use Rattle.pc_cards.specs.Cards.{cards_from}
use Rattle.pc_cards.proofs.rows.CardRows.next.Given as goal

abbrev pub invariant-rows : goal.invariant-rows
invariant-rows l =
    (l.self-inside.number + length l.self-inside.rows + 1 < 2 ^ 32)
    × (cards_from (l.self-inside.number + 1) l.self-inside.rows ≡ l.fn.self.cards)
    × (l.self-inside.number + length l.self-inside.rows + 1 ≡ l.fn.self.end)

abbrev pub decreases-rows : goal.decreases-rows
decreases-rows l = length l.self-inside.rows
