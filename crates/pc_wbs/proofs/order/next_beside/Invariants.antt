use Rattle.std.proofs.Common.{◌≡◌, ℕ, ◌<◌, length, Some, None}
use Rattle.pc_wbs.specs.Climb.{climb}
use Rattle.pc_wbs.specs.inside.Links.{linked_row_at}
use Rattle.pc_wbs.proofs.order.next_beside.Given as goal

abbrev pub invariant-loop-climbed : goal.invariant-loop-climbed
invariant-loop-climbed l =
    (climb l.rows l._climbed l.item ≡ Some l.at) × (l.at < length l.rows) × ((j z : ℕ) → j < l._climbed → climb l.rows j l.item ≡ Some z → linked_row_at l.nexts z ≡ None)
