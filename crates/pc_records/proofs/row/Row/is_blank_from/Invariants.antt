use Rattle.std.proofs.Common.{◌≡◌, ◌+◌, drop}
use Rattle.pc_records.specs.Deck.{is_blank}
use Rattle.pc_records.proofs.row.Row.is_blank_from.Given as goal

-- the fields so far are empty, so all are if those after them are
abbrev pub invariant-loop-i : goal.invariant-loop-i
invariant-loop-i l = is_blank (drop l.fn.start l.self) ≡ is_blank (drop (l.i + 1) l.self)
