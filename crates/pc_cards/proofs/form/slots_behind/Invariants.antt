use Rattle.std.proofs.Common.{◌≡◌, drop}
use Rattle.pc_cards.specs.inside.Forms.{slots_behind}
use Rattle.pc_cards.proofs.form.slots_behind.Given as goal

-- the slots so far have other numbers
abbrev pub invariant-loop-i : goal.invariant-loop-i
invariant-loop-i l = slots_behind l.number (drop l.i l.slots) ≡ slots_behind l.number l.slots
