use Rattle.std.proofs.Common.{◌≡◌, ◌∷◌, take}
use Rattle.pc_tasks.proofs.codes.spelled.Given as goal

abbrev pub invariant-loop-digit : goal.invariant-loop-digit
invariant-loop-digit l = l.text.items ≡ 95 ∷ l.letter ∷ take l.digit-index l.digits
