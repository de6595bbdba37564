use Rattle.pc_accounts.specs.inside.Parts.{AreLatest}
use Rattle.pc_accounts.proofs.book.latest_togos.Given as goal

abbrev pub invariant-loop-row : goal.invariant-loop-row
invariant-loop-row l = AreLatest l.fn.accounts l.togos l.as_of l.row l.latest.items
