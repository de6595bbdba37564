use Rattle.pc_accounts.specs.inside.Parts.{AreMade}
use Rattle.pc_accounts.proofs.book.entries.Given as goal

abbrev pub invariant-loop-a : goal.invariant-loop-a
invariant-loop-a l = AreMade l.accounts l.togos l.actuals l.latest l.a l.entries.items
