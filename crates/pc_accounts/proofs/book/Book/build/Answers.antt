use Rattle.std.proofs.Common.{◌∙◌, ℕ, ℤ, List, length, Option, ap, subst, arith}
use Rattle.pc_accounts.specs.declared.book.MoneyRow.{MoneyRow}
use Rattle.pc_accounts.specs.inside.Parts.{AreKnownAmounts, AreLatest, LatestBelow}
use Rattle.pc_accounts.proofs.AmountLaws.{entries_of}
use Rattle.pc_accounts.proofs.WholeLaws.{entries_are_project}
use Rattle.pc_accounts.proofs.book.Book.build.Goals as goal

pub returns-clause-entries : goal.returns-clause-entries
returns-clause-entries c =
    entries_of _ _ _ _ c.in_ok-actuals.actuals.items c.in_ok-latest.latest.items _ c.in_ok-actuals.ensures c.in_ok-latest.ensures
    (let made = c.in_ok-entries.ensures in rw (c.deref.ensures.value, c.deref-2.ensures.value) at made)

pub returns-clause-whole : goal.returns-clause-whole
returns-clause-whole c =
    entries_are_project _ _ _ _ _ c.requires.charges (returns-clause-entries c)

pub entries-requires-clause-actuals : goal.entries-requires-clause-actuals
entries-requires-clause-actuals c = ap length c.deref.ensures.value ∙ c.in_ok-actuals.ensures.one_each

pub entries-requires-clause-latest : goal.entries-requires-clause-latest
entries-requires-clause-latest c = ap length c.deref-2.ensures.value ∙ c.in_ok-latest.ensures.one_each

-- each row that is the latest is one of the amounts to go
known : (accounts : ℕ) (togos : List MoneyRow) (as_of : ℤ) (latest : List (Option ℕ)) → AreLatest accounts togos as_of (length togos) latest → AreKnownAmounts togos latest
known accounts togos as_of latest all a k below is = (subst (LatestBelow togos as_of a (length togos)) is (all.each a (omega (arith, all.one_each)))).0

pub entries-requires-clause-known : goal.entries-requires-clause-known
entries-requires-clause-known c = rw c.deref-2.ensures.value (known (length c.args.accounts.now) c.args.togos.now c.args.as_of c.in_ok-latest.latest.items c.in_ok-latest.ensures)

pub returns-clause-once : goal.returns-clause-once
returns-clause-once c = c.in_ok-refuse_second.ensures.once

pub returns-clause-refused : goal.returns-clause-refused
returns-clause-refused c = tt
