use Rattle.std.proofs.Common.{◌≡◌, ◌∙◌, length, sym, ap, subst, arith}
use Rattle.std.specs.Prelude.{Result, Ok, Err, OnOk, is_ok}
use Rattle.std.proofs.lemmas.List.{length-map}
use Rattle.pc_faults.specs.declared.kind.Kind.TheVariants.{Acct, Charge, ToGo}
use Rattle.pc_accounts.specs.Amounts.{AreBudgets, AreMoney}
use Rattle.pc_accounts.specs.Second.{IsRepeated}
use Rattle.pc_project.specs.Project.{account_of, accounts_in, money_of}
use Rattle.pc_project.proofs.FigureLaws.{accounts_cheap, are_charges, are_togos}
use Rattle.pc_project.proofs.togos.book_of.Goals as goal

-- what holds where the one result is a value holds where the other is
on_ok : {T E D P Q : Type 0} (one : Result T E) (other : Result T D) → is_ok other ≡ is_ok one → OnOk one P → (P → Q) → OnOk other Q
on_ok one (Err error) same holds says = tt
on_ok (Ok value) (Ok other) same holds says = says holds
on_ok (Err error) (Ok other) same holds says = cc

pub build-requires-clause-few_accounts : goal.build-requires-clause-few_accounts
build-requires-clause-few_accounts c =
    let deck = c.args.cards.now in
    omega (arith, ap length (c.deref.ensures.value ∙ c.requires.lists.accounts), length-map deck.accounts (account_of deck), (c.requires.within Acct).few)

pub build-requires-clause-few_charges : goal.build-requires-clause-few_charges
build-requires-clause-few_charges c =
    let deck = c.args.cards.now in
    omega (arith, ap length (c.deref-2.ensures.value ∙ c.requires.lists.charges), length-map deck.charges (money_of deck), (c.requires.within Charge).few)

pub build-requires-clause-few_togos : goal.build-requires-clause-few_togos
build-requires-clause-few_togos c =
    let deck = c.args.cards.now in
    omega (arith, ap length (c.deref-3.ensures.value ∙ c.requires.lists.togos), length-map deck.togos (money_of deck), (c.requires.within ToGo).few)

pub build-requires-clause-budgets : goal.build-requires-clause-budgets
build-requires-clause-budgets c =
    subst AreBudgets (sym (c.deref.ensures.value ∙ c.requires.lists.accounts)) (accounts_cheap c.args.cards.now c.requires.within c.requires.faultless)

pub build-requires-clause-charges : goal.build-requires-clause-charges
build-requires-clause-charges c =
    subst (λ n. AreMoney n c.deref-2.result.now) (sym (ap length (c.deref.ensures.value ∙ c.requires.lists.accounts)))
    (subst (AreMoney (length (accounts_in c.args.cards.now))) (sym (c.deref-2.ensures.value ∙ c.requires.lists.charges)) (are_charges c.args.cards.now c.requires.within c.requires.faultless))

pub build-requires-clause-togos : goal.build-requires-clause-togos
build-requires-clause-togos c =
    subst (λ n. AreMoney n c.deref-3.result.now) (sym (ap length (c.deref.ensures.value ∙ c.requires.lists.accounts)))
    (subst (AreMoney (length (accounts_in c.args.cards.now))) (sym (c.deref-3.ensures.value ∙ c.requires.lists.togos)) (are_togos c.args.cards.now c.requires.within c.requires.faultless))

pub returns-clause-once : goal.returns-clause-once
returns-clause-once c =
    on_ok c.build.result c.map_err.result c.map_err.ensures.variant c.build.ensures.once
    (λ once k repeated. once k (subst (λ togos. IsRepeated togos k) (sym (c.deref-3.ensures.value ∙ c.requires.lists.togos)) repeated))
