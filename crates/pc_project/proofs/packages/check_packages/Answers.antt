use Rattle.std.proofs.Common.{◌∙◌, length, sym, ap, subst, arith}
use Rattle.std.proofs.lemmas.List.{length-map}
use Rattle.pc_faults.specs.declared.kind.Kind.TheVariants.{Acct, Act}
use Rattle.pc_accounts.specs.Amounts.{AreBudgets, item_of}
use Rattle.pc_accounts.specs.inside.Packages.{AreWork}
use Rattle.pc_project.specs.Project.{account_of, rows_of, work_of}
use Rattle.pc_project.proofs.FigureLaws.{accounts_cheap, accounts_known, are_work}
use Rattle.pc_project.proofs.packages.check_packages.Goals as goal

pub reconcile-requires-clause-few_accounts : goal.reconcile-requires-clause-few_accounts
reconcile-requires-clause-few_accounts c =
    let deck = c.args.cards.now in
    omega (arith, ap length (c.deref-2.ensures.value ∙ c.requires.numbers.lists.accounts), length-map deck.accounts (account_of deck), (c.requires.numbers.within Acct).few)

pub reconcile-requires-clause-few_activities : goal.reconcile-requires-clause-few_activities
reconcile-requires-clause-few_activities c =
    let deck = c.args.cards.now in
    omega (arith, ap length (c.deref-3.ensures.value ∙ c.in_ok-work.ensures), length-map deck.acts (work_of deck), (c.requires.numbers.within Act).few)

pub reconcile-requires-clause-items : goal.reconcile-requires-clause-items
reconcile-requires-clause-items c =
    let same = c.deref-2.ensures.value ∙ c.requires.numbers.lists.accounts in
    λ a below.
    omega (
      arith,
      ap (λ accounts. item_of accounts a) same,
      accounts_known c.args.cards.now c.requires.numbers.within c.requires.numbers.faultless a (omega (arith, below, ap length same)),
      ap length c.requires.tree,
    )

pub reconcile-requires-clause-budgets : goal.reconcile-requires-clause-budgets
reconcile-requires-clause-budgets c =
    subst AreBudgets (sym (c.deref-2.ensures.value ∙ c.requires.numbers.lists.accounts)) (accounts_cheap c.args.cards.now c.requires.numbers.within c.requires.numbers.faultless)

pub reconcile-requires-clause-work : goal.reconcile-requires-clause-work
reconcile-requires-clause-work c =
    subst (λ rows. AreWork (length rows) c.deref-3.result.now) (sym c.requires.tree)
    (subst (AreWork (length (rows_of c.args.cards.now))) (sym (c.deref-3.ensures.value ∙ c.in_ok-work.ensures)) (are_work c.args.cards.now c.requires.numbers.within c.requires.numbers.faultless))
