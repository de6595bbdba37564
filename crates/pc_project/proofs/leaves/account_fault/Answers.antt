use Rattle.std.proofs.Common.{◌<◌, length, ap, arith}
use Rattle.pc_deck.specs.declared.kinds.acct.AcctCard.{AcctCard}
use Rattle.pc_project.proofs.BranchLaws.{account_item, account_item-in_tree, branch_all, branch_more}
use Rattle.pc_project.proofs.leaves.account_fault.Goals as goal

pub branch_fault-requires : goal.branch_fault-requires
branch_fault-requires c =
    account_item-in_tree c.args.cards.now c.args.tree.now c.args.accounts.now c.loop-a.a c.card-item.result c.requires.faultless c.requires.tree c.requires.accounts
    (omega (arith, c.loop-a-test.true, ap length c.accounts-card-items.ensures.cards)) (rw c.accounts-card-items.ensures.cards at c.card-item.is)

pub loop-a-preserved : goal.loop-a-preserved
loop-a-preserved c =
    let deck = c.args.cards.now in
    let inside : c.loop-a.a < length deck.accounts = omega (arith, c.loop-a-test.true, ap length c.accounts-card-items.ensures.cards) in
    let card = rw c.accounts-card-items.ensures.cards at c.card-item.is in
    branch_more deck (λ (card : AcctCard). card.row)
    (λ card. card.item) deck.accounts c.args.tree.now _ c.loop-a.a c.card-item.result c.loop-a.fault c.branch_fault.result _
    c.requires.tree inside card
    (account_item deck c.args.accounts.now c.loop-a.a c.card-item.result c.requires.accounts inside card) c.loop-a.invariant c.branch_fault.ensures c.earliest-fault.ensures

pub returns : goal.returns
returns c =
    branch_all c.args.cards.now (λ (card : AcctCard). card.row) (λ card. card.item) c.args.cards.now.accounts c.loop-a.a c.loop-a.fault
    (omega (arith, c.loop-a-test.false, ap length c.accounts-card-items.ensures.cards)) c.loop-a.invariant
