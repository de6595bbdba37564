use Rattle.std.proofs.Common.{ap, sym, subst, arith}
use Rattle.pc_accounts.specs.status.Statuses.{AreInOrder}
use Rattle.pc_accounts.specs.inside.status.Statuses.{StatusLog}
use Rattle.pc_accounts.proofs.lemmas.status.StateLaws.{first_found, found_day}
use Rattle.pc_accounts.proofs.status.Log.state.Goals as goal

pub sixths-requires : goal.sixths-requires
sixths-requires c =
    let same = ap (λ (l : StatusLog). l.statuses) c.self.view_is in
    found_day c.args.start c.args.as_of _ _ _ _ c.index-in-Some.result.now (subst (AreInOrder c.args.start c.args.as_of) (sym same) c.requires.in_order)
    (first_found _ _ _ _ _ _ c.index.result.now c.index-in-Some.result.now c.self.invariant.ended
    (omega (arith, c.requires.known, ap (λ (l : StatusLog). l.activities) c.self.view_is)) c.index.ensures c.in-Some.is
    c.index-in-Some.ensures)

pub sixths-requires-in-Some-index : goal.sixths-requires-in-Some-index
sixths-requires-in-Some-index c =
    let same = ap (λ (l : StatusLog). l.statuses) c.self.view_is in
    found_day c.args.start c.args.as_of _ _ _ _ c.index-in-Some-index.result.now (subst (AreInOrder c.args.start c.args.as_of) (sym same) c.requires.in_order)
    (first_found _ _ _ _ _ _ c.index-2.result.now c.index-in-Some-index.result.now c.self.invariant.begun
    (omega (arith, c.requires.known, ap (λ (l : StatusLog). l.activities) c.self.view_is)) c.index-2.ensures c.in-Some-index.is
    c.index-in-Some-index.ensures)
