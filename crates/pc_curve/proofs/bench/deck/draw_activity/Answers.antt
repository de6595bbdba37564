use Rattle.pc_curve.proofs.lemmas.bench.ActivityLaws.{own-next, drawn-activity}
use Rattle.pc_curve.proofs.bench.deck.draw_activity.Goals as goal

pub returns-clause-activity : goal.returns-clause-activity
returns-clause-activity c =
    let n = c.args.n in
    let i = c.args.i in
    let here = c.draw_ends-from.ensures.draws in
    let one = own-next n i 0 _ (c.next.ensures.last n _ here) in
    let two = own-next n i 1 _ (c.next-2.ensures.last n _ one) in
    let three = own-next n i 2 _ (c.next-3.ensures.last n _ two) in
    drawn-activity n i _ _ _ _ _ _ c.draw_ends-from.ensures.begins c.draw_ends-from.ensures.ends
    (own-next n i 0 _ (c.next.ensures.result n _ here)) (own-next n i 1 _ (c.next-2.ensures.result n _ one))
    (own-next n i 2 _ (c.next-3.ensures.result n _ two)) (own-next n i 3 _ (c.next-4.ensures.result n _ three))
