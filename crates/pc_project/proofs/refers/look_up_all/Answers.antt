use Rattle.std.proofs.Common.{◌+◌, ◌∙◌, sym, ap, subst}
use Rattle.pc_faults.proofs.FirstLaws.{earliest-some}
use Rattle.pc_project.proofs.LoopLaws.{IsFirstBefore, first_with, first_without, first_of_all, map_take_more}
use Rattle.pc_project.proofs.refers.look_up_all.Goals.{in-Ok+in_ok-push-in-Ok, in-Err}
use Rattle.pc_project.proofs.refers.look_up_all.Goals as goal

pub loop-card-preserved : goal.loop-card-preserved
loop-card-preserved g c =
    let has = g.C.Refers.HasFault g.S.DeckSort.sort c.args.cards.now in
    let find = g.C.Refers.found_in g.S.DeckSort.sort c.args.cards.now in
    let list = c.args.list.now in
    let i = c.loop-card.card-index in
    let before = c.loop-card.invariant in
    elim c.match-look_up.branch [
      | in-Ok+in_ok-push-in-Ok w ↦ record {
        first = subst (IsFirstBefore has list (i + 1)) (sym w.fault-is)
            (first_without has list i c.card-item.result c.loop-card.fault c.loop-card-test.true c.card-item.is before.first w.in-Ok.ensures.faultless);
        numbers = λ none. ap (λ v. v.items) w.numbers-is ∙ (w.in_ok-push-in-Ok.ensures.items
            ∙ map_take_more find list i c.card-item.result w.in-Ok.found c.loop-card.numbers.items c.loop-card-test.true c.card-item.is (before.numbers (sym w.fault-is ∙ none)) w.in-Ok.ensures.found);
      }
      | in-Err w ↦ record {
        first = subst (IsFirstBefore has list (i + 1)) (sym (w.fault-is ∙ w.earliest-fault.ensures))
            (first_with has list i c.card-item.result c.loop-card.fault c.loop-card-test.true c.card-item.is before.first w.in-Err.found w.in-Err.ensures.first);
        numbers = λ none. absurd (earliest-some c.loop-card.fault w.in-Err.found (sym (w.fault-is ∙ w.earliest-fault.ensures) ∙ none));
      }
    ]

pub returns-clause-first : goal.returns-clause-first
returns-clause-first g c =
    first_of_all (g.C.Refers.HasFault g.S.DeckSort.sort c.args.cards.now) c.args.list.now c.loop-card.card-index c.loop-card.fault c.loop-card-test.false c.loop-card.invariant.first
