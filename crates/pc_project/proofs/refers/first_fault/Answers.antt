use Rattle.std.proofs.Common.{◌+◌, ◌∙◌, sym, subst}
use Rattle.pc_project.proofs.LoopLaws.{IsFirstBefore, first_of_all, first_with, first_without}
use Rattle.pc_project.proofs.refers.first_fault.Goals.{in-Err, in_default}
use Rattle.pc_project.proofs.refers.first_fault.Goals as goal

pub loop-card-preserved : goal.loop-card-preserved
loop-card-preserved g c =
    let has = g.C.Refers.HasFault g.S.DeckSort.sort c.args.cards.now in
    let list = c.args.list.now in
    let i = c.loop-card.card-index in
    elim c.match-look_up.branch [
      | in-Err w ↦ subst (IsFirstBefore has list (i + 1)) (sym (w.fault-is ∙ w.earliest-fault.ensures))
          (first_with has list i c.card-item.result c.loop-card.fault c.loop-card-test.true c.card-item.is c.loop-card.invariant w.in-Err.found w.in-Err.ensures.first)
      | in_default w ↦ subst (IsFirstBefore has list (i + 1)) (sym w.fault-is)
          (first_without has list i c.card-item.result c.loop-card.fault c.loop-card-test.true c.card-item.is c.loop-card.invariant w.in_default.ensures.faultless)
    ]

pub returns : goal.returns
returns g c =
    first_of_all (g.C.Refers.HasFault g.S.DeckSort.sort c.args.cards.now) c.args.list.now c.loop-card.card-index c.loop-card.fault c.loop-card-test.false c.loop-card.invariant
