use Rattle.std.proofs.Common.{◌<◌, ◌∙◌, length, map, ap, arith}
use Rattle.std.proofs.lemmas.List.{length-map, take_all}
use Rattle.pc_project.specs.Project.{work_of}
use Rattle.pc_project.specs.inside.Project.{placement_of}
use Rattle.pc_project.proofs.BranchLaws.{act_work}
use Rattle.pc_project.proofs.LoopLaws.{map_take_more}
use Rattle.pc_project.proofs.packages.work_rows.Goals as goal

pub loop-a-preserved : goal.loop-a-preserved
loop-a-preserved c =
    let deck = c.args.cards.now in
    let a = c.loop-a.a in
    let inside : a < length deck.acts = omega (arith, c.loop-a-test.true, ap length c.acts-acts.ensures.cards) in
    let card = rw c.acts-acts.ensures.cards at c.index-acts-a.is in
    c.in_ok-push.ensures.items
    ∙ map_take_more (work_of deck) deck.acts a c.index-acts-a.result _ c.loop-a.work.items inside card c.loop-a.invariant
    (act_work deck c.args.placements.now a c.index-acts-a.result c.requires inside card)

pub returns : goal.returns
returns c =
    let deck = c.args.cards.now in
    c.loop-a.invariant
    ∙ ap (map (work_of deck)) (take_all c.loop-a.a deck.acts (omega (arith, c.loop-a-test.false, ap length c.acts-acts.ensures.cards)))

pub bounds-placements-a : goal.bounds-placements-a
bounds-placements-a c =
    let deck = c.args.cards.now in
    omega (arith, ap length c.requires, length-map deck.acts (placement_of deck), c.loop-a-test.true, ap length c.acts-acts.ensures.cards)
