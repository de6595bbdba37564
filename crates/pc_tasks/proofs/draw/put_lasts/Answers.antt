use Rattle.std.proofs.Common.{◌∙◌, ◌++◌, ap, map, get_or}
use Rattle.std.proofs.lemmas.List.{take_all}
use Rattle.pc_deck.specs.declared.kinds.project.ProjectCard.{ProjectCard}
use Rattle.pc_tasks.specs.Codes.{end_code, last_code}
use Rattle.pc_tasks.specs.Drawn.{last_link, link}
use Rattle.pc_tasks.proofs.PutLemmas.{put_place}
use Rattle.pc_tasks.proofs.draw.put_lasts.Goals as goal

pub last_code-requires : goal.last_code-requires
last_code-requires c = c.requires c.loop-i.i-index 0 c.loop-i-test.true

pub end_code-requires : goal.end_code-requires
end_code-requires c = c.requires c.loop-i.i-index 0 c.loop-i-test.true

pub loop-i-preserved : goal.loop-i-preserved
loop-i-preserved c =
    let deck = c.args.cards.now in
    let i = get_or c.args.tasks.now c.loop-i.i-index 0 in
    c.in_ok-push.ensures.items
    ∙ put_place (last_link deck) c.args.tasks.now c.args.acts.now.items c.loop-i.acts.items c.loop-i.i-index c.link.result 0 c.loop-i-test.true c.loop-i.invariant
    (c.link.ensures
    ∙ (ap (λ code. link code c.end_code.result c.project.result.now.end) c.last_code.ensures
    ∙ (ap (λ code. link (last_code i) code c.project.result.now.end) c.end_code.ensures
    ∙ ap (λ (project : ProjectCard). link (last_code i) (end_code i) project.end) c.project.ensures.card)))

pub returns : goal.returns
returns c = c.loop-i.invariant ∙ ap (λ tasks. c.args.acts.now.items ++ map (last_link c.args.cards.now) tasks) (take_all c.loop-i.i-index c.args.tasks.now c.loop-i-test.false)
