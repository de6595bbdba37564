use Rattle.std.proofs.Common.{◌∙◌, ◌++◌, ap, map, get_or}
use Rattle.std.proofs.lemmas.List.{take_all}
use Rattle.pc_deck.specs.declared.kinds.project.ProjectCard.{ProjectCard}
use Rattle.pc_tasks.specs.Codes.{first_code}
use Rattle.pc_tasks.specs.Drawn.{first_link, link}
use Rattle.pc_tasks.proofs.PutLemmas.{put_place}
use Rattle.pc_tasks.proofs.draw.put_firsts.Goals as goal

pub first_code-requires : goal.first_code-requires
first_code-requires c = c.requires c.loop-i.i-index 0 c.loop-i-test.true

pub begin_code-requires : goal.begin_code-requires
begin_code-requires c = c.requires c.loop-i.i-index 0 c.loop-i-test.true

pub loop-i-preserved : goal.loop-i-preserved
loop-i-preserved c =
    let deck = c.args.cards.now in
    let i = get_or c.args.tasks.now c.loop-i.i-index 0 in
    c.in_ok-push.ensures.items
    ∙ put_place (first_link deck) c.args.tasks.now c.args.acts.now.items c.loop-i.acts.items c.loop-i.i-index c.link.result 0 c.loop-i-test.true c.loop-i.invariant
    (c.link.ensures
    ∙ (ap (λ code. link code c.project.result.now.start c.begin_code.result) c.first_code.ensures
    ∙ (ap (λ (project : ProjectCard). link (first_code i) project.start c.begin_code.result) c.project.ensures.card
    ∙ ap (link (first_code i) deck.project.start) c.begin_code.ensures)))

pub returns : goal.returns
returns c = c.loop-i.invariant ∙ ap (λ tasks. c.args.acts.now.items ++ map (first_link c.args.cards.now) tasks) (take_all c.loop-i.i-index c.args.tasks.now c.loop-i-test.false)
