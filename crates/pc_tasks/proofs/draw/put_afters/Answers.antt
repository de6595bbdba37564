use Rattle.std.proofs.Common.{◌∙◌, ap}
use Rattle.pc_tasks.specs.network.Tasks.{after_at}
use Rattle.pc_tasks.specs.Codes.{after_code, end_code}
use Rattle.pc_tasks.specs.Drawn.{link}
use Rattle.pc_tasks.proofs.DrawLemmas.{put_row}
use Rattle.pc_tasks.proofs.draw.put_afters.Goals as goal

pub loop-j-preserved : goal.loop-j-preserved
loop-j-preserved c =
    let row = after_at c.args.afters.now c.loop-j.j in
    c.in_ok-push.ensures.items
    ∙ put_row c.args.afters.now c.args.acts.now.items c.loop-j.acts.items c.loop-j.j (record { task = 0; before = 0 }) c.link.result c.loop-j-test.true c.loop-j.invariant
    (c.link.ensures
    ∙ (ap (λ x. link x c.end_code.result c.begin_code.result) c.after_code.ensures
    ∙ (ap (λ x. link (after_code c.loop-j.j) x c.begin_code.result) c.end_code.ensures ∙ ap (link (after_code c.loop-j.j) (end_code row.before)) c.begin_code.ensures)))
