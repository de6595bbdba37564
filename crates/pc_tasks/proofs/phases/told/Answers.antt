use Rattle.std.proofs.Common.{ap, length, arith}
use Rattle.std.proofs.lemmas.List.{length-map}
use Rattle.pc_deck.specs.declared.kinds.task.TaskCard.{TaskCard}
use Rattle.pc_tasks.proofs.phases.told.Goals as goal

pub codes_at-requires : goal.codes_at-requires
codes_at-requires c = λ k d inside.
    let deck = c.args.cards.now in
    omega (arith, c.requires.known k d inside, ap length c.task_codes.ensures.codes, length-map deck.tasks (λ (task : TaskCard). task.code))

pub returns : goal.returns
returns c = cc (c.new.ensures, c.task_row-row.ensures, c.in_ok-names.ensures, c.task_codes.ensures.codes)
